-- A module that is being written.
use Rattle.std.specs.Prelude.{ℕ, List}

-- its bytes, and how many there is room for
pub record ModuleBytes : Type 0 where
  pub bytes : List ℕ
  pub capacity : ℕ
