-- A part of a type, and the recursive group that it stands in.
use Rattle.std.specs.Prelude.{ℕ}

pub record InGroup (T : Type 0) : Type 0 where
  pub inner : T
  pub rec_group_id : ℕ
