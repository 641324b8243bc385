-- Parts of a module, one after the other.
use Rattle.std.specs.Prelude.{ℕ, suc}

-- so many parts are passed from one state to another, each of them by this relation
pub data ArePassed {S : Type 0} (Passes : S → S → Type 0) (start : S) : ℕ → S → Type 0 where
  none : ArePassed Passes start 0 start
  one_more : {number : ℕ} {old : S} (new : S) → ArePassed Passes start number old → Passes old new → ArePassed Passes start (suc number) new
