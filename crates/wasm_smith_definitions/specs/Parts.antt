-- Some of the items of a list.
use Rattle.std.specs.Prelude.{List, [], ◌∷◌}

-- these items of a list, in its order
pub data IsPart {A : Type 0} : List A → List A → Type 0 where
  none : IsPart [] []
  kept : {x : A} {chosen items : List A} → IsPart chosen items → IsPart (x ∷ chosen) (x ∷ items)
  left_out : {x : A} {chosen items : List A} → IsPart chosen items → IsPart chosen (x ∷ items)
