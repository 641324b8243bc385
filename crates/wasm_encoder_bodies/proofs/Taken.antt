-- What was taken of an iterator.
use Rattle.std.proofs.Common.{List, [], ◌∷◌, ◌++◌, Option, refl, sym, subst}
use Rattle.std.specs.Prelude.{Some}
use Rattle.std.specs.Iterator.{Yields}

-- one item more
pub one_more_taken : {S A : Type 0} (steps : S → Option A → S → Type 0) (xs : List A) (x : A) (s t u : S) → Yields steps s xs t → steps t (Some x) u → Yields steps s (xs ++ x ∷ []) u
one_more_taken steps [] x s t u a b = (u, subst (λ k. steps k (Some x) u) (sym a) b, refl)
one_more_taken steps (y ∷ ys) x s t u a b = (a.0, a.1, one_more_taken steps ys x a.0 t u a.2 b)
