-- Spaces in which imported items stand before the module's own.
use Rattle.std.proofs.Common.{◌≡◌, ◌≤◌, ◌<◌, ◌-◌, ℕ, zero, suc, List, [], ◌∷◌, ◌++◌, length, slice_get, refl, ap, ◌∙◌, arith}

module _ {A : Type 0} where
  pub at_front : (xs ys : List A) (i : ℕ) → i < length xs → slice_get (xs ++ ys) i ≡ slice_get xs i
  at_front [] ys i lt = absurd (omega (arith, lt))
  at_front (x ∷ xs) ys zero lt = refl
  at_front (x ∷ xs) ys (suc i) lt = at_front xs ys i (omega (arith, lt))

  pub after_front : (xs ys : List A) (i : ℕ) → length xs ≤ i → slice_get (xs ++ ys) i ≡ slice_get ys (i - length xs)
  after_front [] ys i le = ap (slice_get ys) (omega arith)
  after_front (x ∷ xs) ys zero le = absurd (omega (arith, le))
  after_front (x ∷ xs) ys (suc i) le = after_front xs ys i (omega (arith, le)) ∙ ap (slice_get ys) (omega arith)

pub ruleset space_steps = (at_front, after_front)
