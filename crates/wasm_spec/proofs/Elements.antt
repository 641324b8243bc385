-- Elements of lists.
use Rattle.std.proofs.Common.{◌≡◌, zero, suc, List, [], ◌∷◌, map, refl, ap, arith, ◌⊎◌, inl, inr, subst}
use Rattle.std.specs.List.{Contains, AllByRecursion}

pub contains_first : {X : Type 0} (x : X) (xs : List X) → Contains (x ∷ xs) x
contains_first x xs = (0, omega arith, refl)

pub contains_more : {X : Type 0} (x y : X) (ys : List X) → Contains ys x → Contains (y ∷ ys) x
contains_more x y ys h = let lt = h.1 in (suc h.0, omega (arith, lt), h.2)

pub contains_cases : {X : Type 0} (x y : X) (ys : List X) → Contains (y ∷ ys) x → (y ≡ x) ⊎ Contains ys x
contains_cases x y ys (zero, h, e) = inl e
contains_cases x y ys (suc k, h, e) = inr (k, omega (arith, h), e)

pub contains_none : {X : Type 0} (x : X) → Contains [] x → ⊥
contains_none x h = let lt = h.1 in absurd (omega (arith, lt))

pub contains_map : {X Y : Type 0} (f : X → Y) (x : X) (xs : List X) → Contains xs x → Contains (map f xs) (f x)
contains_map f x [] h = absurd (contains_none x h)
contains_map f x (y ∷ ys) h = elim (contains_cases x y ys h) [
  | inl e ↦ (0, omega arith, ap f e)
  | inr more ↦ contains_more (f x) (f y) (map f ys) (contains_map f x ys more)
]

pub all_contains : {X : Type 0} (P : X → Type 0) (x : X) (xs : List X) → AllByRecursion P xs → Contains xs x → P x
all_contains P x [] all h = absurd (contains_none x h)
all_contains P x (y ∷ ys) all h = elim (contains_cases x y ys h) [
  | inl e ↦ subst P e all.0
  | inr more ↦ all_contains P x ys all.1 more
]
