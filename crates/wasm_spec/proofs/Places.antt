-- Lists by place.
use Rattle.std.proofs.Common.{◌≡◌, ℕ, zero, suc, ◌+◌, ◌<◌, List, [], ◌∷◌, ◌++◌, length, refl, arith, ◌⊎◌, inl, inr, subst, Some, None}
use Rattle.std.specs.List.{slice_get, AllByRecursion}

pub get_left : {X : Type 0} (xs ys : List X) (i : ℕ) → i < length xs → slice_get (xs ++ ys) i ≡ slice_get xs i
get_left [] ys i h = absurd (omega arith)
get_left (x ∷ xs) ys zero h = refl
get_left (x ∷ xs) ys (suc i) h = get_left xs ys i (omega arith)

pub get_right : {X : Type 0} (xs ys : List X) (j : ℕ) → slice_get (xs ++ ys) (length xs + j) ≡ slice_get ys j
get_right [] ys j = let e : 0 + j ≡ j = omega arith in rw e
get_right (x ∷ xs) ys j = let e : suc (length xs) + j ≡ suc (length xs + j) = omega arith in rw e (get_right xs ys j)

pub get_some : {X : Type 0} (xs : List X) (i : ℕ) → i < length xs → (x : X) × (slice_get xs i ≡ Some x)
get_some [] i h = absurd (omega arith)
get_some (x ∷ xs) zero h = (x, refl)
get_some (x ∷ xs) (suc i) h = get_some xs i (omega arith)

pub get_cases : {X : Type 0} (xs ys : List X) (i : ℕ) (x : X) → slice_get (xs ++ ys) i ≡ Some x → (slice_get xs i ≡ Some x) ⊎ ((j : ℕ) × (i ≡ length xs + j) × (slice_get ys j ≡ Some x))
get_cases [] ys i x e = inr (i, omega arith, e)
get_cases (y ∷ xs) ys zero x e = inl e
get_cases (y ∷ xs) ys (suc i) x e =
    elim (get_cases xs ys i x e) [ inl at ↦ inl at | inr at ↦ inr (at.0, omega arith, at.2) ]

-- a place is in a list or past its end
pub get_either : {X : Type 0} (xs : List X) (i : ℕ) → ((x : X) × (slice_get xs i ≡ Some x) × (i < length xs)) ⊎ ((slice_get xs i ≡ None) × ((j : ℕ) × (i ≡ length xs + j)))
get_either [] i = inr (refl, (i, omega arith))
get_either (x ∷ xs) zero = inl (x, refl, omega arith)
get_either (x ∷ xs) (suc i) =
    elim (get_either xs i) [ inl at ↦ inl (at.0, at.1, omega (arith, at.2)) | inr at ↦ inr (at.0, (at.1.0, omega (arith, at.1.1))) ]

pub all_get : {X : Type 0} (P : X → Type 0) (xs : List X) → AllByRecursion P xs → (i : ℕ) (x : X) → slice_get xs i ≡ Some x → P x
all_get P [] h i x e = absurd cc
all_get P (y ∷ xs) h zero x e = let one : y ≡ x = cc in subst P one h.0
all_get P (y ∷ xs) h (suc i) x e = all_get P xs h.1 i x e

pub all_by_place : {X : Type 0} (P : X → Type 0) (xs : List X) → ((i : ℕ) (x : X) → slice_get xs i ≡ Some x → P x) → AllByRecursion P xs
all_by_place P [] h = tt
all_by_place P (x ∷ xs) h = (h 0 x refl, all_by_place P xs (λ i y e. h (suc i) y e))
