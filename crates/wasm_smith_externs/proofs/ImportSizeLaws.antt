-- Sizes of types of imports, added up. A sum stays at the greatest number of 64 bits.
use Rattle.std.proofs.Common.{◌≡◌, ℕ, ◌+◌, ◌-◌, ◌*◌, ◌^◌, ◌≤◌, List, [], ◌∷◌, length, map, drop, replicate, min, refl, ap, sym, ◌∙◌, arith}
use Rattle.std.specs.List.{flat_map, sum_by}
use Rattle.std.proofs.lemmas.List.{drop_all}
use Rattle.std.proofs.lemmas.List.Folds.{sum_by-replicate}
use Rattle.std.proofs.lemmas.List.Sums.{sum_by-append, sum_by-cons}

-- what is added up when nothing is left
pub all_added : {A : Type 0} (size_of : A → ℕ) (xs : List A) (i size total : ℕ) → length xs ≤ i → size ≤ 2 ^ 64 - 1 → min (size + sum_by size_of (drop i xs)) (2 ^ 64 - 1) ≡ total → size ≡ total
all_added size_of xs i size total past fits so_far =
    let none : sum_by size_of (drop i xs) ≡ 0 = ap (sum_by size_of) (drop_all i xs past) in
    omega (arith, none, fits, so_far)

pub sum_mapped : {A B : Type 0} (size_of : B → ℕ) (view : A → B) (xs : List A) → sum_by size_of (map view xs) ≡ sum_by (λ x. size_of (view x)) xs
sum_mapped size_of view [] = refl
sum_mapped size_of view (x ∷ xs) =
    sum_by-cons size_of (view x) (map view xs) ∙ (ap (λ n. size_of (view x) + n) (sum_mapped size_of view xs) ∙ sym (sum_by-cons (λ x. size_of (view x)) x xs))

pub sum_joined : {A B : Type 0} (size_of : B → ℕ) (parts : A → List B) (xs : List A) → sum_by size_of (flat_map parts xs) ≡ sum_by (λ x. sum_by size_of (parts x)) xs
sum_joined size_of parts [] = refl
sum_joined size_of parts (x ∷ xs) =
    sum_by-append size_of (parts x) (flat_map parts xs)
    ∙ (ap (λ n. sum_by size_of (parts x) + n) (sum_joined size_of parts xs) ∙ sym (sum_by-cons (λ x. sum_by size_of (parts x)) x xs))

one_type : {A B : Type 0} (type : B) (names : List A) → map (λ name. type) names ≡ replicate (length names) type
one_type type [] = refl
one_type type (name ∷ names) = ap (λ types. type ∷ types) (one_type type names)

-- items of one type
pub sum_alike : {A B C : Type 0} (size_of : B → ℕ) (type : B) (view : A → C) (names : List A) → sum_by size_of (map (λ name. type) (map view names)) ≡ length names * size_of type
sum_alike size_of type view names =
    sum_mapped size_of (λ name. type) (map view names)
    ∙ (sum_mapped (λ name. size_of type) view names
    ∙ (sym (sum_mapped size_of (λ name. type) names) ∙ (ap (sum_by size_of) (one_type type names) ∙ sum_by-replicate size_of (length names) type)))
