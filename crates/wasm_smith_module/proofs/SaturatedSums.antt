-- Sums that stay at the greatest number of 64 bits.
use Rattle.std.proofs.Common.{◌≡◌, ℕ, ◌+◌, ◌-◌, ◌*◌, ◌^◌, ◌<◌, ◌≤◌, List, [], ◌∷◌, length, map, drop, get_or, replicate, min, refl, ap, sym, ◌∙◌, arith}
use Rattle.std.specs.List.{flat_map, sum_by}
use Rattle.std.proofs.lemmas.List.{drop_more, drop_all}
use Rattle.std.proofs.lemmas.List.Sums.{sum_by-append, sum_by-cons}
use Rattle.std.proofs.lemmas.List.Folds.{sum_by-replicate}
use Rattle.wasm_smith_module.specs.Measured.{saturated}

sum_then : (a b c : ℕ) → saturated (saturated (a + b) + c) ≡ saturated (a + (b + c))
sum_then a b c = omega arith

both_then : (a b c : ℕ) → saturated (saturated (a + saturated b) + c) ≡ saturated (a + (b + c))
both_then a b c = omega arith

-- a sum of one item more, whose size may be saturated
pub next_size : {A : Type 0} (f : A → ℕ) (xs : List A) (i size more total : ℕ) (x : A) → i < length xs → x ≡ get_or xs i x → more ≡ saturated (size + saturated (f x))
    → saturated (size + sum_by f (drop i xs)) ≡ total → saturated (more + sum_by f (drop (i + 1) xs)) ≡ total
next_size f xs i size more total x within is added so_far =
    let split : drop i xs ≡ x ∷ drop (i + 1) xs = drop_more xs i x within ∙ ap (λ y. y ∷ drop (i + 1) xs) (sym is) in
    let sum : sum_by f (drop i xs) ≡ f x + sum_by f (drop (i + 1) xs) = ap (sum_by f) split ∙ sum_by-cons f x (drop (i + 1) xs) in
    ap (λ n. saturated (n + sum_by f (drop (i + 1) xs))) added
    ∙ (both_then size (f x) (sum_by f (drop (i + 1) xs)) ∙ (ap (λ n. saturated (size + n)) (sym sum) ∙ so_far))

pub all_sizes : {A : Type 0} (f : A → ℕ) (xs : List A) (i size total : ℕ) → length xs ≤ i → size ≤ 2 ^ 64 - 1 → saturated (size + sum_by f (drop i xs)) ≡ total → size ≡ total
all_sizes f xs i size total past fits so_far =
    let none : sum_by f (drop i xs) ≡ 0 = ap (sum_by f) (drop_all i xs past) in
    omega (arith, none, fits, so_far)

pub first_size : {A : Type 0} (f : A → ℕ) (xs : List A) → saturated (0 + sum_by f (drop 0 xs)) ≡ saturated (sum_by f xs)
first_size f xs = let e : 0 + sum_by f xs ≡ sum_by f xs = omega arith in ap saturated e

pub exact_size : (a b : ℕ) → b ≤ 2 ^ 64 - 1 → saturated (a + b) ≡ saturated (a + saturated b)
exact_size a b fits = omega (arith, fits)

pub small_size : (a : ℕ) → a ≤ 2 ^ 64 - 1 → a ≡ saturated a
small_size a fits = omega (arith, fits)

-- sums over views
pub sum_mapped : {A B : Type 0} (f : B → ℕ) (g : A → B) (xs : List A) → sum_by f (map g xs) ≡ sum_by (λ x. f (g x)) xs
sum_mapped f g [] = refl
sum_mapped f g (x ∷ xs) = sum_by-cons f (g x) (map g xs) ∙ (ap (λ n. f (g x) + n) (sum_mapped f g xs) ∙ sym (sum_by-cons (λ x. f (g x)) x xs))

pub sum_joined : {A B : Type 0} (f : B → ℕ) (g : A → List B) (xs : List A) → sum_by f (flat_map g xs) ≡ sum_by (λ x. sum_by f (g x)) xs
sum_joined f g [] = refl
sum_joined f g (x ∷ xs) =
    sum_by-append f (g x) (flat_map g xs) ∙ (ap (λ n. sum_by f (g x) + n) (sum_joined f g xs) ∙ sym (sum_by-cons (λ x. sum_by f (g x)) x xs))

-- items of one type
alike : {A B : Type 0} (x : B) (names : List A) → map (λ name. x) names ≡ replicate (length names) x
alike x [] = refl
alike x (name ∷ names) = ap (λ l. x ∷ l) (alike x names)

pub sum_alike : {A B C : Type 0} (f : B → ℕ) (x : B) (g : A → C) (names : List A) → sum_by f (map (λ name. x) (map g names)) ≡ length names * f x
sum_alike f x g names = sum_mapped f (λ name. x) (map g names) ∙ (sum_mapped (λ name. f x) g names ∙ (sym (sum_mapped f (λ name. x) names) ∙ (ap (sum_by f) (alike x names) ∙ sum_by-replicate f (length names) x)))

pub sum_one : {A : Type 0} (f : A → ℕ) (x : A) → sum_by f (x ∷ []) ≡ f x
sum_one f x = sum_by-cons f x [] ∙ omega arith

pub whole_size : (a b i e s t : ℕ) → i ≡ saturated a → e ≡ saturated b → s ≡ min (i + e) (2 ^ 64 - 1) → t ≡ min (s + 1) (2 ^ 64 - 1) → t ≡ saturated (1 + (a + b))
whole_size a b i e s t imports exports both all = omega (arith, imports, exports, both, all)
