-- The exports that are still to come.
use Rattle.std.proofs.Common.{◌≡◌, ◌≤◌, ◌<◌, ◌+◌, ℕ, zero, suc, List, [], ◌∷◌, Option, Some, None, length, option_map, slice_get, drop, refl, sym, ap, ◌∙◌, arith}
use Rattle.wasm_core_read.proofs.Forms.{some_is}

pub none_left : {A : Type 0} (xs : List A) (i : ℕ) → length xs ≤ i → drop i xs ≡ []
none_left [] zero le = refl
none_left [] (suc i) le = refl
none_left (x ∷ xs) zero le = absurd (omega (arith, le))
none_left (x ∷ xs) (suc i) le = none_left xs i (omega (arith, le))

nothing_left : {A : Type 0} (xs : List A) (i : ℕ) → slice_get xs i ≡ None → drop i xs ≡ []
nothing_left [] zero e = refl
nothing_left [] (suc i) e = refl
nothing_left (x ∷ xs) zero e = absurd cc
nothing_left (x ∷ xs) (suc i) e = nothing_left xs i e

pub none_comes : {A B : Type 0} (f : B → A) (xs : List A) (i : ℕ) (found : Option B) → option_map f found ≡ slice_get xs i → found ≡ None → drop i xs ≡ []
none_comes f xs i found is none = nothing_left xs i (sym is ∙ ap (option_map f) none)

first_left : {A : Type 0} (xs : List A) (i : ℕ) (x : A) → slice_get xs i ≡ Some x → drop i xs ≡ x ∷ drop (suc i) xs
first_left [] i x e = absurd cc
first_left (y ∷ xs) zero x e = ap (λ z. z ∷ xs) (some_is y x e)
first_left (y ∷ xs) (suc i) x e = first_left xs i x e

pub first_comes : {A B : Type 0} (f : B → A) (xs : List A) (i : ℕ) (found : Option B) (x : B) → option_map f found ≡ slice_get xs i → found ≡ Some x → drop i xs ≡ f x ∷ drop (i + 1) xs
first_comes f xs i found x is some =
    let k : i + 1 ≡ suc i = omega arith in
    rw k (first_left xs i (f x) (sym is ∙ ap (option_map f) some))

pub fewer_left : {A B : Type 0} (f : B → A) (xs : List A) (i : ℕ) (found : Option B) (x : B) → option_map f found ≡ slice_get xs i → found ≡ Some x → length (drop (i + 1) xs) < length (drop i xs)
fewer_left f xs i found x is some = omega (arith, ap length (first_comes f xs i found x is some))

pub ruleset next_steps = (none_left, none_comes, first_comes, fewer_left)
