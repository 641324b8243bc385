-- Lists of encodings.
use Rattle.std.proofs.Common.{◌≡◌, ℕ, suc, ◌+◌, ◌*◌, ◌^◌, ◌<◌, ◌≤◌, List, [], ◌∷◌, ◌++◌, length, refl, arith, length-append}
use Rattle.std.specs.List.{AllByRecursion, flat_map}
use Rattle.wasm_spec.specs.Bytes.{IsByte, AreBytes, IsItems, IsList}
use Rattle.wasm_spec.specs.Shortest.{unsigned_encoding, list_encoding}
use Rattle.wasm_spec.proofs.UnsignedEncodings.{at_most_five}
use Rattle.wasm_gen_sessions.proofs.Numbers.{number_is, number_bytes}

-- ---- what holds of each

pub all_are : {A : Type 0} (P Q : A → Type 0) → ((x : A) → P x → Q x) → (xs : List A) → AllByRecursion P xs → AllByRecursion Q xs
all_are P Q f [] h = tt
all_are P Q f (x ∷ xs) h = (f x h.0, all_are P Q f xs h.1)

pub both : {A : Type 0} (P Q : A → Type 0) (xs : List A) → AllByRecursion P xs → AllByRecursion Q xs → AllByRecursion (λ x. P x × Q x) xs
both P Q [] p q = tt
both P Q (x ∷ xs) p q = ((p.0, q.0), both P Q xs p.1 q.1)

pub all_append : {A : Type 0} (P : A → Type 0) (xs ys : List A) → AllByRecursion P xs → AllByRecursion P ys → AllByRecursion P (xs ++ ys)
all_append P [] ys p q = q
all_append P (x ∷ xs) ys p q = (p.0, all_append P xs ys p.1 q)

-- ---- the grammar

items_are : {A : Type 0} (IsA : List ℕ → A → Type 0) (bytes : A → List ℕ) (P : A → Type 0) → ((x : A) → P x → IsA (bytes x) x)
    → (xs : List A) → AllByRecursion P xs → IsItems IsA (flat_map bytes xs) xs
items_are IsA bytes P law [] h = refl
items_are IsA bytes P law (x ∷ xs) h = (bytes x, flat_map bytes xs, refl, law x h.0, items_are IsA bytes P law xs h.1)

pub list_is : {A : Type 0} (IsA : List ℕ → A → Type 0) (bytes : A → List ℕ) (P : A → Type 0) → ((x : A) → P x → IsA (bytes x) x)
    → (xs : List A) → AllByRecursion P xs → length xs < 2 ^ 32 → IsList IsA (list_encoding bytes xs) xs
unfolding list_encoding
list_is IsA bytes P law xs h few = (unsigned_encoding (length xs), flat_map bytes xs, refl, number_is (length xs) few, items_are IsA bytes P law xs h)

encodings_bytes : {A : Type 0} (bytes : A → List ℕ) (P : A → Type 0) → ((x : A) → P x → AreBytes (bytes x)) → (xs : List A) → AllByRecursion P xs → AreBytes (flat_map bytes xs)
encodings_bytes bytes P law [] h = tt
encodings_bytes bytes P law (x ∷ xs) h = all_append IsByte (bytes x) (flat_map bytes xs) (law x h.0) (encodings_bytes bytes P law xs h.1)

pub list_bytes : {A : Type 0} (bytes : A → List ℕ) (P : A → Type 0) → ((x : A) → P x → AreBytes (bytes x))
    → (xs : List A) → AllByRecursion P xs → length xs < 2 ^ 32 → AreBytes (list_encoding bytes xs)
unfolding list_encoding
list_bytes bytes P law xs h few =
    all_append IsByte (unsigned_encoding (length xs)) (flat_map bytes xs) (number_bytes (length xs) few) (encodings_bytes bytes P law xs h)

-- ---- lengths

one_more : (most n : ℕ) → most + most * n ≡ most * suc n
one_more most n = omega arith

encodings_length : {A : Type 0} (bytes : A → List ℕ) (P : A → Type 0) (most : ℕ) → ((x : A) → P x → length (bytes x) ≤ most)
    → (xs : List A) → AllByRecursion P xs → length (flat_map bytes xs) ≤ most * length xs
encodings_length bytes P most law [] h = omega arith
encodings_length bytes P most law (x ∷ xs) h =
    omega (arith, length-append (bytes x) (flat_map bytes xs), law x h.0, encodings_length bytes P most law xs h.1, one_more most (length xs))

pub list_length : {A : Type 0} (bytes : A → List ℕ) (P : A → Type 0) (most : ℕ) → ((x : A) → P x → length (bytes x) ≤ most)
    → (xs : List A) → AllByRecursion P xs → length xs < 2 ^ 32 → length (list_encoding bytes xs) ≤ 5 + most * length xs
unfolding list_encoding
list_length bytes P most law xs h few =
    omega (arith, length-append (unsigned_encoding (length xs)) (flat_map bytes xs), at_most_five (length xs) few, encodings_length bytes P most law xs h)
