-- Lists of encodings, and what holds of each item.
use Rattle.std.proofs.Common.{ℕ, ◌^◌, ◌<◌, List, [], ◌∷◌, ◌++◌, length, refl, arith, length-append}
use Rattle.std.specs.List.{AllByRecursion, flat_map}
use Rattle.wasm_spec.specs.Bytes.{IsByte, AreBytes, IsU32, IsItems, IsList}
use Rattle.wasm_spec.specs.Shortest.{unsigned_encoding, list_encoding}
use Rattle.wasm_spec.proofs.EncodingBytes.{of_u32}
use Rattle.wasm_spec.proofs.NumberLaws.{unsigned_spelled}
use Rattle.wasm_spec.proofs.ShortestForms.{HasSome, as_many}

pub number_is : (n : ℕ) → n < 2 ^ 32 → IsU32 (unsigned_encoding n) n
number_is n fits = unsigned_spelled 32 n fits

pub number_bytes : (n : ℕ) → n < 2 ^ 32 → AreBytes (unsigned_encoding n)
number_bytes n fits = of_u32 (unsigned_encoding n) n (number_is n fits)

-- ---- what holds of each

pub all_append : {A : Type 0} (P : A → Type 0) (xs ys : List A) → AllByRecursion P xs → AllByRecursion P ys → AllByRecursion P (xs ++ ys)
all_append P [] ys p q = q
all_append P (x ∷ xs) ys p q = (p.0, all_append P xs ys p.1 q)

pub all_behind : {A : Type 0} (P : A → Type 0) (xs ys : List A) → AllByRecursion P (xs ++ ys) → AllByRecursion P ys
all_behind P [] ys h = h
all_behind P (x ∷ xs) ys h = all_behind P xs ys h.1

-- ---- the grammar

pub items_are : {A : Type 0} (IsA : List ℕ → A → Type 0) (bytes : A → List ℕ) (P : A → Type 0) → ((x : A) → P x → IsA (bytes x) x) → (xs : List A) → AllByRecursion P xs
    → IsItems IsA (flat_map bytes xs) xs
items_are IsA bytes P law [] h = refl
items_are IsA bytes P law (x ∷ xs) h = (bytes x, flat_map bytes xs, refl, law x h.0, items_are IsA bytes P law xs h.1)

-- items of a list that isn't too long
short_items_are : {A : Type 0} (IsA : List ℕ → A → Type 0) (bytes : A → List ℕ) (P : A → Type 0) → ((x : A) → P x → length (bytes x) < 2 ^ 32 → IsA (bytes x) x) → (xs : List A)
    → AllByRecursion P xs → length (flat_map bytes xs) < 2 ^ 32 → IsItems IsA (flat_map bytes xs) xs
short_items_are IsA bytes P law [] h short = refl
short_items_are IsA bytes P law (x ∷ xs) h short =
    let both = length-append (bytes x) (flat_map bytes xs) in
    (bytes x, flat_map bytes xs, refl, law x h.0 (omega (arith, short, both)), short_items_are IsA bytes P law xs h.1 (omega (arith, short, both)))

-- a list that isn't too long, of items that have some bytes each, has few items
pub few_items : {A : Type 0} (bytes : A → List ℕ) → HasSome bytes → (xs : List A) → length (list_encoding bytes xs) < 2 ^ 32 → length xs < 2 ^ 32
unfolding list_encoding
few_items bytes some xs short = omega (arith, short, as_many bytes some xs, length-append (unsigned_encoding (length xs)) (flat_map bytes xs))

pub list_is : {A : Type 0} (IsA : List ℕ → A → Type 0) (bytes : A → List ℕ) (P : A → Type 0) → HasSome bytes → ((x : A) → P x → length (bytes x) < 2 ^ 32 → IsA (bytes x) x) → (xs : List A)
    → AllByRecursion P xs → length (list_encoding bytes xs) < 2 ^ 32 → IsList IsA (list_encoding bytes xs) xs
unfolding list_encoding
list_is IsA bytes P some law xs h short =
    let both = length-append (unsigned_encoding (length xs)) (flat_map bytes xs) in
    let few : length xs < 2 ^ 32 = omega (arith, short, as_many bytes some xs, both) in
    (unsigned_encoding (length xs), flat_map bytes xs, refl, number_is (length xs) few, short_items_are IsA bytes P law xs h (omega (arith, short, both)))

encodings_bytes : {A : Type 0} (bytes : A → List ℕ) (P : A → Type 0) → ((x : A) → P x → AreBytes (bytes x)) → (xs : List A) → AllByRecursion P xs → AreBytes (flat_map bytes xs)
encodings_bytes bytes P law [] h = tt
encodings_bytes bytes P law (x ∷ xs) h = all_append IsByte (bytes x) (flat_map bytes xs) (law x h.0) (encodings_bytes bytes P law xs h.1)

pub list_bytes : {A : Type 0} (bytes : A → List ℕ) (P : A → Type 0) → ((x : A) → P x → AreBytes (bytes x)) → (xs : List A) → AllByRecursion P xs → length xs < 2 ^ 32
    → AreBytes (list_encoding bytes xs)
unfolding list_encoding
list_bytes bytes P law xs h few =
    all_append IsByte (unsigned_encoding (length xs)) (flat_map bytes xs) (number_bytes (length xs) few) (encodings_bytes bytes P law xs h)
