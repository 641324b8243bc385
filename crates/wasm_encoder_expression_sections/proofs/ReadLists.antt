-- A list of encodings reads as the list of what each reads as.
use Rattle.std.proofs.Common.{◌≡◌, ℕ, suc, ◌<◌, ◌^◌, List, [], ◌∷◌, length, refl, ap, subst}
use Rattle.std.specs.List.{AllZip, flat_map}
use Rattle.wasm_spec.specs.Bytes.{IsU32, IsItems, IsList}
use Rattle.wasm_spec.specs.Shortest.{unsigned_encoding, list_encoding}
use Rattle.wasm_spec.proofs.NumberLaws.{unsigned_spelled}

entries : {A B : Type 0} (IsA : List ℕ → A → Type 0) (encoding : B → List ℕ) (items : List B) (values : List A) → AllZip (λ item value. IsA (encoding item) value) items values
    → IsItems IsA (flat_map encoding items) values
entries IsA encoding [] [] h = refl
entries IsA encoding [] (value ∷ values) h = absurd h
entries IsA encoding (item ∷ items) [] h = absurd h
entries IsA encoding (item ∷ items) (value ∷ values) h = (encoding item, flat_map encoding items, refl, h.0, entries IsA encoding items values h.1)

as_many : {A B : Type 0} (R : B → A → Type 0) (items : List B) (values : List A) → AllZip R items values → length items ≡ length values
as_many R [] [] h = refl
as_many R [] (value ∷ values) h = absurd h
as_many R (item ∷ items) [] h = absurd h
as_many R (item ∷ items) (value ∷ values) h = ap (λ n. suc n) (as_many R items values h.1)

pub list : {A B : Type 0} (IsA : List ℕ → A → Type 0) (encoding : B → List ℕ) (items : List B) (values : List A) → length items < 2 ^ 32
    → AllZip (λ item value. IsA (encoding item) value) items values → IsList IsA (list_encoding encoding items) values
unfolding list_encoding
list IsA encoding items values few h =
    let count = subst (IsU32 (unsigned_encoding (length items))) (as_many (λ item value. IsA (encoding item) value) items values h) (unsigned_spelled 32 (length items) few) in
    (unsigned_encoding (length items), flat_map encoding items, refl, count, entries IsA encoding items values h)
