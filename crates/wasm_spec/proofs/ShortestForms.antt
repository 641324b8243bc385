-- What is shortest of parts is shortest of the whole.
use Rattle.std.proofs.Common.{◌≡◌, ℕ, ◌^◌, ◌<◌, ◌≤◌, List, [], ◌∷◌, ◌++◌, length, refl, ap, arith, length-append}
use Rattle.std.specs.List.{AllByRecursion, flat_map}
use Rattle.wasm_spec.specs.Bytes.{IsPair, IsMarked, IsItems, IsList, IsShortest}
use Rattle.wasm_spec.specs.Shortest.{unsigned_encoding, list_encoding}
use Rattle.wasm_spec.proofs.NumberLaws.{shortest_unsigned}

-- a form that has one encoding alone
pub alone : {A : Type 0} (bytes : List ℕ) (value : A) → IsShortest (λ encoding _. encoding ≡ bytes) bytes value
alone bytes value = record { encodes = refl; shortest = λ other h. omega (arith, ap length h) }

pub marked : {A : Type 0} (code : ℕ) (IsA : List ℕ → A → Type 0) (bytes : List ℕ) (value : A) → IsShortest IsA bytes value → IsShortest (IsMarked code IsA) (code ∷ bytes) value
marked code IsA bytes value s = record {
  encodes = (bytes, refl, s.encodes);
  shortest = λ other h. omega (arith, ap length h.1, s.shortest h.0 h.2);
}

pub pair : {A B : Type 0} (IsA : List ℕ → A → Type 0) (IsB : List ℕ → B → Type 0) (first others : List ℕ) (a : A) (b : B) → IsShortest IsA first a → IsShortest IsB others b
    → IsShortest (IsPair IsA IsB) (first ++ others) (a, b)
pair IsA IsB first others a b s t = record {
  encodes = (first, others, refl, s.encodes, t.encodes);
  shortest = λ other h. omega (arith, length-append first others, ap length h.2, length-append h.0 h.1, s.shortest h.0 h.3, t.shortest h.1 h.4);
}

-- Each value of which P holds, and whose encoding isn't too long for a frame, is written in its shortest encoding.
abbrev pub WritesShortest : {A : Type 0} → (List ℕ → A → Type 0) → (A → List ℕ) → (A → Type 0) → Type 0
WritesShortest {A} IsA bytes P = (value : A) → P value → length (bytes value) < 2 ^ 32 → IsShortest IsA (bytes value) value

-- an encoding has a byte
abbrev pub HasSome : {A : Type 0} → (A → List ℕ) → Type 0
HasSome {A} bytes = (value : A) → 0 < length (bytes value)

items : {A : Type 0} (IsA : List ℕ → A → Type 0) (bytes : A → List ℕ) (P : A → Type 0) → WritesShortest IsA bytes P → (values : List A) → AllByRecursion P values
    → length (flat_map bytes values) < 2 ^ 32 → IsShortest (IsItems IsA) (flat_map bytes values) values
items IsA bytes P law [] h short = record { encodes = refl; shortest = λ other e. omega arith }
items IsA bytes P law (value ∷ values) h short =
    let both = length-append (bytes value) (flat_map bytes values) in
    let first = law value h.0 (omega (arith, short, both)) in
    let rest = items IsA bytes P law values h.1 (omega (arith, short, both)) in
    record {
      encodes = (bytes value, flat_map bytes values, refl, first.encodes, rest.encodes);
      shortest = λ other o. omega (arith, both, ap length o.2, length-append o.0 o.1, first.shortest o.0 o.3, rest.shortest o.1 o.4);
    }

-- there are no more items than bytes
pub as_many : {A : Type 0} (bytes : A → List ℕ) → HasSome bytes → (values : List A) → length values ≤ length (flat_map bytes values)
as_many bytes some [] = omega arith
as_many bytes some (value ∷ values) = omega (arith, some value, as_many bytes some values, length-append (bytes value) (flat_map bytes values))

pub list : {A : Type 0} (IsA : List ℕ → A → Type 0) (bytes : A → List ℕ) (P : A → Type 0) → HasSome bytes → WritesShortest IsA bytes P
    → WritesShortest (IsList IsA) (list_encoding bytes) (AllByRecursion P)
unfolding list_encoding
list IsA bytes P some law values h short =
    let both = length-append (unsigned_encoding (length values)) (flat_map bytes values) in
    let count = shortest_unsigned 32 (length values) (omega (arith, short, both, as_many bytes some values)) in
    let entries = items IsA bytes P law values h (omega (arith, short, both)) in
    record {
      encodes = (unsigned_encoding (length values), flat_map bytes values, refl, count.encodes, entries.encodes);
      shortest = λ other o. omega (arith, both, ap length o.2, length-append o.0 o.1, count.shortest o.0 o.3, entries.shortest o.1 o.4);
    }
