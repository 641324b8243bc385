-- Constant expressions as their bytes.
use Rattle.std.specs.Prelude.{◌≡◌, ◌<◌, ◌^◌, ℕ, List, [], ◌∷◌, ◌++◌, length}
use Rattle.std.specs.List.{AllByRecursion}
use Rattle.wasm_spec.specs.Bytes.{IsU32}

-- an expression, which ends with a byte of its own (Core Specification 3.0, Binary Format, "Expressions")
abbrev pub expression_encoding : List ℕ → List ℕ
expression_encoding bytes = bytes ++ 0x0b ∷ []

-- The bytes begin with a reference to this function, the number padded or not.
abbrev pub BeginsWithFunction : List ℕ → ℕ → Type 0
BeginsWithFunction bytes function = (index rest : List ℕ) × (bytes ≡ 0xd2 ∷ index ++ rest) × IsU32 index function

-- None of the items is written as more bytes than a number of 32 bits can state.
abbrev pub AreShort : {A : Type 0} → (A → List ℕ) → List A → Type 0
AreShort encoding items = AllByRecursion (λ item. length (encoding item) < 2 ^ 32) items
