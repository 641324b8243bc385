-- What the bytes of sections tell.
use Rattle.std.specs.Prelude.{◌≡◌, ℕ, ◌<◌, ◌^◌, List, length}
use Rattle.std.specs.List.{AllByRecursion}
use Rattle.wasm_core_read.specs.Laws.{HasValue}
use Rattle.wasm_spec.specs.Shortest.{list_encoding, framed_encoding}

-- what is said of two lists of items of one kind that have the same bytes
abbrev pub TellsItems : {A : Type 0} → (A → List ℕ) → (A → Type 0) → Type 0
TellsItems {A} bytes IsSmall =
    (xs ys : List A) → AllByRecursion IsSmall xs → AllByRecursion IsSmall ys → length (list_encoding bytes xs) < 2 ^ 32 → length (list_encoding bytes ys) < 2 ^ 32
    → framed_encoding (list_encoding bytes xs) ≡ framed_encoding (list_encoding bytes ys) → xs ≡ ys

-- what is said of two lists of encodings of a form that are written as the same bytes
abbrev pub TellsEncodings : {A : Type 0} → (List ℕ → A → Type 0) → Type 0
TellsEncodings {A} IsA =
    (xs ys : List (List ℕ)) → AllByRecursion (HasValue IsA) xs → AllByRecursion (HasValue IsA) ys
    → framed_encoding (list_encoding (λ item. item) xs) ≡ framed_encoding (list_encoding (λ item. item) ys) → xs ≡ ys
