-- If the steps of imports and of tags ask for a first item, by the function types that are kept.
use Rattle.std.proofs.Common.{◌≡◌, ℕ, zero, suc, Bool, true, false, not, cond, List, [], ◌∷◌, length, map, refl, sym, ◌∙◌, inl, inr, arith}
use Rattle.std.specs.Prelude.{◌==◌, ◌||◌, nat_lt}
use Rattle.std.specs.List.{list_any}
use Rattle.std.proofs.lemmas.Bool.{lt-ltb}
use Rattle.std.proofs.lemmas.Bool.Decides.{eqb_tells}
use Rattle.std.proofs.lemmas.List.{length-map}
use Rattle.wasm_spec.specs.Types.{SubType}
use Rattle.wasm_smith_config.specs.declared.config.Config.{Config}
use Rattle.wasm_smith_definitions.specs.FunctionTypes.{is_resultless, function_indexes, tag_indexes}
use Rattle.wasm_smith_definitions.specs.Indexes.{places}
use Rattle.wasm_smith_witness.specs.Asking.{asks_for_import, asks_for_tag}
use Rattle.wasm_smith_witness.specs.Functions.{AreKept, are_some_resultless, import_is_asked, tag_is_asked}
use Rattle.wasm_smith_witness.specs.declared.functions.FunctionTypes.{FunctionTypes}

pub as_many : {A B : Type 0} (f : A → B) (xs : List A) → length (map f xs) ≡ length xs
as_many f xs = length-map xs f

-- ---- the indexes of types that pass a test

some_places : {A : Type 0} (test : A → Bool) (place : ℕ) (xs : List A) → nat_lt 0 (length (places test place xs)) ≡ list_any test xs
some_places test place [] = refl
some_places test place (x ∷ xs) = by_test (test x) (some_places test (suc place) xs)
  where
    by_test : (b : Bool) → nat_lt 0 (length (places test (suc place) xs)) ≡ list_any test xs
        → nat_lt 0 (length (cond b (place ∷ places test (suc place) xs) (places test (suc place) xs))) ≡ (b || list_any test xs)
    by_test true others = lt-ltb 0 (suc (length (places test (suc place) xs))) (omega arith)
    by_test false others = others

some_or_none : (n : ℕ) → not (n == 0) ≡ nat_lt 0 n
some_or_none zero = refl
some_or_none (suc n) =
    elim (eqb_tells (suc n) 0) [
      | inl (t, e) ↦ absurd (omega arith)
      | inr (t, ne) ↦ rw (t, lt-ltb 0 (suc n) (omega arith)) refl
    ]

-- ---- kept

or_none : (b : Bool) → (b || false) ≡ b
or_none true = refl
or_none false = refl

-- as many function types as are kept, and one without results where that is kept
record AreKnown (known : FunctionTypes) (types : List (SubType ℕ)) : Type 0 where
  functions : length (function_indexes 0 types) ≡ known.count
  tags : nat_lt 0 (length (tag_indexes 0 types)) ≡ known.has_resultless
  tag_types : not (length (tag_indexes 0 types) == 0) ≡ known.has_resultless

are_known : (known : FunctionTypes) (types : List (SubType ℕ)) → AreKept known [] types → AreKnown known types
are_known known types kept =
    let count : length (function_indexes 0 types) ≡ known.count = omega (arith, kept.count) in
    let resultless : are_some_resultless types ≡ known.has_resultless = sym kept.resultless ∙ or_none known.has_resultless in
    let some : nat_lt 0 (length (tag_indexes 0 types)) ≡ known.has_resultless = some_places (λ type. is_resultless type.composite_type) 0 types ∙ resultless in
    record {
      functions = count;
      tags = some;
      tag_types = some_or_none (length (tag_indexes 0 types)) ∙ some;
    }

pub import_known : (c : Config) (known : FunctionTypes) (types : List (SubType ℕ)) → AreKept known [] types → import_is_asked c known ≡ asks_for_import c types
import_known c known types kept = let are = are_known known types kept in rw (are.functions, are.tags) refl

pub tag_known : (c : Config) (known : FunctionTypes) (types : List (SubType ℕ)) → AreKept known [] types → tag_is_asked c known ≡ asks_for_tag c types
tag_known c known types kept = let are = are_known known types kept in rw are.tag_types refl
