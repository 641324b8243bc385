-- The length of an item of a list.
use Rattle.std.proofs.Common.{◌≡◌, ◌<◌, ◌^◌, ℕ, List, length, map, get_or, slice_get, Option, Some, None, Result, Ok, Err, refl, sym, ap, ◌∙◌, arith}
use Rattle.std.specs.Option.{option_map}
use Rattle.std.specs.Result.{result_unwrap_or}
use Rattle.std.proofs.lemmas.List.{length-map}
use Rattle.std.proofs.lemmas.Option.{slice_get-map, slice_get-get_or}
use Rattle.wasm_spec.proofs.ListEncodings.{item_within}
use Rattle.wasm_core_write.specs.Encoding.{Measures, TellsItem}
use Rattle.wasm_core_write.specs.declared.encode_error.EncodeError.{EncodeError}
use Rattle.wasm_core_write.specs.declared.encode_error.EncodeError.TheVariants as errors
use Rattle.wasm_core_write.proofs.TypeLists.{list_mapped}

measured : (size : Result ℕ EncodeError) (n : ℕ) → Measures size n n → n < 2 ^ 32 → result_unwrap_or size 0 ≡ n
measured (Ok m) n h few = h.0
measured (Err errors.Memory) n h few = absurd h
measured (Err errors.TooLong) n h few = absurd (omega (arith, h, few))

-- an item that is there
pub told : {A : Type 0} (bytes : A → List ℕ) (items : List A) (i : ℕ) (item : A) (size : Result ℕ EncodeError) (n : ℕ) → i < length items → item ≡ get_or items i item
    → Measures size (length (bytes item)) (length (bytes item)) → n ≡ result_unwrap_or size 0 → TellsItem bytes items i (Some n)
told bytes items i item size n within same h e =
    let at : slice_get items i ≡ Some item = slice_get-get_or items i item within ∙ ap (λ x. Some x) (sym same) in (
      (λ none. absurd cc, λ past. absurd (omega (arith, within, past))),
      λ few.
          let some = item_within bytes items i item within same in
          ap (λ (k : ℕ). Some k) (e ∙ measured size (length (bytes item)) h (omega (arith, some, few)))
          ∙ sym (ap (option_map (λ x. length (bytes x))) at),
    )

-- an item of a list, and of the list of its items' views
pub viewed : {A B : Type 0} (bytes : B → List ℕ) (view : A → B) (items : List A) (i : ℕ) (told : Option ℕ) → TellsItem (λ x. bytes (view x)) items i told → TellsItem bytes (map view items) i told
viewed {A = A} bytes view items i told h = (
  (λ none. omega (arith, h.0.0 none, length-map items view), λ past. h.0.1 (omega (arith, past, length-map items view))),
  λ few. h.1 (omega (arith, few, ap length (list_mapped bytes view items))) ∙ twice (slice_get items i) ∙ sym (ap (option_map (λ y. length (bytes y))) (slice_get-map view items i)),
)
  where
    twice : (o : Option A) → option_map (λ x. length (bytes (view x))) o ≡ option_map (λ y. length (bytes y)) (option_map view o)
    twice None = refl
    twice (Some x) = refl
