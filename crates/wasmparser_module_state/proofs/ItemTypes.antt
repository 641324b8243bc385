-- Types of items over type indexes, however these are packed.
use Rattle.std.proofs.Common.{◌≡◌, ℕ, Option, length, nat_lt, Bool, true, false, refl}
use Rattle.std.proofs.Common as option
use Rattle.wasm_spec.specs.TypeReferences.{heap_map, ref_map}
use Rattle.wasm_spec.specs.Types.{HeapType, Abstract, Concrete, RefType}
use Rattle.wasm_validity.specs.Context.{Context}
use Rattle.wasm_validity.specs.TypeRules.{is_named}
use Rattle.wasmparser_constants.proofs.WantedTypes.{same_gate}
use Rattle.wasmparser_types.specs.Index.{Index, number_of}
use Rattle.wasmparser_types.specs.HeapTypes.{defined}

abbrev pub named_if : ℕ → Option Index → Bool
named_if count option.None = true
named_if count (option.Some index) = nat_lt (number_of index) count

pub named_by : (cx : Context) (type : RefType Index) (found : Option Index) → found ≡ defined type.heap_type → is_named cx (ref_map number_of type).heap_type ≡ named_if (length cx.types) found
named_by cx type found e = rw e (by_heap type.heap_type)
  where
    by_heap : (heap : HeapType Index) → is_named cx (heap_map number_of heap) ≡ named_if (length cx.types) (defined heap)
    by_heap (Abstract heap) = refl
    by_heap (Concrete index) = refl

pub ruleset named_steps = (named_by)

pub ruleset item_steps = (same_gate)
