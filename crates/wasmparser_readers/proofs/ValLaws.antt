-- Value types that a byte alone stands for, and reference types among value types.
use Rattle.std.proofs.Common.{◌≡◌, ◌≢◌, inl, inr, ℕ, true, List, [], ◌∷◌, refl}
use Rattle.std.specs.Option.{option_map}
use Rattle.std.proofs.lemmas.Bool.{ne_eqb}
use Rattle.std.proofs.lemmas.Bool.Decides.{eqb_tells}
use Rattle.wasm_core_read.specs.TypeReading.{look_up, coded, heap_codes, shorthand, val_type_codes}
use Rattle.wasm_spec.specs.TypeReferences.{val_map}
use Rattle.wasm_spec.specs.Types as heaps
use Rattle.wasm_spec.specs.Types.{AbstractHeapType, Abstract, ValType, Ref}
use Rattle.wasmparser_types.specs.Index.{Index}
use Rattle.wasmparser_readers.specs.PackedReading.{packed_index}

abbrev null_to : AbstractHeapType → ValType Index
null_to heap = Ref true (Abstract heap)

abbrev shorthands : List AbstractHeapType → List (ℕ × ValType ℕ)
shorthands [] = []
shorthands (heap ∷ heaps) = shorthand heap ∷ shorthands heaps

abbrev all_coded : List AbstractHeapType → List (ℕ × AbstractHeapType)
all_coded [] = []
all_coded (heap ∷ heaps) = coded heap ∷ all_coded heaps

-- the nullable reference that a byte alone is, as its heap type says
heap_of : (heaps : List AbstractHeapType) (b : ℕ) → option_map (val_map packed_index) (look_up (shorthands heaps) b) ≡ option_map null_to (look_up (all_coded heaps) b)
heap_of [] b = refl
heap_of (heap ∷ heaps) b = elim (eqb_tells b (coded heap).0) [
  | inl (t, same) ↦ rw t refl
  | inr (t, other) ↦ rw t (heap_of heaps b)
]

abbrev all_heaps : List AbstractHeapType
all_heaps = heaps.NoCont ∷ heaps.NoExn ∷ heaps.NoFunc ∷ heaps.NoExtern ∷ heaps.None ∷ heaps.Func ∷ heaps.Extern ∷ heaps.Any ∷ heaps.Eq ∷ heaps.I31 ∷ heaps.Struct ∷ heaps.Array ∷ heaps.Exn ∷ heaps.Cont ∷ []

pub bare_heap : (b : ℕ) → b ≢ 0x7f → b ≢ 0x7e → b ≢ 0x7d → b ≢ 0x7c → b ≢ 0x7b → option_map (val_map packed_index) (look_up val_type_codes b) ≡ option_map null_to (look_up heap_codes b)
bare_heap b i j k l m = rw (ne_eqb b 0x7f i, ne_eqb b 0x7e j, ne_eqb b 0x7d k, ne_eqb b 0x7c l, ne_eqb b 0x7b m) (heap_of all_heaps b)
