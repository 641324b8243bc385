-- The text of types, in which a reference is the number of a group, a dot and a place there, or `own`, a dot and a place.
use Rattle.std.specs.Prelude.{ℕ, List, [], ◌∷◌, ◌++◌, codes, decimal, flat_map, Option, None, Some, if◌then◌else◌}
use Rattle.wasm_gen_view.specs.declared.types.CompositeType.{CompositeType}
use Rattle.wasm_gen_view.specs.declared.types.CompositeType.TheVariants.{Func, Struct, Array, Cont}
use Rattle.wasm_gen_view.specs.declared.types.FieldType.{FieldType}
use Rattle.wasm_gen_view.specs.declared.types.HeapType.{HeapType}
use Rattle.wasm_gen_view.specs.declared.types.HeapType.TheVariants as heaps
use Rattle.wasm_gen_view.specs.declared.types.RefType.{RefType}
use Rattle.wasm_gen_view.specs.declared.types.StorageType.{StorageType}
use Rattle.wasm_gen_view.specs.declared.types.StorageType.TheVariants.{I8, I16, Val}
use Rattle.wasm_gen_view.specs.declared.types.SubType.{SubType}
use Rattle.wasm_gen_view.specs.declared.types.TypePlace.{TypePlace}
use Rattle.wasm_gen_view.specs.declared.types.TypeReference.{TypeReference}
use Rattle.wasm_gen_view.specs.declared.types.TypeReference.TheVariants.{Own, Other}
use Rattle.wasm_gen_view.specs.declared.types.ValType.{ValType}
use Rattle.wasm_gen_view.specs.declared.types.ValType.TheVariants.{I32, I64, F32, F64, V128, Ref}

-- ---- forms of text

-- a dash for what isn't there
abbrev pub or_dash : {A : Type 0} → (A → List ℕ) → Option A → List ℕ
or_dash text None = codes "-"
or_dash text (Some x) = text x

-- the items of a list, separated by a space
abbrev pub parted : {A : Type 0} → (A → List ℕ) → List A → List ℕ
parted text [] = []
parted text (x ∷ xs) = text x ++ flat_map (λ y. codes " " ++ text y) xs

-- a list in brackets
abbrev pub list_text : {A : Type 0} → (A → List ℕ) → List A → List ℕ
list_text text xs = codes "[" ++ parted text xs ++ codes "]"

-- ---- references

abbrev pub place_text : TypePlace → List ℕ
place_text type = decimal type.group ++ codes "." ++ decimal type.place

abbrev pub reference_text : TypeReference → List ℕ
reference_text (Own place) = codes "own." ++ decimal place
reference_text (Other type) = place_text type

-- ---- types

abbrev pub heap_text : HeapType → List ℕ
heap_text heaps.Func = codes "func"
heap_text heaps.Extern = codes "extern"
heap_text heaps.Any = codes "any"
heap_text heaps.None = codes "none"
heap_text heaps.NoExtern = codes "noextern"
heap_text heaps.NoFunc = codes "nofunc"
heap_text heaps.Eq = codes "eq"
heap_text heaps.Struct = codes "struct"
heap_text heaps.Array = codes "array"
heap_text heaps.I31 = codes "i31"
heap_text heaps.Exn = codes "exn"
heap_text heaps.NoExn = codes "noexn"
heap_text heaps.Cont = codes "cont"
heap_text heaps.NoCont = codes "nocont"
heap_text (heaps.Defined reference) = reference_text reference

abbrev pub ref_text : RefType → List ℕ
ref_text type = (if type.nullable then codes "refnull(" else codes "ref(") ++ heap_text type.heap_type ++ codes ")"

abbrev pub val_text : ValType → List ℕ
val_text I32 = codes "i32"
val_text I64 = codes "i64"
val_text F32 = codes "f32"
val_text F64 = codes "f64"
val_text V128 = codes "v128"
val_text (Ref type) = ref_text type

abbrev pub storage_text : StorageType → List ℕ
storage_text I8 = codes "i8"
storage_text I16 = codes "i16"
storage_text (Val type) = val_text type

abbrev pub field_text : FieldType → List ℕ
field_text field = (if field.mutable then codes "var:" else codes "const:") ++ storage_text field.element_type

-- functions by their parameters and results
abbrev pub composite_text : CompositeType → List ℕ
composite_text (Func type) = codes "func " ++ list_text val_text type.params.items ++ codes " " ++ list_text val_text type.results.items
composite_text (Struct fields) = codes "struct " ++ list_text field_text fields.items
composite_text (Array field) = codes "array " ++ field_text field
composite_text (Cont function) = codes "cont " ++ reference_text function

-- a type with its supertype
abbrev pub sub_text : SubType → List ℕ
sub_text type = (if type.is_final then codes "final " else codes "open ") ++ or_dash reference_text type.supertype ++ codes " " ++ composite_text type.composite_type
