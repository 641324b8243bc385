-- The encodings of types that an encoder writes: the shortest of each. References to defined types are type indexes. Core Specification 3.0, Binary
-- Format, "Types"; continuations are their proposal's.
use Rattle.std.specs.Prelude.{ℕ, pos, Bool, true, false, List, [], ◌∷◌, ◌++◌, if◌then◌else◌}
use Rattle.wasm_spec.specs.Shortest.{unsigned_encoding, signed_encoding, list_encoding}
use Rattle.wasm_spec.specs.TypeGrammar.{heap_code}
use Rattle.wasm_spec.specs.Types.{HeapType, Abstract, Concrete, ValType, I32, I64, F32, F64, V128, Ref, StorageType, I8, I16, Val, FieldType, FuncType, CompositeType, FuncComposite, StructComposite, ArrayComposite, ContComposite, SubType, RecGroup, Single, Group}

-- a type index is written as a signed number, which is not negative (Types, "Heap Types")
unfoldable pub heap_encoding : HeapType ℕ → List ℕ
heap_encoding (Abstract heap) = heap_code heap ∷ []
heap_encoding (Concrete index) = signed_encoding (pos index)

-- a nullable reference to an abstract heap type is the byte of that type alone (Types, "Reference Types")
unfoldable pub ref_encoding : Bool → HeapType ℕ → List ℕ
ref_encoding true (Abstract heap) = heap_encoding (Abstract heap)
ref_encoding true (Concrete index) = 0x63 ∷ heap_encoding (Concrete index)
ref_encoding false heap = 0x64 ∷ heap_encoding heap

-- (Types, "Number Types", "Vector Types", "Value Types")
unfoldable pub val_encoding : ValType ℕ → List ℕ
val_encoding I32 = 0x7f ∷ []
val_encoding I64 = 0x7e ∷ []
val_encoding F32 = 0x7d ∷ []
val_encoding F64 = 0x7c ∷ []
val_encoding V128 = 0x7b ∷ []
val_encoding (Ref nullable heap) = ref_encoding nullable heap

-- what a field holds (Types, "Composite Types")
unfoldable pub storage_encoding : StorageType ℕ → List ℕ
storage_encoding I8 = 0x78 ∷ []
storage_encoding I16 = 0x77 ∷ []
storage_encoding (Val type) = val_encoding type

-- a field: what it holds, and whether it can be set
unfoldable pub field_encoding : FieldType ℕ → List ℕ
field_encoding field = storage_encoding field.element_type ++ (if field.mutable then 0x01 else 0x00) ∷ []

unfoldable pub func_encoding : FuncType ℕ → List ℕ
func_encoding type = 0x60 ∷ (list_encoding val_encoding type.params ++ list_encoding val_encoding type.results)

-- (Types, "Composite Types")
unfoldable pub composite_encoding : CompositeType ℕ → List ℕ
composite_encoding (FuncComposite type) = func_encoding type
composite_encoding (StructComposite fields) = 0x5f ∷ list_encoding field_encoding fields
composite_encoding (ArrayComposite field) = 0x5e ∷ field_encoding field
composite_encoding (ContComposite function) = 0x5d ∷ signed_encoding (pos function)

-- A final type without supertypes is its composite type alone (Types, "Recursive Types").
unfoldable pub sub_encoding_of : Bool → List ℕ → CompositeType ℕ → List ℕ
sub_encoding_of true [] composite = composite_encoding composite
sub_encoding_of true (index ∷ indexes) composite = 0x4f ∷ (list_encoding unsigned_encoding (index ∷ indexes) ++ composite_encoding composite)
sub_encoding_of false indexes composite = 0x50 ∷ (list_encoding unsigned_encoding indexes ++ composite_encoding composite)

abbrev pub sub_encoding : SubType ℕ → List ℕ
sub_encoding type = sub_encoding_of type.is_final type.supertypes type.composite_type

-- A group that is written out (Types, "Recursive Types"). Of one type it is another entry than that type by itself.
unfoldable pub group_encoding : List (SubType ℕ) → List ℕ
group_encoding types = 0x4e ∷ list_encoding sub_encoding types

-- An entry of a type section.
unfoldable pub rec_group_encoding : RecGroup ℕ → List ℕ
rec_group_encoding (Single type) = sub_encoding type
rec_group_encoding (Group types) = group_encoding types

-- what stands in the frame of a type section
abbrev pub rec_groups_encoding : List (RecGroup ℕ) → List ℕ
rec_groups_encoding groups = list_encoding rec_group_encoding groups
