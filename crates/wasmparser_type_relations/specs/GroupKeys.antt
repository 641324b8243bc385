-- The numbers that recursive groups are written out as. A list is ended by 0, which no item begins with: so a group has a key however long its lists are.
use Rattle.std.specs.Prelude.{◌≡◌, ℕ, ◌+◌, ◌*◌, List, [], ◌∷◌, ◌++◌, map, if◌then◌else◌}
use Rattle.std.specs.List.{flat_map}
use Rattle.wasm_spec.specs.Types.{ValType, I32, I64, F32, F64, V128, Ref, StorageType, I8, I16, Val, FieldType, CompositeType, FuncComposite, StructComposite, ArrayComposite, ContComposite, SubType}
use Rattle.wasmparser_types.specs.Index.{Index, packed}
use Rattle.wasmparser_types.specs.RefBits.{ref_bits}

-- a reference type is above the five others
abbrev pub val_number : ValType Index → ℕ
val_number I32 = 1
val_number I64 = 2
val_number F32 = 3
val_number F64 = 4
val_number V128 = 5
val_number (Ref nullable heap) = 6 + ref_bits (record { nullable = nullable; heap_type = heap })

abbrev pub storage_number : StorageType Index → ℕ
storage_number I8 = 1
storage_number I16 = 2
storage_number (Val type) = 2 + val_number type

-- in the lowest bit whether it can be set
abbrev pub field_number : FieldType Index → ℕ
field_number field = 2 * storage_number field.element_type + (if field.mutable then 1 else 0)

abbrev pub index_number : Index → ℕ
index_number index = 1 + packed index

-- a list of what has a number above 0
abbrev pub numbers : {X : Type 0} → (X → ℕ) → List X → List ℕ
numbers number items = map number items ++ 0 ∷ []

-- its kind, and what it is made of
abbrev pub composite_key : CompositeType Index → List ℕ
composite_key (FuncComposite type) = 1 ∷ (numbers val_number type.params ++ numbers val_number type.results)
composite_key (StructComposite fields) = 2 ∷ numbers field_number fields
composite_key (ArrayComposite field) = 3 ∷ field_number field ∷ []
composite_key (ContComposite index) = 4 ∷ index_number index ∷ []

abbrev pub sub_key : SubType Index → List ℕ
sub_key type = (if type.is_final then 2 else 1) ∷ (numbers index_number type.supertypes ++ composite_key type.composite_type)

abbrev pub group_key : List (SubType Index) → List ℕ
group_key types = flat_map sub_key types ++ 0 ∷ []

-- what has the same key is the same
abbrev pub TellsApart : {X : Type 0} → (X → List ℕ) → Type 0
TellsApart key = (x y : _) → key x ≡ key y → x ≡ y
