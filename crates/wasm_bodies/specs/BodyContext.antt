-- What a body is judged in. Core Specification 3.0, Validation, Conventions, "Contexts", and Modules, "Functions". R is the kind of references to
-- defined types. Where it is a validator's ids, or the defined types themselves, equal types have one reference. Of other kinds they may have several,
-- as of type indexes, and then `is_below` has to know which references are to equal types. What a body writes has type indexes.
use Rattle.std.specs.Prelude.{ℕ, Bool, true, false, ◌&&◌, List, [], ◌∷◌, nat_eq, Option, Some, None, option_map, slice_get, if◌then◌else◌}
use Rattle.std.specs.List.{list_any}
use Rattle.std.specs.Option.{option_and_then}
use Rattle.wasm_spec.specs.Features.{Features}
use Rattle.wasm_spec.specs.Gates.{is_allowed}
use Rattle.wasm_spec.specs.Types.{HeapType, Abstract, Concrete, RefType, ValType, I32, I64, F32, F64, V128, Ref, StorageType, I8, I16, Val, FieldType, FuncType, CompositeType, FuncComposite, StructComposite, ArrayComposite, MemoryType, TableType, GlobalType}

-- what a type index names
pub record NamedType (R : Type 0) : Type 0 where
  pub reference : R
  pub composite : CompositeType R

-- What a body may name of its module, and ask of types. Imported items come first in their index spaces.
pub record ModuleItems (R : Type 0) : Type 0 where
  pub types : List (NamedType R)
  -- the type index of each function
  pub functions : List ℕ
  pub tables : List (TableType R)
  pub memories : List MemoryType
  pub globals : List (GlobalType R)
  -- the type index of each tag (no operator of the table asks for it)
  pub tags : List ℕ
  -- the type of each element segment
  pub elements : List (RefType R)
  -- how many data segments there are, where a data count says so
  pub data_count : Option ℕ
  -- whether an export, an element segment or a constant expression names the function
  pub declared : ℕ → Bool
  -- whether the first type is below the second, as equal types are
  pub is_below : ValType R → ValType R → Bool

-- a local: whether it has a value from the start, and its type (Validation, Types, "Local Types")
pub record Local (R : Type 0) : Type 0 where
  pub is_set : Bool
  pub type : ValType R

-- a body is that of a function with these locals, which gives these results
pub record BodyContext (R : Type 0) : Type 0 where
  pub features : Features
  pub items : ModuleItems R
  pub locals : List (Local R)
  pub results : List (ValType R)

-- ---- conditions

-- something that there is under a condition
abbrev pub provided : {A : Type 0} → Bool → Option A → Option A
provided condition a = if condition then a else None

abbrev pub is_among : List ℕ → ℕ → Bool
is_among xs x = list_any (λ y. nat_eq y x) xs

-- one by one, of equal number
abbrev pub are_below : {R : Type 0} → ModuleItems R → List (ValType R) → List (ValType R) → Bool
are_below items [] [] = true
are_below items (a ∷ others) (b ∷ wanted) = items.is_below a b && are_below items others wanted
are_below items _ _ = false

-- ---- types

-- what a heap type stands for that is written with type indexes, if these name types
abbrev pub heap_meant : {R : Type 0} → ModuleItems R → HeapType ℕ → Option (HeapType R)
heap_meant items (Abstract heap) = Some (Abstract heap)
heap_meant items (Concrete index) = option_map (λ named. Concrete named.reference) (slice_get items.types index)

abbrev pub meant : {R : Type 0} → ModuleItems R → ValType ℕ → Option (ValType R)
meant items I32 = Some I32
meant items I64 = Some I64
meant items F32 = Some F32
meant items F64 = Some F64
meant items V128 = Some V128
meant items (Ref nullable heap) = option_map (λ defined. Ref nullable defined) (heap_meant items heap)

-- what a type stands for that a body writes: one that the features allow
abbrev pub written : {R : Type 0} → Features → ModuleItems R → ValType ℕ → Option (ValType R)
written features items type = provided (is_allowed features type) (meant items type)

-- a reference type as a value type
abbrev pub value_of : {R : Type 0} → RefType R → ValType R
value_of type = Ref type.nullable type.heap_type

-- the type of addresses of a memory, and of indexes of a table (Validation, Types, "Limits"): whether it has 64 bits
abbrev pub address_type : {R : Type 0} → Bool → ValType R
address_type is_64 = if is_64 then I64 else I32

-- what a field holds, as an operand (Structure, Types, "Composite Types")
abbrev pub unpacked : {R : Type 0} → FieldType R → ValType R
unpacked field = of_storage field.element_type
  where
    of_storage : {R : Type 0} → StorageType R → ValType R
    of_storage I8 = I32
    of_storage I16 = I32
    of_storage (Val type) = type

-- whether there is a value of a type if none is given (Validation, Types, "Defaultable Types")
abbrev pub is_defaultable : {R : Type 0} → ValType R → Bool
is_defaultable (Ref nullable heap) = nullable
is_defaultable type = true

-- ---- what indexes name

abbrev pub func_in : {R : Type 0} → CompositeType R → Option (FuncType R)
func_in (FuncComposite type) = Some type
func_in _ = None

abbrev pub fields_in : {R : Type 0} → CompositeType R → Option (List (FieldType R))
fields_in (StructComposite fields) = Some fields
fields_in _ = None

abbrev pub element_in : {R : Type 0} → CompositeType R → Option (FieldType R)
element_in (ArrayComposite field) = Some field
element_in _ = None

-- the function type, the fields and the element that a type index names, if it names a function type, a structure or an array
abbrev pub func_at : {R : Type 0} → ModuleItems R → ℕ → Option (FuncType R)
func_at items index = option_and_then (λ named. func_in named.composite) (slice_get items.types index)

abbrev pub fields_at : {R : Type 0} → ModuleItems R → ℕ → Option (List (FieldType R))
fields_at items index = option_and_then (λ named. fields_in named.composite) (slice_get items.types index)

abbrev pub element_at : {R : Type 0} → ModuleItems R → ℕ → Option (FieldType R)
element_at items index = option_and_then (λ named. element_in named.composite) (slice_get items.types index)

-- the type of a function
abbrev pub function_at : {R : Type 0} → ModuleItems R → ℕ → Option (FuncType R)
function_at items function = option_and_then (func_at items) (slice_get items.functions function)

-- a reference to what a type index names
abbrev pub reference_at : {R : Type 0} → ModuleItems R → Bool → ℕ → Option (ValType R)
reference_at items nullable index = option_map (λ named. Ref nullable (Concrete named.reference)) (slice_get items.types index)
