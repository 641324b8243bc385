-- The references that a type has to defined types: each replaced by another, all listed in the order of writing, and put back into their
-- places. The standard closes a type by replacing its type indexes by the types they stand for (Core Specification 3.0, Validation,
-- "Conventions").
use Rattle.std.specs.Prelude.{⊤, List, [], ◌∷◌, ◌++◌, map}
use Rattle.std.specs.List.{flat_map}
use Rattle.wasm_spec.specs.Types.{HeapType, Abstract, Concrete, RefType, ValType, I32, I64, F32, F64, V128, Ref, StorageType, I8, I16, Val, FieldType, FuncType, CompositeType, FuncComposite, StructComposite, ArrayComposite, ContComposite, SubType, RecGroup, Single, Group, TableType, GlobalType, ExternalType, FuncExternal, TableExternal, MemoryExternal, GlobalExternal, TagExternal}

-- ---- each reference replaced

abbrev pub heap_map : {R S : Type 0} → (R → S) → HeapType R → HeapType S
heap_map f (Abstract heap) = Abstract heap
heap_map f (Concrete r) = Concrete (f r)

abbrev pub ref_map : {R S : Type 0} → (R → S) → RefType R → RefType S
ref_map f type = record { nullable = type.nullable; heap_type = heap_map f type.heap_type }

abbrev pub val_map : {R S : Type 0} → (R → S) → ValType R → ValType S
val_map f I32 = I32
val_map f I64 = I64
val_map f F32 = F32
val_map f F64 = F64
val_map f V128 = V128
val_map f (Ref nullable heap) = Ref nullable (heap_map f heap)

abbrev pub storage_map : {R S : Type 0} → (R → S) → StorageType R → StorageType S
storage_map f I8 = I8
storage_map f I16 = I16
storage_map f (Val type) = Val (val_map f type)

abbrev pub field_map : {R S : Type 0} → (R → S) → FieldType R → FieldType S
field_map f field = record { element_type = storage_map f field.element_type; mutable = field.mutable }

abbrev pub func_map : {R S : Type 0} → (R → S) → FuncType R → FuncType S
func_map f type = record { params = map (val_map f) type.params; results = map (val_map f) type.results }

abbrev pub composite_map : {R S : Type 0} → (R → S) → CompositeType R → CompositeType S
composite_map f (FuncComposite type) = FuncComposite (func_map f type)
composite_map f (StructComposite fields) = StructComposite (map (field_map f) fields)
composite_map f (ArrayComposite field) = ArrayComposite (field_map f field)
composite_map f (ContComposite function) = ContComposite (f function)

abbrev pub sub_map : {R S : Type 0} → (R → S) → SubType R → SubType S
sub_map f type =
    record { is_final = type.is_final; supertypes = map f type.supertypes; composite_type = composite_map f type.composite_type }

abbrev pub subs_map : {R S : Type 0} → (R → S) → List (SubType R) → List (SubType S)
subs_map f types = map (sub_map f) types

abbrev pub group_map : {R S : Type 0} → (R → S) → RecGroup R → RecGroup S
group_map f (Single type) = Single (sub_map f type)
group_map f (Group types) = Group (subs_map f types)

abbrev pub table_map : {R S : Type 0} → (R → S) → TableType R → TableType S
table_map f type = record { element_type = ref_map f type.element_type; limits = type.limits }

abbrev pub global_map : {R S : Type 0} → (R → S) → GlobalType R → GlobalType S
global_map f type = record { value_type = val_map f type.value_type; mutable = type.mutable }

abbrev pub external_map : {R S : Type 0} → (R → S) → ExternalType R → ExternalType S
external_map f (FuncExternal function) = FuncExternal (f function)
external_map f (TableExternal type) = TableExternal (table_map f type)
external_map f (MemoryExternal type) = MemoryExternal type
external_map f (GlobalExternal type) = GlobalExternal (global_map f type)
external_map f (TagExternal function) = TagExternal (f function)

-- ---- the references, in the order of writing

abbrev pub heap_refs : {R : Type 0} → HeapType R → List R
heap_refs (Abstract heap) = []
heap_refs (Concrete r) = r ∷ []

abbrev pub ref_refs : {R : Type 0} → RefType R → List R
ref_refs type = heap_refs type.heap_type

abbrev pub val_refs : {R : Type 0} → ValType R → List R
val_refs I32 = []
val_refs I64 = []
val_refs F32 = []
val_refs F64 = []
val_refs V128 = []
val_refs (Ref nullable heap) = heap_refs heap

abbrev pub storage_refs : {R : Type 0} → StorageType R → List R
storage_refs I8 = []
storage_refs I16 = []
storage_refs (Val type) = val_refs type

abbrev pub field_refs : {R : Type 0} → FieldType R → List R
field_refs field = storage_refs field.element_type

abbrev pub func_refs : {R : Type 0} → FuncType R → List R
func_refs type = flat_map val_refs type.params ++ flat_map val_refs type.results

abbrev pub composite_refs : {R : Type 0} → CompositeType R → List R
composite_refs (FuncComposite type) = func_refs type
composite_refs (StructComposite fields) = flat_map field_refs fields
composite_refs (ArrayComposite field) = field_refs field
composite_refs (ContComposite function) = function ∷ []

abbrev pub sub_refs : {R : Type 0} → SubType R → List R
sub_refs type = type.supertypes ++ composite_refs type.composite_type

abbrev pub subs_refs : {R : Type 0} → List (SubType R) → List R
subs_refs types = flat_map sub_refs types

abbrev pub group_refs : {R : Type 0} → RecGroup R → List R
group_refs (Single type) = sub_refs type
group_refs (Group types) = subs_refs types

abbrev pub table_refs : {R : Type 0} → TableType R → List R
table_refs type = ref_refs type.element_type

abbrev pub global_refs : {R : Type 0} → GlobalType R → List R
global_refs type = val_refs type.value_type

abbrev pub external_refs : {R : Type 0} → ExternalType R → List R
external_refs (FuncExternal function) = function ∷ []
external_refs (TableExternal type) = table_refs type
external_refs (MemoryExternal type) = []
external_refs (GlobalExternal type) = global_refs type
external_refs (TagExternal function) = function ∷ []

-- ---- references put into the places of a type that has none, with those that are left over; d where they run out

abbrev pub one_fill : {R : Type 0} → R → ⊤ → List R → R × List R
one_fill d _ [] = (d, [])
one_fill d _ (r ∷ rs) = (r, rs)

-- one item after the other
abbrev pub list_fill : {R X Y : Type 0} → (X → List R → Y × List R) → List X → List R → List Y × List R
list_fill fill [] rs = ([], rs)
list_fill fill (x ∷ xs) rs =
    let first = fill x rs in
    let others = list_fill fill xs first.1 in
    (first.0 ∷ others.0, others.1)

abbrev pub heap_fill : {R : Type 0} → R → HeapType ⊤ → List R → HeapType R × List R
heap_fill d (Abstract heap) rs = (Abstract heap, rs)
heap_fill d (Concrete hole) rs = let (r, left) = one_fill d hole rs in (Concrete r, left)

abbrev pub ref_fill : {R : Type 0} → R → RefType ⊤ → List R → RefType R × List R
ref_fill d type rs = let (heap, left) = heap_fill d type.heap_type rs in (record { nullable = type.nullable; heap_type = heap }, left)

abbrev pub val_fill : {R : Type 0} → R → ValType ⊤ → List R → ValType R × List R
val_fill d I32 rs = (I32, rs)
val_fill d I64 rs = (I64, rs)
val_fill d F32 rs = (F32, rs)
val_fill d F64 rs = (F64, rs)
val_fill d V128 rs = (V128, rs)
val_fill d (Ref nullable heap) rs = let (filled, left) = heap_fill d heap rs in (Ref nullable filled, left)

abbrev pub storage_fill : {R : Type 0} → R → StorageType ⊤ → List R → StorageType R × List R
storage_fill d I8 rs = (I8, rs)
storage_fill d I16 rs = (I16, rs)
storage_fill d (Val type) rs = let (filled, left) = val_fill d type rs in (Val filled, left)

abbrev pub field_fill : {R : Type 0} → R → FieldType ⊤ → List R → FieldType R × List R
field_fill d field rs =
    let (element, left) = storage_fill d field.element_type rs in (record { element_type = element; mutable = field.mutable }, left)

abbrev pub func_fill : {R : Type 0} → R → FuncType ⊤ → List R → FuncType R × List R
func_fill d type rs =
    let (params, after_params) = list_fill (val_fill d) type.params rs in
    let (results, left) = list_fill (val_fill d) type.results after_params in
    (record { params = params; results = results }, left)

abbrev pub composite_fill : {R : Type 0} → R → CompositeType ⊤ → List R → CompositeType R × List R
composite_fill d (FuncComposite type) rs = let (filled, left) = func_fill d type rs in (FuncComposite filled, left)
composite_fill d (StructComposite fields) rs = let (filled, left) = list_fill (field_fill d) fields rs in (StructComposite filled, left)
composite_fill d (ArrayComposite field) rs = let (filled, left) = field_fill d field rs in (ArrayComposite filled, left)
composite_fill d (ContComposite hole) rs = let (function, left) = one_fill d hole rs in (ContComposite function, left)

abbrev pub sub_fill : {R : Type 0} → R → SubType ⊤ → List R → SubType R × List R
sub_fill d type rs =
    let (supertypes, after_supertypes) = list_fill (one_fill d) type.supertypes rs in
    let (composite, left) = composite_fill d type.composite_type after_supertypes in
    (record { is_final = type.is_final; supertypes = supertypes; composite_type = composite }, left)

abbrev pub subs_fill : {R : Type 0} → R → List (SubType ⊤) → List R → List (SubType R) × List R
subs_fill d types rs = list_fill (sub_fill d) types rs

abbrev pub group_fill : {R : Type 0} → R → RecGroup ⊤ → List R → RecGroup R × List R
group_fill d (Single type) rs = let (filled, left) = sub_fill d type rs in (Single filled, left)
group_fill d (Group types) rs = let (filled, left) = subs_fill d types rs in (Group filled, left)

abbrev pub table_fill : {R : Type 0} → R → TableType ⊤ → List R → TableType R × List R
table_fill d type rs = let (element, left) = ref_fill d type.element_type rs in (record { element_type = element; limits = type.limits }, left)

abbrev pub global_fill : {R : Type 0} → R → GlobalType ⊤ → List R → GlobalType R × List R
global_fill d type rs = let (value, left) = val_fill d type.value_type rs in (record { value_type = value; mutable = type.mutable }, left)

abbrev pub external_fill : {R : Type 0} → R → ExternalType ⊤ → List R → ExternalType R × List R
external_fill d (FuncExternal hole) rs = let (function, left) = one_fill d hole rs in (FuncExternal function, left)
external_fill d (TableExternal type) rs = let (filled, left) = table_fill d type rs in (TableExternal filled, left)
external_fill d (MemoryExternal type) rs = (MemoryExternal type, rs)
external_fill d (GlobalExternal type) rs = let (filled, left) = global_fill d type rs in (GlobalExternal filled, left)
external_fill d (TagExternal hole) rs = let (function, left) = one_fill d hole rs in (TagExternal function, left)
