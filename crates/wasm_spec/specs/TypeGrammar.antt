-- The grammar of types, in which references to defined types are type indexes. Core Specification 3.0, Binary Format, "Types". Continuations,
-- shared memories and pages of other sizes are as in their proposals; that a shared memory has a maximum is a matter of validity.
use Rattle.std.specs.Prelude.{◌≡◌, ◌⊎◌, ◌+◌, ℕ, pos, Bool, true, false, List, [], ◌∷◌, is_some, if◌then◌else◌}
use Rattle.wasm_spec.specs.Bytes.{IsU32, IsU64, IsS33, IsPair, IsMarked, IsOptional, IsList}
use Rattle.wasm_spec.specs.Types.{AbstractHeapType, Func, Extern, Any, None, NoExtern, NoFunc, Eq, Struct, Array, I31, Exn, NoExn, Cont, NoCont, HeapType, Abstract, Concrete, RefType, ValType, I32, I64, F32, F64, V128, Ref, StorageType, I8, I16, Val, FieldType, FuncType, CompositeType, FuncComposite, StructComposite, ArrayComposite, ContComposite, SubType, RecGroup, Single, Group, Limits, MemoryType, TableType, GlobalType, ExternalType, FuncExternal, TableExternal, MemoryExternal, GlobalExternal, TagExternal, ExternalKind, FuncKind, TableKind, MemoryKind, GlobalKind, TagKind, kind_of}

-- ---- heap, reference and value types

-- the byte of an abstract heap type (Types, "Heap Types"; those of continuations are their proposal's)
abbrev pub heap_code : AbstractHeapType → ℕ
heap_code NoCont = 0x75
heap_code NoExn = 0x74
heap_code NoFunc = 0x73
heap_code NoExtern = 0x72
heap_code None = 0x71
heap_code Func = 0x70
heap_code Extern = 0x6f
heap_code Any = 0x6e
heap_code Eq = 0x6d
heap_code I31 = 0x6c
heap_code Struct = 0x6b
heap_code Array = 0x6a
heap_code Exn = 0x69
heap_code Cont = 0x68

-- The type index of a concrete heap type: a signed number, which is not negative. Whether it names a type is a matter of validity.
abbrev pub IsHeapIndex : List ℕ → ℕ → Type 0
IsHeapIndex bytes index = IsS33 bytes (pos index)

-- (Types, "Heap Types"); an abstract one is its single byte, which is no signed number that could be padded
abbrev pub IsHeapType : List ℕ → HeapType ℕ → Type 0
IsHeapType bytes (Abstract heap) = bytes ≡ heap_code heap ∷ []
IsHeapType bytes (Concrete index) = IsHeapIndex bytes index

-- The byte of an abstract heap type, alone, is the nullable reference to it (Types, "Reference Types"). A concrete one has no such byte.
abbrev pub IsBareHeap : List ℕ → HeapType ℕ → Type 0
IsBareHeap bytes (Abstract heap) = bytes ≡ heap_code heap ∷ []
IsBareHeap bytes (Concrete index) = ⊥

-- a reference, which may be null or not (Types, "Reference Types")
abbrev pub IsReference : Bool → List ℕ → HeapType ℕ → Type 0
IsReference true bytes heap = IsMarked 0x63 IsHeapType bytes heap ⊎ IsBareHeap bytes heap
IsReference false bytes heap = IsMarked 0x64 IsHeapType bytes heap

abbrev pub IsRefType : List ℕ → RefType ℕ → Type 0
IsRefType bytes type = IsReference type.nullable bytes type.heap_type

-- a value type (Types, "Number Types", "Vector Types", "Reference Types", "Value Types")
abbrev pub IsValType : List ℕ → ValType ℕ → Type 0
IsValType bytes I32 = bytes ≡ 0x7f ∷ []
IsValType bytes I64 = bytes ≡ 0x7e ∷ []
IsValType bytes F32 = bytes ≡ 0x7d ∷ []
IsValType bytes F64 = bytes ≡ 0x7c ∷ []
IsValType bytes V128 = bytes ≡ 0x7b ∷ []
IsValType bytes (Ref nullable heap) = IsReference nullable bytes heap

-- (Types, "Result Types")
abbrev pub IsResultType : List ℕ → List (ValType ℕ) → Type 0
IsResultType bytes types = IsList IsValType bytes types

-- ---- composite and recursive types

-- what a field holds: a packed number or a value (Types, "Composite Types")
abbrev pub IsStorageType : List ℕ → StorageType ℕ → Type 0
IsStorageType bytes I8 = bytes ≡ 0x78 ∷ []
IsStorageType bytes I16 = bytes ≡ 0x77 ∷ []
IsStorageType bytes (Val type) = IsValType bytes type

-- whether a field or a global can be set, as a single byte (Types, "Composite Types", "Global Types")
abbrev pub IsMutability : List ℕ → Bool → Type 0
IsMutability bytes false = bytes ≡ 0x00 ∷ []
IsMutability bytes true = bytes ≡ 0x01 ∷ []

abbrev pub IsFieldType : List ℕ → FieldType ℕ → Type 0
IsFieldType bytes field = IsPair IsStorageType IsMutability bytes (field.element_type, field.mutable)

-- a function type: the types of its parameters and of its results (Types, "Composite Types")
abbrev pub IsFuncType : List ℕ → FuncType ℕ → Type 0
IsFuncType bytes type = IsMarked 0x60 (IsPair IsResultType IsResultType) bytes (type.params, type.results)

-- (Types, "Composite Types"); a continuation type names its function type as a heap type would
abbrev pub IsCompositeType : List ℕ → CompositeType ℕ → Type 0
IsCompositeType bytes (FuncComposite type) = IsFuncType bytes type
IsCompositeType bytes (StructComposite fields) = IsMarked 0x5f (IsList IsFieldType) bytes fields
IsCompositeType bytes (ArrayComposite field) = IsMarked 0x5e IsFieldType bytes field
IsCompositeType bytes (ContComposite function) = IsMarked 0x5d IsHeapIndex bytes function

-- what a sub type that is written out begins with: whether it is final
abbrev pub sub_code : Bool → ℕ
sub_code true = 0x4f
sub_code false = 0x50

-- Any number of supertypes and a composite type; or a composite type alone, which is final and has no supertypes (Types, "Recursive Types").
abbrev pub IsSubType : List ℕ → SubType ℕ → Type 0
IsSubType bytes type =
    IsMarked (sub_code type.is_final) (IsPair (IsList IsU32) IsCompositeType) bytes (type.supertypes, type.composite_type)
    ⊎ ((type.is_final ≡ true) × (type.supertypes ≡ []) × IsCompositeType bytes type.composite_type)

-- a list of sub types, or a sub type alone (Types, "Recursive Types")
abbrev pub IsRecGroup : List ℕ → RecGroup ℕ → Type 0
IsRecGroup bytes (Single type) = IsSubType bytes type
IsRecGroup bytes (Group types) = IsMarked 0x4e (IsList IsSubType) bytes types

-- ---- limits, and what is imported

-- what limits begin with: a bit for each part that may be absent, and for what else is said of them
abbrev pub limits_flags : Limits → ℕ
limits_flags limits =
    (if is_some limits.maximum then 0x01 else 0x00) + (if limits.shared then 0x02 else 0x00)
    + (if limits.is_64 then 0x04 else 0x00) + (if is_some limits.page_size_log2 then 0x08 else 0x00)

-- The flags as a single byte, and the parts that they announce (Types, "Limits"). Both bounds have 64 bits, whatever the flags.
abbrev pub IsLimits : List ℕ → Limits → Type 0
IsLimits bytes limits =
    IsMarked (limits_flags limits) (IsPair IsU64 (IsPair (IsOptional IsU64) (IsOptional IsU32))) bytes
    (limits.minimum, (limits.maximum, limits.page_size_log2))

-- (Types, "Memory Types")
abbrev pub IsMemoryType : List ℕ → MemoryType → Type 0
IsMemoryType bytes type = IsLimits bytes type

-- a table is never shared, and has no pages
abbrev pub IsTableLimits : List ℕ → Limits → Type 0
IsTableLimits bytes limits = IsLimits bytes limits × (limits.shared ≡ false) × (is_some limits.page_size_log2 ≡ false)

-- (Types, "Table Types")
abbrev pub IsTableType : List ℕ → TableType ℕ → Type 0
IsTableType bytes type = IsPair IsRefType IsTableLimits bytes (type.element_type, type.limits)

-- (Types, "Global Types")
abbrev pub IsGlobalType : List ℕ → GlobalType ℕ → Type 0
IsGlobalType bytes type = IsPair IsValType IsMutability bytes (type.value_type, type.mutable)

-- the type index of a tag's function type (Types, "Tag Types")
abbrev pub IsTagType : List ℕ → ℕ → Type 0
IsTagType bytes function = IsMarked 0x00 IsU32 bytes function

-- the byte of a kind (Types, "External Types", and Modules, "Export Section")
abbrev pub kind_code : ExternalKind → ℕ
kind_code FuncKind = 0x00
kind_code TableKind = 0x01
kind_code MemoryKind = 0x02
kind_code GlobalKind = 0x03
kind_code TagKind = 0x04

abbrev pub IsExternalKind : List ℕ → ExternalKind → Type 0
IsExternalKind bytes kind = bytes ≡ kind_code kind ∷ []

-- what stands after the byte of the kind
abbrev pub IsOfKind : List ℕ → ExternalType ℕ → Type 0
IsOfKind bytes (FuncExternal function) = IsU32 bytes function
IsOfKind bytes (TableExternal type) = IsTableType bytes type
IsOfKind bytes (MemoryExternal type) = IsMemoryType bytes type
IsOfKind bytes (GlobalExternal type) = IsGlobalType bytes type
IsOfKind bytes (TagExternal function) = IsTagType bytes function

-- (Types, "External Types")
abbrev pub IsExternalType : List ℕ → ExternalType ℕ → Type 0
IsExternalType bytes type = IsMarked (kind_code (kind_of type)) IsOfKind bytes type
