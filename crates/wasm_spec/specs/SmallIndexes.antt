-- Types whose type indexes are below 2^32, as all that bytes can state are.
use Rattle.std.specs.Prelude.{ℕ, ◌<◌, ◌^◌, ⊤}
use Rattle.std.specs.List.{AllByRecursion}
use Rattle.wasm_spec.specs.Types.{HeapType, Abstract, Concrete, ValType, Ref, StorageType, Val, FieldType, CompositeType, FuncComposite, StructComposite, ArrayComposite, ContComposite, SubType, RecGroup, Single, Group}

abbrev pub IsSmallIndex : ℕ → Type 0
IsSmallIndex index = index < 2 ^ 32

abbrev pub IsSmallHeap : HeapType ℕ → Type 0
IsSmallHeap (Abstract heap) = ⊤
IsSmallHeap (Concrete index) = IsSmallIndex index

abbrev pub IsSmallValue : ValType ℕ → Type 0
IsSmallValue (Ref nullable heap) = IsSmallHeap heap
IsSmallValue _ = ⊤

abbrev pub IsSmallStorage : StorageType ℕ → Type 0
IsSmallStorage (Val type) = IsSmallValue type
IsSmallStorage _ = ⊤

abbrev pub IsSmallField : FieldType ℕ → Type 0
IsSmallField field = IsSmallStorage field.element_type

abbrev pub IsSmallComposite : CompositeType ℕ → Type 0
IsSmallComposite (FuncComposite type) = AllByRecursion IsSmallValue type.params × AllByRecursion IsSmallValue type.results
IsSmallComposite (StructComposite fields) = AllByRecursion IsSmallField fields
IsSmallComposite (ArrayComposite field) = IsSmallField field
IsSmallComposite (ContComposite function) = IsSmallIndex function

abbrev pub IsSmallSub : SubType ℕ → Type 0
IsSmallSub type = AllByRecursion IsSmallIndex type.supertypes × IsSmallComposite type.composite_type

abbrev pub IsSmallGroup : RecGroup ℕ → Type 0
IsSmallGroup (Single type) = IsSmallSub type
IsSmallGroup (Group types) = AllByRecursion IsSmallSub types
