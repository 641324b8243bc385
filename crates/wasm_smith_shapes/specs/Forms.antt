-- Types and items that a shape may have. Nothing in a shape is a continuation. A shape of exports comes beside other types: its types are function types, and neither
-- they nor its tables and globals name types.
use Rattle.std.specs.Prelude.{ℕ, Bool, true, false, ◌&&◌, ◌^◌, length, nat_eq, nat_lt, is_some}
use Rattle.std.specs.List.{list_all}
use Rattle.wasm_spec.specs.Syntax.{ImportEntry, Import, CompactItems, CompactNames}
use Rattle.wasm_spec.specs.Types.{AbstractHeapType, Cont, NoCont, HeapType, Abstract, Concrete, ValType, Ref, StorageType, Val, CompositeType, FuncComposite, StructComposite, ArrayComposite, ContComposite, SubType, ExternalType, FuncExternal, TableExternal, MemoryExternal, GlobalExternal, TagExternal}
use Rattle.wasm_validity.specs.DefinedTypes.{func_in}
use Rattle.wasm_smith_shapes.specs.declared.shape.ShapeUse.{ShapeUse}
use Rattle.wasm_smith_shapes.specs.declared.shape.ShapeUse.TheVariants.{Module, Imports, Exports}

-- how many types there are at most that types and items may name
abbrev pub most_named : ShapeUse → ℕ
most_named Module = 2 ^ 32
most_named Imports = 2 ^ 32
most_named Exports = 0

abbrev pub is_plain : AbstractHeapType → Bool
is_plain Cont = false
is_plain NoCont = false
is_plain _ = true

abbrev pub may_refer : ℕ → HeapType ℕ → Bool
may_refer named (Abstract heap) = is_plain heap
may_refer named (Concrete index) = nat_lt index named

abbrev pub may_hold : ℕ → ValType ℕ → Bool
may_hold named (Ref nullable heap) = may_refer named heap
may_hold named _ = true

abbrev pub may_store : ℕ → StorageType ℕ → Bool
may_store named (Val type) = may_hold named type
may_store named _ = true

abbrev pub may_be_made_of : ℕ → CompositeType ℕ → Bool
may_be_made_of named (FuncComposite type) = list_all (may_hold named) type.params && list_all (may_hold named) type.results
may_be_made_of named (StructComposite fields) = list_all (λ field. may_store named field.element_type) fields
may_be_made_of named (ArrayComposite field) = may_store named field.element_type
may_be_made_of named (ContComposite function) = false

-- a function type that is final and has no supertype
abbrev pub is_lone_function : SubType ℕ → Bool
is_lone_function type = type.is_final && (nat_eq (length type.supertypes) 0 && is_some (func_in type.composite_type))

-- a type that names only the first types, so many of them; in a shape of exports, a function type that names none
abbrev pub may_have_named_type : ShapeUse → ℕ → SubType ℕ → Bool
may_have_named_type Module named type = may_be_made_of named type.composite_type
may_have_named_type Imports named type = may_be_made_of named type.composite_type
may_have_named_type Exports named type = is_lone_function type && may_be_made_of 0 type.composite_type

abbrev pub may_have_type : ShapeUse → SubType ℕ → Bool
may_have_type purpose type = may_have_named_type purpose (2 ^ 32) type

abbrev pub may_have_item : ℕ → ExternalType ℕ → Bool
may_have_item named (FuncExternal function) = true
may_have_item named (TableExternal type) = may_refer named type.element_type.heap_type
may_have_item named (MemoryExternal type) = true
may_have_item named (GlobalExternal type) = may_hold named type.value_type
may_have_item named (TagExternal function) = true

-- each type that an entry has, also one that no import shares
abbrev pub may_have_entry : ℕ → ImportEntry → Bool
may_have_entry named (Import origin name type) = may_have_item named type
may_have_entry named (CompactItems origin items) = list_all (λ item. may_have_item named item.type) items
may_have_entry named (CompactNames origin type names) = may_have_item named type
