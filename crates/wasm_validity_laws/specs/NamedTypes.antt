-- What the index spaces of a module name of its types.
use Rattle.std.specs.Prelude.{◌≡◌, ℕ, Bool, true, List, length, nat_lt, Some, is_some, slice_get}
use Rattle.wasm_spec.specs.Trees.{DefType}
use Rattle.wasm_spec.specs.Types.{HeapType, Abstract, Concrete, ValType, Ref}
use Rattle.wasm_validity.specs.DefinedTypes.{func_type_at}
use Rattle.wasm_validity.specs.IndexSpaces.{Spaces}

-- it holds of each item of a list, by its place
abbrev pub Each : {A : Type 0} → (A → Type 0) → List A → Type 0
Each {A} Holds items = (place : ℕ) (item : A) → slice_get items place ≡ Some item → Holds item

-- the heap type names a type of a module that has these, if it is an index
abbrev pub names_heap : List DefType → HeapType ℕ → Bool
names_heap types (Abstract heap) = true
names_heap types (Concrete index) = nat_lt index (length types)

abbrev pub names_value : List DefType → ValType ℕ → Bool
names_value types (Ref nullable heap) = names_heap types heap
names_value types _ = true

-- What stands in the index spaces names types of the module, functions and tags function types.
pub record NamesTypes (spaces : Spaces) : Type 0 where
  pub functions : Each (λ index. is_some (func_type_at spaces.types index) ≡ true) spaces.functions
  pub tables : Each (λ type. names_heap spaces.types type.element_type.heap_type ≡ true) spaces.tables
  pub globals : Each (λ type. names_value spaces.types type.value_type ≡ true) spaces.globals
  pub tags : Each (λ index. is_some (func_type_at spaces.types index) ≡ true) spaces.tags
  pub elements : Each (λ type. names_heap spaces.types type.heap_type ≡ true) spaces.elements
