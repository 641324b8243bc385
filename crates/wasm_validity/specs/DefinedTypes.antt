-- What the type indexes of a module name, in the context of its types.
use Rattle.std.specs.Prelude.{◌≡◌, ℕ, List, Option, Some, None, option_map, slice_get}
use Rattle.std.specs.Option.{option_and_then}
use Rattle.wasm_spec.specs.Groups.{PassesLimit}
use Rattle.wasm_spec.specs.Limits.{Limit}
use Rattle.wasm_spec.specs.Trees.{DefType, types_of_group, unrolled}
use Rattle.wasm_spec.specs.Types.{FieldType, FuncType, CompositeType, FuncComposite, StructComposite, ArrayComposite, ContComposite, RecGroup}

abbrev pub func_in : {R : Type 0} → CompositeType R → Option (FuncType R)
func_in (FuncComposite type) = Some type
func_in (StructComposite fields) = None
func_in (ArrayComposite field) = None
func_in (ContComposite function) = None

abbrev pub fields_in : {R : Type 0} → CompositeType R → Option (List (FieldType R))
fields_in (StructComposite fields) = Some fields
fields_in (FuncComposite type) = None
fields_in (ArrayComposite field) = None
fields_in (ContComposite function) = None

abbrev pub element_in : {R : Type 0} → CompositeType R → Option (FieldType R)
element_in (ArrayComposite field) = Some field
element_in (FuncComposite type) = None
element_in (StructComposite fields) = None
element_in (ContComposite function) = None

-- the function type that a defined type unrolls to, if it is one
abbrev pub func_type_of : DefType → Option (FuncType DefType)
func_type_of type = option_and_then (λ sub. func_in sub.composite_type) (unrolled type)

-- the function type that an index names, if it names one
abbrev pub func_type_at : List DefType → ℕ → Option (FuncType DefType)
func_type_at types index = option_and_then func_type_of (slice_get types index)

-- the composite type of the type that an index names, if it names one
abbrev pub composite_at : List DefType → ℕ → Option (CompositeType DefType)
composite_at types index = option_and_then (λ type. option_map (λ sub. sub.composite_type) (unrolled type)) (slice_get types index)

-- one of the types of a group that comes after these types passes a limit
pub record PassesGroupLimit (before : List DefType) (group : RecGroup ℕ) (limit : Limit) : Type 0 where
  pub place : ℕ
  pub type : DefType
  pub at : slice_get (types_of_group before group) place ≡ Some type
  pub passes : PassesLimit unrolled type limit
