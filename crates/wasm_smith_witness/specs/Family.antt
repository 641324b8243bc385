-- The lists of groups and functions that the generator can be asked for. They know no bytes.
use Rattle.std.specs.Prelude.{◌≡◌, ℕ, zero, suc, ◌+◌, ◌≤◌, Bool, true, false, ◌&&◌, ◌||◌, IsTrue, nat_le, nat_lt, ◌==◌, List, [], ◌∷◌, ◌++◌, length}
use Rattle.std.specs.List.{AllByRecursion, list_all}
use Rattle.wasm_spec.specs.Types.{AbstractHeapType, Func, Extern, Exn, NoExn, Cont, NoCont, HeapType, Abstract, Concrete, ValType, I32, I64, F32, F64, V128, Ref, StorageType, I8, I16, Val, FieldType, FuncType, CompositeType, FuncComposite, StructComposite, ArrayComposite, ContComposite, SubType}
use Rattle.wasm_smith_config.specs.Config.{IsGood}
use Rattle.wasm_smith_config.specs.Defaults.{least_counts}
use Rattle.wasm_smith_config.specs.declared.config.Config.{Config}
use Rattle.wasm_smith_module.specs.Generating.{has_shape}
use Rattle.wasm_smith_types.specs.Offering.{max_results}
use Rattle.wasm_smith_definitions.specs.FunctionTypes.{is_function}

-- ---- configurations

-- A configuration with which lists can be asked for: modules are made from it, it has no shapes, no minimum is above 0, and not everything is exported.
pub record IsAskable (c : Config) : Type 0 where
  pub good : IsGood c
  pub no_shapes : has_shape c ≡ false
  pub nothing_owed : AllByRecursion (λ minimum. minimum ≡ 0) (least_counts c)
  pub no_exports : c.export_everything ≡ false

-- ---- value types, bound being the number of types that references may go to

-- true of a type to which references are offered
abbrev pub is_offered_heap : Config → AbstractHeapType → Bool
is_offered_heap c Func = true
is_offered_heap c Extern = true
is_offered_heap c Exn = c.exceptions_enabled
is_offered_heap c NoExn = c.gc_enabled && c.exceptions_enabled
is_offered_heap c Cont = c.stack_switching_enabled
is_offered_heap c NoCont = c.stack_switching_enabled
is_offered_heap c _ = c.gc_enabled

-- an abstract type that is offered, or with garbage collection any type below the bound
abbrev pub is_target : Config → ℕ → HeapType ℕ → Bool
is_target c bound (Abstract heap) = is_offered_heap c heap
is_target c bound (Concrete index) = c.gc_enabled && nat_lt index bound

-- a type that the configuration enables; references may be null
abbrev pub is_enabled : Config → ℕ → ValType ℕ → Bool
is_enabled c bound I32 = true
is_enabled c bound I64 = true
is_enabled c bound F32 = c.allow_floats
is_enabled c bound F64 = c.allow_floats
is_enabled c bound V128 = c.simd_enabled
is_enabled c bound (Ref nullable heap) = nullable && c.reference_types_enabled && is_target c bound heap

-- packed or of an enabled type
abbrev pub is_member_storage : Config → ℕ → StorageType ℕ → Bool
is_member_storage c bound I8 = true
is_member_storage c bound I16 = true
is_member_storage c bound (Val type) = is_enabled c bound type

abbrev pub is_member_field : Config → ℕ → FieldType ℕ → Bool
is_member_field c bound field = is_member_storage c bound field.element_type

-- ---- groups

-- at most 20 parameters, and at most 20 results, or one where there are no several results, all of enabled types
abbrev pub is_member_function : Config → ℕ → FuncType ℕ → Bool
is_member_function c bound type =
    nat_le (length type.params) 20 && nat_le (length type.results) (max_results c) &&
    list_all (is_enabled c bound) type.params && list_all (is_enabled c bound) type.results

-- functions, structures of at most 20 fields, arrays
abbrev pub is_member_composite : Config → ℕ → CompositeType ℕ → Bool
is_member_composite c bound (FuncComposite type) = is_member_function c bound type
is_member_composite c bound (StructComposite fields) = nat_le (length fields) 20 && list_all (is_member_field c bound) fields
is_member_composite c bound (ArrayComposite field) = is_member_field c bound field
is_member_composite c bound (ContComposite function) = false

-- a final or open type without supertypes
abbrev pub is_member_type : Config → ℕ → SubType ℕ → Bool
is_member_type c bound type = length type.supertypes == 0 && is_member_composite c bound type.composite_type

-- one final function type
abbrev pub is_lone_function : List (SubType ℕ) → Bool
is_lone_function (type ∷ []) = type.is_final && is_function type.composite_type
is_lone_function _ = false

-- some types, which may refer to all types before the end of their group; without garbage collection, one final function type
abbrev pub is_member_group : Config → ℕ → List (SubType ℕ) → Bool
is_member_group c end group = nat_lt 0 (length group) && list_all (is_member_type c end) group && (c.gc_enabled || is_lone_function group)

-- groups that come after so many types
abbrev pub are_member_groups : Config → ℕ → List (List (SubType ℕ)) → Bool
are_member_groups c before [] = true
are_member_groups c before (group ∷ groups) = is_member_group c (before + length group) group && are_member_groups c (before + length group) groups

-- the types of the groups, in their order
abbrev pub types_of : List (List (SubType ℕ)) → List (SubType ℕ)
types_of [] = []
types_of (group ∷ groups) = group ++ types_of groups

-- such groups, of at most as many types as the configuration allows
pub record AreMemberGroups (c : Config) (groups : List (List (SubType ℕ))) : Type 0 where
  pub each : IsTrue (are_member_groups c 0 groups)
  pub few : length (types_of groups) ≤ c.max_types

-- ---- functions

-- true of the index of a function type
abbrev pub is_function_at : List (SubType ℕ) → ℕ → Bool
is_function_at [] index = false
is_function_at (type ∷ types) zero = is_function type.composite_type
is_function_at (type ∷ types) (suc index) = is_function_at types index

-- functions, each of a function type among these, and at most as many as the configuration allows
pub record AreMemberFunctions (c : Config) (types : List (SubType ℕ)) (funcs : List ℕ) : Type 0 where
  pub each : IsTrue (list_all (is_function_at types) funcs)
  pub few : length funcs ≤ c.max_funcs

-- ---- lists

pub record IsMember (c : Config) (groups : List (List (SubType ℕ))) (funcs : List ℕ) : Type 0 where
  pub types_fit : AreMemberGroups c groups
  pub functions_fit : AreMemberFunctions c (types_of groups) funcs

-- the family of a configuration with which lists can be asked for
pub record IsInFamily (c : Config) (groups : List (List (SubType ℕ))) (funcs : List ℕ) : Type 0 where
  pub askable : IsAskable c
  pub member : IsMember c groups funcs
