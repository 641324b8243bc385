-- Functions whose bodies are validated one by one.
use Rattle.std.specs.Prelude.{◌≡◌, ◌+◌, ◌≤◌, ℕ, true, List, length, Some, IsSome, is_some, slice_get}
use Rattle.wasm_bodies.specs.BodyContext.{func_at}
use Rattle.wasm_core_types.specs.Features.{feature_set}
use Rattle.wasm_spec.specs.Features.{Features}
use Rattle.wasm_spec.specs.Trees.{DefType}
use Rattle.wasm_spec.specs.Types.{SubType}
use Rattle.wasm_validity.specs.Context.{Context}
use Rattle.wasm_validity.specs.DefinedTypes.{func_type_at}
use Rattle.wasmparser_func_validator.specs.declared.func_to_validate.FuncToValidate.{FuncToValidate}
use Rattle.wasmparser_validator.specs.TypesById.{AreKnown, items_by_ids}
use Rattle.wasmparser_module_state.specs.StateResources.{state_resources}
use Rattle.wasmparser_bodies.specs.Resources.{Resources}
use Rattle.wasmparser_types.specs.Index.{Index, packable}
use Rattle.wasmparser_validator.specs.KnownSpaces.{KnownModule}
use Rattle.wasmparser_validator.specs.declared.resources.ValidatorResources.{ValidatorResources}

-- The resources of bodies in a module of which this is known, its types being named by ids that stand for them.
pub record TellsModule (features : Features) (cx : Context) (resources : Resources) : Type 0 where
  pub ids : List ℕ
  pub interned : List DefType
  pub sub_types : List (SubType Index)
  pub known : AreKnown features cx.types ids interned sub_types
  pub items : resources.items ≡ items_by_ids ids sub_types cx
  -- what names a function type in the module names one by ids
  pub functions : (index : ℕ) → is_some (func_type_at cx.types index) ≡ true → IsSome (func_at resources.items index)
  -- there are no more types than type indexes that can be packed
  pub few : length resources.items.types ≤ packable

abbrev pub resources_of : ValidatorResources → Resources
resources_of resources = state_resources resources.module.value

-- its body asks for just the items of the known module, by the ids of its types
abbrev pub AsksFor : KnownModule → FuncToValidate ValidatorResources → Type 0
AsksFor known function = resources_of function.resources ≡ state_resources known.state

-- It is the function of the module's own at a place among these, has a function type, and knows all that its body may ask of the module.
pub record HasFunction (features : Features) (cx : Context) (place : ℕ) (function : FuncToValidate ValidatorResources) : Type 0 where
  pub index : function.index ≡ length cx.imported_functions + place
  pub typed : slice_get cx.own_functions place ≡ Some function.ty
  pub named : IsSome (func_at (resources_of function.resources).items function.ty)
  pub same_features : feature_set function.features ≡ features
  pub tells : TellsModule features cx (resources_of function.resources)
