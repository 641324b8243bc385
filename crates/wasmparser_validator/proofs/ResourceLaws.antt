-- Ties what bodies may ask of a module to what is known of it.
use Rattle.std.proofs.Common.{◌≡◌, ℕ, zero, suc, ◌≤◌, ◌<◌, true, List, [], ◌∷◌, get_or, length, map, Option, Some, None, Result, Ok, Err, refl, sym, ap, subst, ◌∙◌, slice_get, arith}
use Rattle.std.specs.List.{AllByRecursion}
use Rattle.std.specs.Prelude.{IfOk, IfSome, MatchResult}
use Rattle.std.specs.Option.{IsSome, is_some, option_and_then, option_map}
use Rattle.std.proofs.lemmas.List.{length-map}
use Rattle.std.proofs.lemmas.Option.{slice_get-get_or, slice_get-map}
use Rattle.wasm_bodies.specs.BodyContext as bodies
use Rattle.wasm_bodies.specs.BodyContext.{NamedType, func_at}
use Rattle.wasm_spec.specs.Features.{Features}
use Rattle.wasm_spec.specs.Trees.{DefType, type_at}
use Rattle.wasm_spec.specs.TypeReferences.{composite_map, func_map, global_map, ref_map, sub_refs, table_map, val_map}
use Rattle.wasm_spec.specs.Types.{CompositeType, FuncComposite, StructComposite, ArrayComposite, ContComposite, FuncType, SubType}
use Rattle.wasm_validity.specs.Context.{Context, functions_in, globals_in}
use Rattle.wasm_validity.specs.DefinedTypes as defined
use Rattle.wasmparser_type_relations.specs.Chains.{by_id}
use Rattle.wasmparser_validator.specs.TypesById as by_ids
use Rattle.wasmparser_validator.specs.TypesById.{AreKnown, IsIdBelow, items_by_ids, named_by_id}
use Rattle.wasmparser_module_state.specs.State.{context, features_of}
use Rattle.wasmparser_module_state.specs.StateResources.{named_type, no_sub_type, resources_in, state_resources}
use Rattle.wasmparser_module_state.specs.declared.module_state.ModuleState.{ModuleState}
use Rattle.wasmparser_module_types.specs.ModuleTypes.{AreKnownTypes, IsIdOf, KnownTypes, stands_for}
use Rattle.wasmparser_module_types.specs.WithIds as with_ids
use Rattle.wasmparser_bodies.specs.Resources.{Resources}
use Rattle.wasmparser_type_relations.specs.Decision.{is_val_below}
use Rattle.wasmparser_types.specs.Index.{Index, Module, RecGroup, Id, packable}
use Rattle.wasmparser_validator.specs.Functions.{TellsModule, resources_of}
use Rattle.wasmparser_validator.specs.KnownSpaces.{IsReached, KnownModule}
use Rattle.wasmparser_validator.specs.declared.resources.ValidatorResources.{ValidatorResources}
use Rattle.wasmparser_validator.proofs.FewParameters.{few_parameters}

one_below : (interned : List DefType) (index : Index) → IsIdOf interned index → IsIdBelow (length interned) index
one_below interned (Module n) h = h
one_below interned (RecGroup n) h = h
one_below interned (Id n) h = h

all_below : (interned : List DefType) (indexes : List Index) → AllByRecursion (IsIdOf interned) indexes → AllByRecursion (IsIdBelow (length interned)) indexes
all_below interned [] h = tt
all_below interned (index ∷ indexes) h = (one_below interned index h.0, all_below interned indexes h.1)

pub are_known : (s : ModuleState) → AreKnownTypes s.types → AreKnown (features_of s) (context s).types s.types.ids s.types.interned s.types.sub_types
are_known s known = record {
  stand = known.types;
  within = known.within;
  count = known.count;
  unrolls = λ id type at. (known.unrolled id type at).0;
  refer = λ id type at. all_below s.types.interned (sub_refs type) (known.unrolled id type at).1;
  earlier = known.earlier;
  distinct = known.distinct;
}

-- a type index has the same id in both
same_id : (index : ℕ) (id : Option ℕ) → with_ids.id_or index id ≡ by_ids.id_or index id
same_id index None = refl
same_id index (Some id) = refl

same_ids : (ids : List ℕ) → with_ids.index_at ids ≡ by_ids.index_at ids
same_ids ids = λ i index. same_id index (slice_get ids index) i

pub items_are : (s : ModuleState) → (state_resources s).items ≡ items_by_ids s.types.ids s.types.sub_types (context s)
items_are s = λ i. record {
  types = map (named_by_id s.types.sub_types) s.types.ids;
  functions = functions_in (context s);
  tables = map (table_map (same_ids s.types.ids i)) (context s).tables;
  memories = (context s).memories;
  globals = map (global_map (same_ids s.types.ids i)) (globals_in (context s));
  tags = (context s).tags;
  elements = map (ref_map (same_ids s.types.ids i)) (context s).elements;
  data_count = (context s).data_count;
  declared = (context s).declared;
  is_below = is_val_below (by_id (slice_get s.types.sub_types));
}

-- there are no more types than can be packed
pub few_types : (s : ModuleState) → AreKnownTypes s.types → length (state_resources s).items.types ≤ packable
few_types s known = omega (arith, known.few, length-map s.types.ids (named_type s.types.sub_types))

-- ---- functions

all_at : {A : Type 0} (P : A → Type 0) (xs : List A) (i : ℕ) (x : A) → AllByRecursion P xs → slice_get xs i ≡ Some x → P x
all_at P [] i x h e = absurd cc
all_at P (y ∷ ys) zero x h e = let same : y ≡ x = cc in subst P same h.0
all_at P (y ∷ ys) (suc i) x h e = all_at P ys i x h.1 e

func_along : (f : Index → DefType) (type : CompositeType Index) → defined.func_in (composite_map f type) ≡ option_map (func_map f) (bodies.func_in type)
func_along f (FuncComposite type) = refl
func_along f (StructComposite fields) = refl
func_along f (ArrayComposite field) = refl
func_along f (ContComposite function) = refl

func_of_id : (known : KnownTypes) → AreKnownTypes known → (id : ℕ) → id < length known.interned
    → defined.func_type_of (type_at known.interned id) ≡ option_map (func_map (stands_for known)) (bodies.func_in (named_type known.sub_types id).composite)
func_of_id known are id within =
    let type : SubType Index = get_or known.sub_types id no_sub_type in
    let at : slice_get known.sub_types id ≡ Some type = slice_get-get_or known.sub_types id no_sub_type (omega (arith, within, are.count)) in
    ap (option_and_then (λ (sub : SubType DefType). defined.func_in sub.composite_type)) (are.unrolled id type at).0 ∙ func_along (stands_for known) type.composite_type

func_of_index : (known : KnownTypes) → AreKnownTypes known → (found : Option ℕ) → ((id : ℕ) → found ≡ Some id → id < length known.interned)
    → option_and_then defined.func_type_of (option_map (type_at known.interned) found)
    ≡ option_map (func_map (stands_for known)) (option_and_then (λ (named : NamedType Index). bodies.func_in named.composite) (option_map (named_type known.sub_types) found))
func_of_index known are None within = refl
func_of_index known are (Some id) within = func_of_id known are id (within id refl)

-- what an index names as a function type is, with ids replaced by what they stand for, what it names as one by ids
pub function_types : (s : ModuleState) → AreKnownTypes s.types → (index : ℕ)
    → defined.func_type_at (context s).types index ≡ option_map (func_map (stands_for s.types)) (func_at (state_resources s).items index)
function_types s are index =
    ap (λ types. option_and_then defined.func_type_of (slice_get types index)) are.types
    ∙ ap (option_and_then defined.func_type_of) (slice_get-map (type_at s.types.interned) s.types.ids index)
    ∙ func_of_index s.types are (slice_get s.types.ids index) (λ id at. all_at (λ id. id < length s.types.interned) s.types.ids index id are.within at)
    ∙ sym (ap (λ (found : Option (NamedType Index)). option_map (func_map (stands_for s.types)) (option_and_then (λ (named : NamedType Index). bodies.func_in named.composite) found))
    (slice_get-map (named_type s.types.sub_types) s.types.ids index))

some_back : {A B : Type 0} (f : A → B) (found : Option A) → is_some (option_map f found) ≡ true → IsSome found
some_back f None e = absurd cc
some_back f (Some a) e = refl

-- a function type that an index names is named by ids too
pub is_function : (s : ModuleState) → AreKnownTypes s.types → (index : ℕ) → is_some (defined.func_type_at (context s).types index) ≡ true → IsSome (func_at (state_resources s).items index)
is_function s are index named =
    some_back (func_map (stands_for s.types)) (func_at (state_resources s).items index) (subst (λ found. is_some found ≡ true) (function_types s are index) named)

-- ---- resources of a module

-- what tells of a module is just its items by the ids of its types
pub told : (s : ModuleState) (resources : Resources) → AreKnownTypes s.types → resources ≡ state_resources s → TellsModule (features_of s) (context s) resources
told s resources known same = record {
  ids = s.types.ids;
  interned = s.types.interned;
  sub_types = s.types.sub_types;
  known = are_known s known;
  items = ap (λ (r : Resources). r.items) same ∙ items_are s;
  functions = λ index named. subst (λ (r : Resources). IsSome (func_at r.items index)) (sym same) (is_function s known index named);
  few = subst (λ (r : Resources). length r.items.types ≤ packable) (sym same) (few_types s known);
}

-- what shares resources asks for the same
pub shared_asks : {E : Type 0} (s : ModuleState) (resources : ValidatorResources) (result : Result ValidatorResources E) (Other : E → Type 0) → MatchResult result (λ copy. copy.module.value ≡ resources.module.value) Other
    → resources_of resources ≡ state_resources s → IfOk result (λ r. resources_of r ≡ state_resources s)
shared_asks s resources (Ok copy) Other same asks = ap state_resources same ∙ asks
shared_asks s resources (Err e) Other same asks = tt

-- resources of a module are those of one with the same types of which the same is known
pub kept_asks : (old new : ModuleState) (found there : Option ValidatorResources) → found ≡ there → new.types ≡ old.types → context new ≡ context old
    → IfSome there (λ r. resources_of r ≡ state_resources old) → IfSome found (λ r. resources_of r ≡ state_resources new)
kept_asks old new found there same types known asks =
    subst (λ (t : KnownTypes). IfSome found (λ r. resources_of r ≡ resources_in t (context new))) (sym types)
    (subst (λ (cx : Context). IfSome found (λ r. resources_of r ≡ resources_in old.types cx)) (sym known)
    (subst (λ (o : Option ValidatorResources). IfSome o (λ r. resources_of r ≡ state_resources old)) (sym same) asks))

-- ---- parameters

-- a function type has no more parameters than there may be locals, where it is reached by entries that keep the limits
pub few_params : (s : ModuleState) → AreKnownTypes s.types → IsReached s → (index : ℕ) (type : FuncType Index) → func_at (state_resources s).items index ≡ Some type → length type.params ≤ 1000
few_params s are reached index type named =
    let meant : FuncType DefType = func_map (stands_for s.types) type in
    let at = function_types s are index ∙ ap (option_map (func_map (stands_for s.types))) named in
    let few : length meant.params ≤ 1000 = few_parameters reached.entries reached.limits index meant (ap (λ (cx : Context). defined.func_type_at cx.types index) (sym reached.known) ∙ at) in
    omega (arith, few, length-map type.params (val_map (stands_for s.types)))
