-- Items of the index spaces are found, and so are the types that they name.
use Rattle.std.proofs.Common.{inl, inr, ◌≡◌, ◌≤◌, ℕ, ◌<◌, Bool, true, List, [], ◌∷◌, ◌++◌, map, length, Option, Some, None, IfSome, IsSome, is_some, option_map, if◌then◌else◌, nat_lt, slice_get, refl, sym, ap, subst, ◌∙◌, arith}
use Rattle.std.proofs.lemmas.Option.{slice_get-map, slice_get_within}
use Rattle.std.specs.List.{AllByRecursion}
use Rattle.std.specs.Option.{option_and_then}
use Rattle.wasm_core_read.proofs.Forms.{ltb_tells}
use Rattle.wasm_spec.proofs.Places.{get_some}
use Rattle.wasm_spec.specs.Trees.{DefType, type_at, unrolled}
use Rattle.wasm_spec.specs.TypeReferences.{composite_refs, external_map, sub_map, sub_refs}
use Rattle.wasm_spec.specs.Types.{SubType, ExternalType, FuncExternal, TableExternal, MemoryExternal, GlobalExternal, TagExternal, ExternalKind, FuncKind, TableKind, MemoryKind, GlobalKind, TagKind}
use Rattle.wasm_validity.specs.Context.{Context, functions_in, globals_in, item_at}
use Rattle.wasm_validity.specs.DefinedTypes.{func_type_at, func_type_of}
use Rattle.wasm_validity.specs.IndexSpaces.{spaces_in}
use Rattle.wasm_validity_laws.specs.NamedTypes.{Each, NamesTypes}
use Rattle.wasmparser_module_state.specs.Entities.{meant_item, names_types}
use Rattle.wasmparser_module_types.specs.ModuleTypes.{IsIdOf, KnownTypes, stands_for}
use Rattle.wasmparser_types.specs.Index.{Index, Module, RecGroup, Id, core_type_id}
use Rattle.wasmparser_validator.specs.Shown.{declared_supertype, first_of, supertype_in}

-- ---- a look-up

is_one : {A B : Type 0} (f : A → B) (found : Option A) (y : B) → option_map f found ≡ Some y → IsSome found
is_one f None y e = absurd cc
is_one f (Some x) y e = refl

pub no_one : {A : Type 0} (found : Option A) → IsSome found → found ≡ None → ⊥
no_one found some none = let no = ap is_some (sym none) ∙ some in absurd cc

-- ---- items

pub is_there : {A B : Type 0} (f : A → B) (items : List B) (place : ℕ) (found : Option A) → option_map f found ≡ slice_get items place → place < length items → IsSome found
is_there f items place found is lt = let at = get_some items place lt in is_one f found at.0 (is ∙ at.1)

pub has_it : {A : Type 0} (items : List A) (place : ℕ) (found : Option A) → found ≡ slice_get items place → place < length items → IsSome found
has_it items place found is lt = let at = get_some items place lt in ap is_some (is ∙ at.1)

pub it_is : {A B : Type 0} (f : A → B) (items : List B) (place : ℕ) (found : Option A) (x : A) → option_map f found ≡ slice_get items place → found ≡ Some x → slice_get items place ≡ Some (f x)
it_is f items place found x is some = sym is ∙ ap (option_map f) some

-- ---- ids of types

module _ (types interned : List DefType) (index : ℕ) (found : Option ℕ) (is : slice_get types index ≡ option_map (type_at interned) found) where
  pub id_there : index < length types → IsSome found
  id_there lt = let at = get_some types index lt in is_one (type_at interned) found at.0 (sym is ∙ at.1)

  pub id_is : (id : ℕ) → found ≡ Some id → slice_get types index ≡ Some (type_at interned id)
  id_is id some = is ∙ ap (option_map (type_at interned)) some

  -- that of a function or a tag, which is found among others
  module _ (indexes : List ℕ) (place : ℕ) (at : Option ℕ) (is_at : at ≡ slice_get indexes place) (some_at : at ≡ Some index) where
    pub id_named : Each (λ index. is_some (func_type_at types index) ≡ true) indexes → IsSome found
    id_named each = of_type found is (each place index (sym is_at ∙ some_at))
      where
        of_type : (found : Option ℕ) → slice_get types index ≡ option_map (type_at interned) found → is_some (func_type_at types index) ≡ true → IsSome found
        of_type None e named = absurd (let no = ap (λ t. is_some (option_and_then func_type_of t)) (sym e) ∙ named in cc)
        of_type (Some id) e named = refl

    pub id_of : (id : ℕ) → found ≡ Some id → option_and_then (slice_get types) (slice_get indexes place) ≡ Some (type_at interned id)
    id_of id some = ap (option_and_then (slice_get types)) (sym is_at ∙ some_at) ∙ id_is id some

pub ruleset found_steps = (is_there, has_it, it_is, id_there, id_is, id_named, id_of)

-- ---- types of items

-- The meaning of an item that is found, where what it names is there; how such an item is shown as another.
module _ {A B C D : Type 0} (f : A → B) (means : B → D) (shows : C → D) (names : B → Bool) (items : List B) (place : ℕ) (at : Option A) (x : A) (found : Option C)
    (each : Each (λ item. names item ≡ true) items) (is : option_map f at ≡ slice_get items place) (some : at ≡ Some x)
    (meant : option_map shows found ≡ (if names (f x) then Some (means (f x)) else None)) where
  here : slice_get items place ≡ Some (f x)
  here = sym is ∙ ap (option_map f) some

  named : option_map shows found ≡ Some (means (f x))
  named = meant ∙ ap (λ b. if b then Some (means (f x)) else None) (each place (f x) here)

  pub is_meant : IsSome found
  is_meant = is_one shows found (means (f x)) named

  pub meant_is : (new : C) → found ≡ Some new → option_map means (slice_get items place) ≡ Some (shows new)
  meant_is new e = ap (option_map means) here ∙ sym named ∙ ap (option_map shows) e

-- ---- exports

-- a function type that an index names is one of the types
is_index : (types : List DefType) (index : ℕ) → is_some (func_type_at types index) ≡ true → nat_lt index (length types) ≡ true
is_index types index h = elim (ltb_tells index (length types)) [
  | inl (t, within) ↦ t
  | inr (t, past) ↦ absurd (at (slice_get types index) refl past)
]
  where
    at : (found : Option DefType) → slice_get types index ≡ found → length types ≤ index → ⊥
    at None e past = let no = ap (λ t. is_some (option_and_then func_type_of t)) (sym e) ∙ h in absurd cc
    at (Some type) e past = absurd (omega (arith, past, slice_get_within types index type e))

-- items of a kind whose types name types are all meant
all_meant : {A : Type 0} (make : A → ExternalType ℕ) (types : List DefType) (items : List A) (index : ℕ) → Each (λ item. names_types types (make item) ≡ true) items
    → option_and_then (meant_item types) (slice_get (map make items) index) ≡ option_map (external_map (type_at types)) (slice_get (map make items) index)
all_meant make types items index each = rw (slice_get-map make items index) (found (slice_get items index) refl)
  where
    found : (at : Option _) → slice_get items index ≡ at → option_and_then (meant_item types) (option_map make at) ≡ option_map (external_map (type_at types)) (option_map make at)
    found None e = refl
    found (Some item) e = ap (λ b. if b then Some (external_map (type_at types) (make item)) else None) (each index item e)

module _ (cx : Context) (named : NamesTypes (spaces_in cx)) where
  meant_export : (kind : ExternalKind) (index : ℕ) → option_and_then (meant_item cx.types) (item_at cx kind index) ≡ option_map (external_map (type_at cx.types)) (item_at cx kind index)
  meant_export FuncKind index = all_meant (λ x. FuncExternal x) cx.types (functions_in cx) index (λ place item at. is_index cx.types item (named.functions place item at))
  meant_export TableKind index = all_meant (λ x. TableExternal x) cx.types cx.tables index named.tables
  meant_export MemoryKind index = all_meant (λ x. MemoryExternal x) cx.types cx.memories index (λ place item at. refl)
  meant_export GlobalKind index = all_meant (λ x. GlobalExternal x) cx.types (globals_in cx) index named.globals
  meant_export TagKind index = all_meant (λ x. TagExternal x) cx.types cx.tags index (λ place item at. is_index cx.types item (named.tags place item at))

  pub entity_is : {A : Type 0} (shows : A → ExternalType DefType) (kind : ExternalKind) (index : ℕ) (found : Option A) → option_map shows found ≡ option_and_then (meant_item cx.types) (item_at cx kind index)
      → option_map shows found ≡ option_map (external_map (type_at cx.types)) (item_at cx kind index)
  entity_is shows kind index found is = is ∙ meant_export kind index

-- ---- supertypes

module _ (known : KnownTypes) where
  -- the first of some ids, and what it stands for
  first_meant : (indexes others : List Index) → AllByRecursion (IsIdOf known.interned) (indexes ++ others)
      → option_map (type_at known.interned) (option_and_then core_type_id (first_of indexes)) ≡ first_of (map (stands_for known) indexes)
  first_meant [] others ids = refl
  first_meant (Id id ∷ indexes) others ids = refl
  first_meant (Module n ∷ indexes) others ids = absurd ids.0
  first_meant (RecGroup n ∷ indexes) others ids = absurd ids.0

  first_known : (indexes others : List Index) → AllByRecursion (IsIdOf known.interned) (indexes ++ others) → IfSome (option_and_then core_type_id (first_of indexes)) (λ it. it < length known.interned)
  first_known [] others ids = tt
  first_known (Id id ∷ indexes) others ids = ids.0
  first_known (Module n ∷ indexes) others ids = tt
  first_known (RecGroup n ∷ indexes) others ids = tt

  pub supertype_same : (id : ℕ) (type : SubType Index) (found : Option ℕ) → found ≡ supertype_in type → unrolled (type_at known.interned id) ≡ Some (sub_map (stands_for known) type)
      → AllByRecursion (IsIdOf known.interned) (sub_refs type) → option_map (type_at known.interned) found ≡ declared_supertype (type_at known.interned id)
  supertype_same id type found is unrolls ids =
      ap (option_map (type_at known.interned)) is ∙ first_meant type.supertypes (composite_refs type.composite_type) ids
      ∙ sym (ap (option_and_then (λ (sub : SubType DefType). first_of sub.supertypes)) unrolls)

  pub supertype_known : (type : SubType Index) (found : Option ℕ) → found ≡ supertype_in type → AllByRecursion (IsIdOf known.interned) (sub_refs type) → IfSome found (λ it. it < length known.interned)
  supertype_known type found is ids = subst (λ f. IfSome f (λ it. it < length known.interned)) (sym is) (first_known type.supertypes (composite_refs type.composite_type) ids)

pub ruleset supertype_steps = (supertype_same, supertype_known)
