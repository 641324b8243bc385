-- The types of a made module's functions: its own functions name them, and none has too many parameters.
use Rattle.std.proofs.Common.{◌≡◌, ℕ, ◌≤◌, true, List, [], ◌∷◌, ◌++◌, length, map, Option, Some, None, is_some, slice_get, refl, ap, sym, ◌∙◌, subst, arith, inl, inr}
use Rattle.std.specs.List.{AllByRecursion}
use Rattle.std.specs.Option.{option_and_then, unwrap_or}
use Rattle.std.proofs.lemmas.Bool.{cases_lt}
use Rattle.std.proofs.lemmas.Option.{slice_get_within}
use Rattle.wasm_spec.specs.Features.{Features}
use Rattle.wasm_spec.specs.Groups.{PassesLimit, many_items, items_in}
use Rattle.wasm_spec.specs.Limits.{Params, IsPassedBy}
use Rattle.wasm_spec.specs.Syntax.{imported_by}
use Rattle.wasm_spec.specs.Trees.{DefType, types_of_group, types_from, section_types, no_type, type_at, unrolled}
use Rattle.wasm_spec.specs.Types.{FuncType, CompositeType, FuncComposite, StructComposite, ArrayComposite, ContComposite, SubType, RecGroup, ExternalType, FuncExternal, TableExternal, MemoryExternal, GlobalExternal, TagExternal}
use Rattle.wasm_spec.proofs.Carried.{carried}
use Rattle.wasm_spec.proofs.GroupTrees.{Stand}
use Rattle.wasm_spec.proofs.Places.{all_by_place, all_get, get_some}
use Rattle.wasm_validity.specs.Context.{Context, after, at_first}
use Rattle.wasm_validity.specs.DefinedTypes.{func_in}
use Rattle.wasm_validity.specs.Entries.{Entry, OfType, OfImport, OfFunction}
use Rattle.wasm_validity.specs.Rules.{KeepLimits}
use Rattle.wasm_validity.specs.ModuleBodies.{func_type_in}
use Rattle.wasm_smith_validity.specs.ValidGroups.{types_of}
use Rattle.wasm_smith_validity.specs.Made.{Made}
use Rattle.wasm_smith_validity.specs.Rules.{KeepAll}
use Rattle.wasm_smith_validity.specs.Spaces.{Spaces, func_type_at, with_item, with_items, spaces_after, spaces_after_all, spaces_of_types}
use Rattle.wasm_smith_validity.specs.Validity.{IsValidByIndex}
use Rattle.wasm_smith_validity.proofs.MadeGroups.{of_groups}
use Rattle.wasm_smith_validity.proofs.MadeSections.{all_append, rules_of}

-- ---- the rule on functions

keep_later : (features : Features) (k : Spaces) (xs ys : List Entry) → KeepAll features k (xs ++ ys) → KeepAll features (spaces_after_all k xs) ys
keep_later features k [] ys h = h
keep_later features k (x ∷ xs) ys h = keep_later features (spaces_after k x) xs ys h.1

item_types : (k : Spaces) (type : ExternalType ℕ) → (with_item k type).types ≡ k.types
item_types k (FuncExternal function) = refl
item_types k (TableExternal type) = refl
item_types k (MemoryExternal type) = refl
item_types k (GlobalExternal type) = refl
item_types k (TagExternal function) = refl

items_types : (k : Spaces) (items : List (ExternalType ℕ)) → (with_items k items).types ≡ k.types
items_types k [] = refl
items_types k (type ∷ items) = items_types (with_item k type) items ∙ item_types k type

imports_types : (k : Spaces) (imports : _) → (spaces_after_all k (map (λ x. OfImport x) imports)).types ≡ k.types
imports_types k [] = refl
imports_types k (entry ∷ imports) = imports_types (with_items k (imported_by entry)) imports ∙ items_types k (imported_by entry)

-- the index names a function type among these
abbrev IsFunction : List (SubType ℕ) → ℕ → Type 0
IsFunction types index = is_some (func_type_at types index) ≡ true

functions_kept : (features : Features) (k : Spaces) (functions : List ℕ) (others : List Entry) → KeepAll features k (map (λ x. OfFunction x) functions ++ others)
    → AllByRecursion (IsFunction k.types) functions
functions_kept features k [] others h = tt
functions_kept features k (index ∷ functions) others h = (h.0, functions_kept features (spaces_after k (OfFunction index)) functions others h.1)

functions_named : (features : Features) (m : Made) → IsValidByIndex features m → AllByRecursion (IsFunction (types_of m.groups)) m.funcs
functions_named features m valid =
    let k = spaces_of_types (types_of m.groups) in
    let imports = map (λ x. OfImport x) m.imports in
    subst (λ types. AllByRecursion (IsFunction types) m.funcs) (imports_types k m.imports)
    (functions_kept features (spaces_after_all k imports) m.funcs _ (keep_later features k imports _ (rules_of features m valid).behind_types))

-- ---- function types

-- what an index names among types as they are written: a function type
pub record NamesFunction (types : List (SubType ℕ)) (index : ℕ) : Type 0 where
  pub type : SubType ℕ
  pub func : FuncType ℕ
  pub at : slice_get types index ≡ Some type
  pub is : type.composite_type ≡ FuncComposite func
  pub named : func_type_in types index ≡ Some func

func_is : (composite : CompositeType ℕ) → is_some (func_in composite) ≡ true → (func : FuncType ℕ) × (composite ≡ FuncComposite func)
func_is (FuncComposite func) e = (func, refl)
func_is (StructComposite fields) e = absurd cc
func_is (ArrayComposite field) e = absurd cc
func_is (ContComposite function) e = absurd cc

func_named : (types : List (SubType ℕ)) (index : ℕ) (type : SubType ℕ) (func : FuncType ℕ) → slice_get types index ≡ Some type → type.composite_type ≡ FuncComposite func
    → func_type_in types index ≡ Some func
func_named types index type func at is = rw (at, is) refl

names_type : (types : List (SubType ℕ)) (index : ℕ) (o : Option (SubType ℕ)) → slice_get types index ≡ o
    → is_some (option_and_then (λ type. func_in type.composite_type) o) ≡ true → NamesFunction types index
names_type types index None at e = absurd cc
names_type types index (Some type) at e =
    let (func, is) = func_is type.composite_type e in
    record { type = type; func = func; at = at; is = is; named = func_named types index type func at is }

pub function_at : (features : Features) (m : Made) → IsValidByIndex features m → (place index : ℕ) → slice_get m.funcs place ≡ Some index
    → NamesFunction (types_of m.groups) index
function_at features m valid place index at =
    let types = types_of m.groups in
    names_type types index (slice_get types index) refl (all_get (IsFunction types) m.funcs (functions_named features m valid) place index at)

-- ---- their parameters

-- the type passes no limit on parameters
abbrev Fits : DefType → Type 0
Fits type = ¬ (PassesLimit unrolled type Params)

groups_fit : (cx : Context) (groups : List (RecGroup ℕ)) (others : List Entry) → KeepLimits cx (of_groups groups ++ others) → AllByRecursion Fits cx.types
    → AllByRecursion Fits (types_from cx.types groups)
groups_fit cx [] others h before = before
groups_fit cx (group ∷ groups) others h before =
    let own = all_by_place Fits (types_of_group cx.types group) (λ place type at passes. h.0.types Params (record { place = place; type = type; at = at; passes = passes })) in
    groups_fit (after cx (OfType group)) groups others h.1 (all_append Fits cx.types (types_of_group cx.types group) before own)

-- a function type has few parameters where no limit is passed
pub few_params : (groups : List (RecGroup ℕ)) (others : List Entry) → Stand (types_of groups) (section_types groups) → KeepLimits at_first (of_groups groups ++ others)
    → (index : ℕ) (n : NamesFunction (types_of groups) index) → length n.func.params ≤ 1000
few_params groups others stand limits index n =
    let types = types_of groups in
    let defined = section_types groups in
    let carries = carried (type_at defined) (slice_get types) unrolled stand.unrolls in
    let (type, at) = get_some defined index (omega (arith, stand.lengths, slice_get_within types index n.type n.at)) in
    let fits = all_get Fits defined (groups_fit at_first groups others limits tt) index type at in
    let same : type_at defined index ≡ type = ap (λ o. unwrap_or o no_type) at in
    elim (cases_lt 1000 (length n.func.params)) [
      | inl many ↦
          let passes : IsPassedBy Params (items_in n.type.composite_type Params) = subst (λ c. IsPassedBy Params (items_in c Params)) (sym n.is) many in
          let by_index : PassesLimit (slice_get types) index Params = many_items (record { type = n.type; is = n.at; holds = passes }) in
          absurd (fits (subst (λ t. PassesLimit unrolled t Params) same (carries.limits index Params by_index)))
      | inr few ↦ few
    ]
