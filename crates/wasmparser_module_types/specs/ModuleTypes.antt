-- The types of a module that is read group by group, and the list that knows them.
use Rattle.std.specs.Prelude.{◌≡◌, ℕ, suc, ◌<◌, ◌≤◌, ◌⊎◌, Bool, true, List, [], length, map, slice_get, Option, Some, option_map, IsSome, is_some, refl}
use Rattle.std.specs.List.{AllByRecursion}
use Rattle.std.specs.Option.{option_and_then, unwrap_or}
use Rattle.std.specs.declared.ops.Range.{Range}
use Rattle.std.specs.Coded.{Coded, code_by, coded×, coded_ℕ, coded_bool, coded_list}
use Rattle.wasm_core_types.specs.Limits.{limit}
use Rattle.wasm_core_types.specs.declared.limits.Limit.TheVariants as limits
use Rattle.wasm_spec.specs.Features.{Features, needs_type_canonicalization}
use Rattle.wasm_spec.specs.Groups.{KeepsGroupRules}
use Rattle.wasm_spec.specs.Limits.{Limit, Groups, Types, IsPassedBy, most}
use Rattle.wasm_spec.specs.Trees.{AreDistinct, DefType, type_at, types_after, types_of_group, unrolled}
use Rattle.wasm_spec.specs.TypeReferences.{func_map, sub_map, sub_refs}
use Rattle.wasm_spec.specs.Types.{FuncType, RecGroup, SubType}
use Rattle.wasm_validity.specs.DefinedTypes.{PassesGroupLimit, func_type_at}
use Rattle.wasmparser_type_relations.specs.Chains.{AreBelowEarlier}
use Rattle.wasmparser_error.specs.declared.error.Error.{Error}
use Rattle.wasmparser_error.specs.declared.error.ErrorKind.{ErrorKind}
use Rattle.wasmparser_error.specs.declared.error.ErrorKind.TheVariants as kinds
use Rattle.wasmparser_type_list.specs.TypeTables.{TablesAgree, TypeTables, ids_in, sub_types}
use Rattle.wasmparser_type_list.specs.IdTypes.{AreFoundByKey, RefersToNoModule, id_types}
use Rattle.wasmparser_module_types.specs.History.{Enters, HasNoRoom}
use Rattle.wasmparser_module_types.specs.ShapeCodes.{index_code, sub_code}
use Rattle.wasmparser_module_types.specs.TreeCodes.{def_type_code}
use Rattle.wasmparser_rec_groups.specs.Contexts.{IsRightAsWritten, types_of}
use Rattle.wasmparser_rec_groups.specs.Interning.{AreKnown}
use Rattle.wasmparser_types.specs.CompositeTypes.{func_of}
use Rattle.wasmparser_types.specs.Index.{Index, Module, RecGroup as Place, Id, number_of, packable}

-- The types of a module, by type index, the features by which they were judged, how many groups they came in, the types that ids stand for, by id, the ids of
-- each group that these came in, by the group's id, and whether groups can be added to these. Then how the list keeps them: the ids of the module's types, by type
-- index, and the sub types that ids stand for, by id, which name others by ids.
pub record KnownTypes : Type 0 where
  pub features : Features
  pub types : List DefType
  pub groups : ℕ
  pub interned : List DefType
  pub interned_groups : List (List ℕ)
  pub grows : Bool
  pub ids : List ℕ
  pub sub_types : List (SubType Index)

abbrev pub known_types_code : Coded KnownTypes
known_types_code =
    code_by (ℕ × (List DefType × (ℕ × (List DefType × (List (List ℕ) × (Bool × (List ℕ × List (SubType Index))))))))
    (coded× coded_ℕ (coded× (coded_list def_type_code) (coded× coded_ℕ (coded× (coded_list def_type_code) (coded× (coded_list (coded_list coded_ℕ)) (coded× coded_bool (coded× (coded_list coded_ℕ) (coded_list (sub_code index_code)))))))))
    (λ known. (known.features, (known.types, (known.groups, (known.interned, (known.interned_groups, (known.grows, (known.ids, known.sub_types))))))))
    (λ p. record {
      features = p.0;
      types = p.1.0;
      groups = p.1.1.0;
      interned = p.1.1.1.0;
      interned_groups = p.1.1.1.1.0;
      grows = p.1.1.1.1.1.0;
      ids = p.1.1.1.1.1.1.0;
      sub_types = p.1.1.1.1.1.1.1;
    })
    (λ _. refl)

-- what an index stands for that is an id
abbrev pub stands_for : KnownTypes → Index → DefType
stands_for known index = type_at known.interned (number_of index)

-- the index is an id of one of these types
abbrev pub IsIdOf : List DefType → Index → Type 0
IsIdOf interned (Module index) = ⊥
IsIdOf interned (Place place) = ⊥
IsIdOf interned (Id id) = id < length interned

-- the ids of a group's types, in order; an unknown group has none
abbrev pub ids_of_group : KnownTypes → ℕ → List ℕ
ids_of_group known group = unwrap_or (slice_get known.interned_groups group) []

-- the type with this id came in this group
abbrev pub IsGroupOf : KnownTypes → ℕ → ℕ → Type 0
IsGroupOf known id group = (place : ℕ) × (slice_get (ids_of_group known group) place ≡ Some id)

abbrev pub AreIds : KnownTypes → List Index → Type 0
AreIds known indexes = AllByRecursion (IsIdOf known.interned) indexes

-- Every group counts as canonical, so no tree is marked, also where types aren't canonicalized: there equal definitions are equal types under several ids.
abbrev pub all_groups : ℕ → Bool
all_groups number = true

-- the types of a module whose types have these ids
abbrev pub module_types : TypeTables → List ℕ → List DefType
module_types list ids = types_of all_groups list ids

-- the types that the ids of its list stand for, by id
abbrev pub interned_types : TypeTables → List DefType
interned_types list = id_types all_groups list

-- the ids of each of its groups
abbrev pub ids_in_range : Range ℕ → List ℕ
ids_in_range range = ids_in (Some range)

abbrev pub interned_groups : TypeTables → List (List ℕ)
interned_groups list = map ids_in_range list.groups

abbrev pub known_types : Features → TypeTables → List ℕ → ℕ → KnownTypes
known_types features list ids groups =
    record {
      features = features;
      types = module_types list ids;
      groups = groups;
      interned = interned_types list;
      interned_groups = interned_groups list;
      grows = is_some list.known;
      ids = ids;
      sub_types = sub_types list;
    }

-- The list knows the module's types by these ids. Where types are canonicalized, a list that grows finds each of its groups, and no type has two ids.
pub record KnowsModule (features : Features) (list : TypeTables) (ids : List ℕ) : Type 0 where
  pub agree : TablesAgree list
  pub earlier : AreBelowEarlier (slice_get (sub_types list))
  pub known : AreKnown list ids
  pub no_module : RefersToNoModule list
  pub found : needs_type_canonicalization features ≡ true → IsSome list.known → AreFoundByKey all_groups list
  pub distinct : needs_type_canonicalization features ≡ true → AreDistinct (interned_types list)
  pub within : length ids ≤ most Types

-- What is always so of a module's types and the list: the types are those that their ids stand for, each id has a sub type, which names ids and is below earlier ones,
-- and an id unrolls to what its sub type stands for. Where types are canonicalized, no type has two ids.
pub record AreKnownTypes (known : KnownTypes) : Type 0 where
  pub types : known.types ≡ map (type_at known.interned) known.ids
  pub within : AllByRecursion (λ id. id < length known.interned) known.ids
  pub count : length known.sub_types ≡ length known.interned
  pub unrolled : (id : ℕ) (sub : SubType Index) → slice_get known.sub_types id ≡ Some sub
      → (unrolled (type_at known.interned id) ≡ Some (sub_map (stands_for known) sub)) × AreIds known (sub_refs sub)
  pub earlier : AreBelowEarlier (slice_get known.sub_types)
  pub distinct : needs_type_canonicalization known.features ≡ true → AreDistinct known.interned
  pub few : length known.ids ≤ most Types
  pub packable : AllByRecursion (λ id. id < packable) known.ids

-- Indexes of two types can be compared: where types aren't canonicalized, two ids may stand for equal types, so there no id is compared with another one.
abbrev pub CanCompare : Features → List Index → List Index → Type 0
CanCompare features lower upper = (needs_type_canonicalization features ≡ true) ⊎ AllByRecursion (λ a. AllByRecursion (λ b. a ≡ b) upper) lower

-- ---- adding a group

-- a group keeps all rules, passes no limit, and its types follow the others; the list enters it, so ids stand for what they stood for
pub record AddsGroup (old new : KnownTypes) (group : RecGroup ℕ) : Type 0 where
  pub rules : KeepsGroupRules old.features old.types group
  pub limits : (l : Limit) → ¬ (PassesGroupLimit old.types group l)
  pub few_groups : suc old.groups ≤ most Groups
  pub few_types : length (types_after old.types group) ≤ most Types
  pub types : new.types ≡ types_after old.types group
  pub groups : new.groups ≡ suc old.groups
  pub interned : Enters old.features old.interned (types_of_group old.types group) new.interned

-- A group would be one too many of so many groups, or a module's types so many that they are too many: how the error at an offset tells which.
abbrev pub IsTooMany : ℕ → ℕ → ℕ → Error → Type 0
IsTooMany groups types offset e =
    ((e ≡ record { offset = offset; kind = kinds.Limit limits.Groups }) × IsPassedBy Groups (suc groups))
    ⊎ ((e ≡ record { offset = offset; kind = kinds.Limit limits.Types }) × IsPassedBy Types types)

-- the group passes this limit
abbrev pub PassesLimitOf : KnownTypes → RecGroup ℕ → Limit → Type 0
PassesLimitOf old group l =
    ((l ≡ Groups) × IsPassedBy Groups (suc old.groups)) ⊎ (((l ≡ Types) × IsPassedBy Types (length (types_after old.types group))) ⊎ PassesGroupLimit old.types group l)

-- A group for which memory ran out, after these types and so many groups: it is within the limits on groups and types, and right as it is written.
pub record IsGroupRightSoFar (features : Features) (before : List DefType) (groups : ℕ) (group : RecGroup ℕ) : Type 0 where
  pub few_groups : suc groups ≤ most Groups
  pub few_types : length (types_after before group) ≤ most Types
  pub written : IsRightAsWritten features before group

-- why a group is refused with this kind
pub data IsCause (old : KnownTypes) (group : RecGroup ℕ) : ErrorKind → Type 0 where
  breaks_a_rule : ¬ (KeepsGroupRules old.features old.types group) → IsCause old group kinds.Invalid
  passes_a_limit : (l : _) → PassesLimitOf old group (limit l) → IsCause old group (kinds.Limit l)
  finds_no_room : HasNoRoom old.interned old.types group → IsCause old group kinds.Total
  out_of_memory : IsGroupRightSoFar old.features old.types old.groups group → IsCause old group kinds.Memory

pub record RefusesGroup (old : KnownTypes) (group : RecGroup ℕ) (offset : ℕ) (e : Error) : Type 0 where
  pub cause : IsCause old group e.kind
  pub place : e.offset ≡ offset

-- ---- what a type index names

-- the sub type, as the list keeps it, if the index names one
abbrev pub sub_type_of_index : KnownTypes → ℕ → Option (SubType Index)
sub_type_of_index known index = option_and_then (slice_get known.sub_types) (slice_get known.ids index)

-- the function type, if it is one
abbrev pub func_type_of_index : KnownTypes → ℕ → Option (FuncType Index)
func_type_of_index known index = option_and_then (λ sub. func_of sub.composite_type) (sub_type_of_index known index)

-- A function type as a list keeps it, by ids, if the index names one: with its ids replaced by what they stand for, it is the type that is named.
abbrev pub IsFuncTypeAt : KnownTypes → ℕ → Option (FuncType Index) → Type 0
IsFuncTypeAt known index found = func_type_at known.types index ≡ option_map (func_map (stands_for known)) found
