-- When a module's recursive group is added to a list of types.
use Rattle.std.specs.Prelude.{◌≡◌, ◌<◌, ⊤, ℕ, Bool, true, false, List, ◌++◌, length}
use Rattle.std.specs.List.{AllByRecursion}
use Rattle.wasm_core_types.specs.Limits.{limit}
use Rattle.wasm_spec.specs.Features.{Features, Gc, has, needs_type_canonicalization}
use Rattle.wasm_spec.specs.Gates.{is_allowed_group}
use Rattle.wasm_spec.specs.TypeReferences.{group_map, group_refs}
use Rattle.wasm_spec.specs.Types.{SubType, RecGroup}
use Rattle.wasmparser_error.specs.declared.error.Error.{Error}
use Rattle.wasmparser_error.specs.declared.error.ErrorKind.{ErrorKind}
use Rattle.wasmparser_error.specs.declared.error.ErrorKind.TheVariants as kinds
use Rattle.wasmparser_error.specs.declared.error.ErrorKind.TheVariants.{Invalid, Memory, Total}
use Rattle.wasmparser_type_relations.specs.Canonical.{HaveEarlierSupertypes, IsBelow, canonical_index, index_bound}
use Rattle.wasmparser_type_list.specs.TypeTables.{Interns, TypeTables, group_ids, has_room}
use Rattle.wasmparser_rec_groups.specs.ItemLimits.{HaveFewItems, HaveManyItems}
use Rattle.wasmparser_rec_groups.specs.Kinds.{HaveSupertypesOfKind, earlier_or_own}
use Rattle.wasmparser_rec_groups.specs.Rules.{IsRefusedGroup, KeepsRulesAndDepth}
use Rattle.wasmparser_types.specs.Index.{Index, Module, RecGroup as Place, Id}
use Rattle.wasmparser_types.specs.RecGroups.{members}

-- the index is one in a module
abbrev pub IsModuleIndex : Index → Type 0
IsModuleIndex (Module n) = ⊤
IsModuleIndex (Place place) = ⊥
IsModuleIndex (Id id) = ⊥

-- a group as a module writes it
abbrev pub NamesModuleTypes : RecGroup Index → Type 0
NamesModuleTypes group = AllByRecursion IsModuleIndex (group_refs group)

-- all ids are known
abbrev pub AreKnown : TypeTables → List ℕ → Type 0
AreKnown tables ids = AllByRecursion (λ id. id < length tables.types) ids

-- the types of a group in canonical form, in a module whose earlier types have these ids
abbrev pub canonical_members : List ℕ → RecGroup Index → List (SubType Index)
canonical_members ids group = members (group_map (canonical_index ids) group)

-- What is asked of a group before it is interned. ids: those of the types before it, by type index.
pub record CanBeInterned (features : Features) (ids : List ℕ) (tables : TypeTables) (group : RecGroup Index) : Type 0 where
  pub allowed : is_allowed_group features group ≡ true
  pub supertypes : HaveEarlierSupertypes (length ids) (members group)
  pub in_range : AllByRecursion (IsBelow (index_bound (has features Gc) (length ids) (length (members group)))) (group_refs group)
  pub kinds : HaveSupertypesOfKind (earlier_or_own tables (canonical_members ids group)) (canonical_members ids group)

-- A group that can be interned, none of whose types has too many items, and its canonical form.
pub record IsInCanonicalForm (features : Features) (ids : List ℕ) (tables : TypeTables) (group canonical : RecGroup Index) : Type 0 where
  pub is : canonical ≡ group_map (canonical_index ids) group
  pub known : AreKnown tables ids
  pub names : NamesModuleTypes group
  pub internable : CanBeInterned features ids tables group
  pub few_items : HaveFewItems (members group)

-- A group was interned in canonical form, or was known so, and its types keep the rules and pass no limit.
pub record InternsValid (features : Features) (ids : List ℕ) (old new : TypeTables) (group : RecGroup Index) (number : ℕ) : Type 0 where
  pub is_new : Bool
  pub internable : CanBeInterned features ids old group
  pub few_items : HaveFewItems (members group)
  pub room : has_room old (canonical_members ids group) ≡ true
  pub interned : Interns old new (needs_type_canonicalization features) (canonical_members ids group) is_new number
  pub kept : KeepsRulesAndDepth new number

-- why a group is refused at an offset before it is interned
pub data RefusesAsWritten (features : Features) (ids : List ℕ) (tables : TypeTables) (group : RecGroup Index) (offset : ℕ) : Error → Type 0 where
  breaks_a_rule : ¬ (CanBeInterned features ids tables group) → RefusesAsWritten features ids tables group offset (record { offset = offset; kind = Invalid })
  passes_a_limit : (l : _) → HaveManyItems (members group) (limit l) → RefusesAsWritten features ids tables group offset (record { offset = offset; kind = kinds.Limit l })

-- Why a group is refused at an offset, and what is left of the list. One that breaks the rules on open and matched supertypes or on continuations, or passes the limit
-- on depth, has been interned by then. Memory runs out only for one that can be interned, and whose types are within the limits on items.
pub data Refuses (features : Features) (ids : List ℕ) (old new : TypeTables) (group : RecGroup Index) (offset : ℕ) : Error → Type 0 where
  as_written : (e : Error) → RefusesAsWritten features ids old group offset e → new ≡ old → Refuses features ids old new group offset e
  has_no_room : CanBeInterned features ids old group → has_room old (canonical_members ids group) ≡ false → new ≡ old
      → Refuses features ids old new group offset (record { offset = offset; kind = Total })
  is_refused : (is_new : Bool) (number : ℕ) (kind : ErrorKind) → CanBeInterned features ids old group → has_room old (canonical_members ids group) ≡ true
      → Interns old new (needs_type_canonicalization features) (canonical_members ids group) is_new number → IsRefusedGroup new number kind
      → Refuses features ids old new group offset (record { offset = offset; kind = kind })
  out_of_memory : CanBeInterned features ids old group → HaveFewItems (members group) → new ≡ old → Refuses features ids old new group offset (record { offset = offset; kind = Memory })

-- A group was accepted, and the ids of its types follow the others.
pub record Accepts (features : Features) (ids : List ℕ) (old new : TypeTables) (group : RecGroup Index) (new_ids : List ℕ) : Type 0 where
  pub number : ℕ
  pub valid : InternsValid features ids old new group number
  pub added : new_ids ≡ ids ++ group_ids new number
