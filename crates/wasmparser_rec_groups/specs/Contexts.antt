-- The context in which a module's group is judged, where ids stand for its types.
use Rattle.std.specs.Prelude.{◌≡◌, ℕ, Bool, true, List, Some, length, map, slice_get}
use Rattle.wasm_core_types.specs.Limits.{limit}
use Rattle.wasm_spec.specs.Features.{Features, needs_type_canonicalization}
use Rattle.wasm_spec.specs.Gates.{is_allowed_group}
use Rattle.wasm_spec.specs.Groups.{KeepsGroupRules, PassesLimit, reference_bound}
use Rattle.wasm_spec.specs.Limits.{Limit}
use Rattle.wasm_spec.specs.Syntax.{members}
use Rattle.wasm_spec.specs.Trees.{DefType, RefersBelow, type_at, types_of_group, unrolled}
use Rattle.wasm_spec.specs.TypeReferences.{group_map}
use Rattle.wasm_spec.specs.Types.{RecGroup}
use Rattle.wasmparser_error.specs.declared.error.ErrorKind.{ErrorKind}
use Rattle.wasmparser_error.specs.declared.error.ErrorKind.TheVariants as kinds
use Rattle.wasmparser_error.specs.declared.error.ErrorKind.TheVariants.{Invalid}
use Rattle.wasmparser_type_list.specs.TypeTables.{TablesAgree, TypeTables}
use Rattle.wasmparser_type_list.specs.IdTypes.{AreFoundByKey, RefersToNoModule, id_types}
use Rattle.wasmparser_rec_groups.specs.Interning.{AreKnown, NamesModuleTypes}
use Rattle.wasmparser_rec_groups.specs.ItemLimits.{HaveFewItems}
use Rattle.wasmparser_types.specs.Index.{Index, number_of}

-- the types that these ids stand for
abbrev pub types_of : (ℕ → Bool) → TypeTables → List ℕ → List DefType
types_of canonical tables ids = map (type_at (id_types canonical tables)) ids

-- a group that names types by their indexes in a module, as a type section has it
abbrev pub in_section : RecGroup Index → RecGroup ℕ
in_section group = group_map number_of group

-- The group of this number counts as canonical. Where types are canonicalized, all groups that do so are found by their keys.
pub record CountsAsCanonical (features : Features) (canonical : ℕ → Bool) (tables : TypeTables) (number : ℕ) : Type 0 where
  pub own : canonical number ≡ true
  pub all : needs_type_canonicalization features ≡ true → AreFoundByKey canonical tables

-- A group is one of a module whose types have these ids in a list, as it was before the group was handed in and is after that. The list has no type that names
-- another by its index in a module; the group names its types so.
pub record IsGroupOfModule (old new : TypeTables) (ids : List ℕ) (group : RecGroup Index) : Type 0 where
  pub agree : TablesAgree old
  pub now : TablesAgree new
  pub none : RefersToNoModule old
  pub known : AreKnown old ids
  pub names : NamesModuleTypes group

-- one of a group's types passes a limit
pub record PassesGroupLimit (before : List DefType) (group : RecGroup ℕ) (l : Limit) : Type 0 where
  pub place : ℕ
  pub type : DefType
  pub at : slice_get (types_of_group before group) place ≡ Some type
  pub passes : PassesLimit unrolled type l

-- why a group that comes after these types is refused with this kind
pub data JustifiesRefusal (features : Features) (before : List DefType) (group : RecGroup ℕ) : ErrorKind → Type 0 where
  breaks_a_rule : ¬ (KeepsGroupRules features before group) → JustifiesRefusal features before group Invalid
  passes_a_limit : (l : _) → PassesGroupLimit before group (limit l) → JustifiesRefusal features before group (kinds.Limit l)

-- A group after these types that is right as it is written, whatever they are: it is allowed, refers to types that are there, and none of its types has too
-- many parameters, results or fields.
pub record IsRightAsWritten (features : Features) (before : List DefType) (group : RecGroup ℕ) : Type 0 where
  pub allowed : is_allowed_group features group ≡ true
  pub in_range : RefersBelow (reference_bound features (length before) group) group
  pub few_items : HaveFewItems (members group)
