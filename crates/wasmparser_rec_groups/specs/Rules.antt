-- Rules on the types that ids stand for (Core Specification 3.0, Validation, Types, "Recursive Types").
use Rattle.std.specs.Prelude.{◌≡◌, ◌<◌, ◌≤◌, ℕ, false, Some, slice_get}
use Rattle.std.specs.declared.ops.Range.{Range}
use Rattle.wasm_core_types.specs.declared.limits.Limit.TheVariants as limits
use Rattle.wasm_spec.specs.Groups.{ContinuesFunc, Extends, ExtendsSupertypes, Links, PassesLimit}
use Rattle.wasm_spec.specs.Limits.{Depth, most}
use Rattle.wasm_spec.specs.Types.{SubType}
use Rattle.wasmparser_error.specs.declared.error.ErrorKind.{ErrorKind}
use Rattle.wasmparser_error.specs.declared.error.ErrorKind.TheVariants as kinds
use Rattle.wasmparser_type_list.specs.TypeTables.{TypeTables, sub_types, type_by_id}
use Rattle.wasmparser_types.specs.Index.{Index, Id}

-- types may be declared below what an id stands for
pub record IsOpen (tables : TypeTables) (id : ℕ) : Type 0 where
  pub type : SubType Index
  pub is : slice_get (sub_types tables) id ≡ Some type
  pub is_open : type.is_final ≡ false

-- what an id stands for extends what an index stands for
pub record IdExtends (tables : TypeTables) (id : ℕ) (index : Index) : Type 0 where
  pub type : SubType Index
  pub is : slice_get (sub_types tables) id ≡ Some type
  pub extends : Extends (type_by_id tables) type index

-- what an id stands for keeps the rules on supertypes and on continuations
pub record KeepsRules (tables : TypeTables) (id : ℕ) : Type 0 where
  pub type : SubType Index
  pub is : slice_get (sub_types tables) id ≡ Some type
  pub extends : ExtendsSupertypes (type_by_id tables) type
  pub continues : ContinuesFunc (type_by_id tables) type.composite_type

-- few enough declared links lead upward from what an id stands for
abbrev pub IsWithinDepth : TypeTables → ℕ → Type 0
IsWithinDepth tables id = (links : ℕ) (above : Index) → Links (type_by_id tables) links (Id id) above → links ≤ most Depth

-- why a type is refused
pub data IsRefused (tables : TypeTables) (id : ℕ) : ErrorKind → Type 0 where
  breaks_a_rule : ¬ (KeepsRules tables id) → IsRefused tables id kinds.Invalid
  is_too_deep : PassesLimit (type_by_id tables) (Id id) Depth → IsRefused tables id (kinds.Limit limits.Depth)

-- ---- groups

-- the id is one of a group's
pub record IsIn (tables : TypeTables) (group id : ℕ) : Type 0 where
  pub range : Range ℕ
  pub at : slice_get tables.groups group ≡ Some range
  pub after : range.start ≤ id
  pub before : id < range.end

-- all types of a known group keep the rules, and are within the limit on depth
pub record KeepsRulesAndDepth (tables : TypeTables) (group : ℕ) : Type 0 where
  pub rules : (id : ℕ) → IsIn tables group id → KeepsRules tables id
  pub depth : (id : ℕ) → IsIn tables group id → IsWithinDepth tables id

-- why a group is refused
abbrev pub IsRefusedGroup : TypeTables → ℕ → ErrorKind → Type 0
IsRefusedGroup tables group kind = (id : ℕ) × IsIn tables group id × IsRefused tables id kind
