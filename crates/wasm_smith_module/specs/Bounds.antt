-- Bounds that a configuration sets to the modules made for it.
use Rattle.std.specs.Prelude.{◌≡◌, ◌≤◌, ◌+◌, ℕ, true, false, [], None, length, max, drop, is_some, if◌then◌else◌}
use Rattle.std.specs.List.{AllByRecursion}
use Rattle.wasm_spec.specs.Types.{ExternalKind, FuncKind, TableKind, MemoryKind, GlobalKind, TagKind}
use Rattle.wasm_smith_config.specs.declared.config.Config.{Config}
use Rattle.wasm_smith_definitions.specs.Bounds.{IsBoundedTable}
use Rattle.wasm_smith_definitions.specs.Kinds.{count_of}
use Rattle.wasm_smith_definitions.specs.Offered.{IsOfferedMemory}
use Rattle.wasm_smith_definitions.specs.OwnItems.{OwnValue}
use Rattle.wasm_smith_externs.specs.AllExports.{everything, exported_by}
use Rattle.wasm_smith_externs.specs.Exports.{HasShortName}
use Rattle.wasm_smith_externs.specs.Sizes.{exports_size}
use Rattle.wasm_smith_externs.specs.Candidates.{IsOfferedImport, type_sizes}
use Rattle.wasm_smith_externs.specs.Imports.{IsMadeEntry, import_count}
use Rattle.wasm_smith_externs.specs.Named.{IsShortlyNamed, all_named}
use Rattle.wasm_smith_externs.specs.Named as named
use Rattle.wasm_smith_module.specs.Asked.{own_of}
use Rattle.wasm_smith_module.specs.Customs.{IsBoundedCustom}
use Rattle.wasm_smith_module.specs.Elements.{IsBoundedElement}
use Rattle.wasm_smith_module.specs.Traps.{LiesInMemory, LiesInTable}
use Rattle.wasm_smith_module.specs.TrueToShapes.{imported_of, spaces_of}
use Rattle.wasm_smith_types.specs.Given.{export_shape, given_types, import_shape}
use Rattle.wasm_smith_validity.specs.ValidGroups.{types_of}
use Rattle.wasm_smith_validity.specs.Made.{Made}
use Rattle.wasm_smith_validity.specs.Spaces.{functions_of, globals_of}

-- ---- what comes from shapes

-- how many items of a kind a module is asked to define
abbrev pub own_count : OwnValue → ExternalKind → ℕ
own_count own FuncKind = length own.functions
own_count own TableKind = length own.tables
own_count own MemoryKind = length own.memories
own_count own GlobalKind = length own.globals
own_count own TagKind = length own.tags

-- how many items of a kind come from shapes: imported ones, and those that are defined for exports
abbrev pub given_items : Config → Made → ExternalKind → ℕ
given_items c m kind = (if is_some (import_shape c) then count_of (imported_of m) kind else 0) + own_count (own_of c (types_of m.groups)) kind

abbrev pub imports_size : Made → ℕ
imports_size m = type_sizes (types_of m.groups) (named.types_of (all_named m.imports))

-- the size of the types of imports and exports that come from shapes
abbrev pub given_size : Config → Made → ℕ
given_size c m = (if is_some (import_shape c) then imports_size m else 0) + (if is_some (export_shape c) then exports_size (spaces_of m) else 0)

-- ---- bounds

-- Of imports that no shape has.
pub record AreImportsWithin (c : Config) (m : Made) : Type 0 where
  pub enough : c.min_imports ≤ import_count m.imports
  pub few : import_count m.imports ≤ c.max_imports
  pub offered : AllByRecursion (IsOfferedImport c (types_of m.groups)) (named.types_of (all_named m.imports))
  pub short : AllByRecursion IsShortlyNamed (all_named m.imports)

-- Of exports that no shape has: of some items, or of everything there is, in order.
pub record AreExportsWithin (c : Config) (m : Made) : Type 0 where
  pub enough : c.export_everything ≡ false → c.min_exports ≤ length m.exports
  pub few : c.export_everything ≡ false → length m.exports ≤ c.max_exports
  pub all : c.export_everything ≡ true → exported_by m.exports ≡ everything (spaces_of m)
  pub short : AllByRecursion (λ export. HasShortName export.name) m.exports

-- As many items of each kind as the configuration says, imported ones included, but for those that shapes have; at most 100 locals a function, and raw bodies only
-- where they are allowed; custom sections only where they are asked for, and at most ten; and the bounds on each import, table, memory, export, segment and custom
-- section that no shape has. A maximum holds except as far as shapes have more.
pub record IsWithinBounds (c : Config) (m : Made) : Type 0 where
  pub enough_types : c.min_types ≤ length (types_of m.groups)
  pub few_types : length (types_of m.groups) ≤ max c.max_types (given_types c)
  pub imports : import_shape c ≡ None → AreImportsWithin c m
  pub made_imports : AllByRecursion (IsMadeEntry c) m.imports
  pub enough_funcs : c.min_funcs ≤ length (functions_of (spaces_of m))
  pub few_funcs : length (functions_of (spaces_of m)) ≤ max c.max_funcs (given_items c m FuncKind)
  pub enough_tables : c.min_tables ≤ length (spaces_of m).tables
  pub few_tables : length (spaces_of m).tables ≤ max c.max_tables (given_items c m TableKind)
  pub enough_memories : c.min_memories ≤ length (spaces_of m).memories
  pub few_memories : length (spaces_of m).memories ≤ max c.max_memories (given_items c m MemoryKind)
  pub enough_tags : c.min_tags ≤ length (spaces_of m).tags
  pub few_tags : length (spaces_of m).tags ≤ max c.max_tags (given_items c m TagKind)
  pub enough_globals : c.min_globals ≤ length (globals_of (spaces_of m))
  pub few_globals : length (globals_of (spaces_of m)) ≤ max c.max_globals (given_items c m GlobalKind)
  pub exports : export_shape c ≡ None → AreExportsWithin c m
  pub enough_elems : c.min_element_segments ≤ length m.elems
  pub few_elems : length m.elems ≤ c.max_element_segments
  pub enough_data_segments : c.min_data_segments ≤ length m.data_segments
  pub few_data_segments : length m.data_segments ≤ c.max_data_segments
  -- the sizes of the types of all imports and exports
  pub type_size : imports_size m + exports_size (spaces_of m) ≤ max c.max_type_size (given_size c m)
  -- tables and memories behind those of the export shape
  pub tables : AllByRecursion (IsBoundedTable c) (drop (length (own_of c (types_of m.groups)).tables) m.tables)
  pub memories : AllByRecursion (IsOfferedMemory c) (drop (length (own_of c (types_of m.groups)).memories) m.memories)
  pub elems : AllByRecursion (IsBoundedElement c (spaces_of m)) m.elems
  -- where traps are disallowed, active segments lie within their tables and memories as these are at first
  pub elems_within : c.disallow_traps ≡ true → AllByRecursion (LiesInTable (spaces_of m)) m.elems
  pub data_within : c.disallow_traps ≡ true → AllByRecursion (LiesInMemory (spaces_of m)) m.data_segments
  pub few_locals : AllByRecursion (λ body. length body.locals ≤ 100) m.bodies
  pub no_raw : c.allow_invalid_funcs ≡ false → AllByRecursion (λ body. body.raw ≡ None) m.bodies
  pub no_customs : c.generate_custom_sections ≡ false → m.customs ≡ []
  pub few_customs : length m.customs ≤ 10
  pub customs : AllByRecursion IsBoundedCustom m.customs
