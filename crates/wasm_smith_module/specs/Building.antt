-- Drawn modules, whatever the configuration is.
use Rattle.std.specs.Prelude.{◌≡◌, ⊤, ℕ, ◌+◌, ◌-◌, ◌^◌, ◌<◌, ◌≤◌, true, not, List, [], Option, Some, None, length, max, min, is_some}
use Rattle.std.specs.Option.{option_to_list}
use Rattle.wasm_spec.specs.Features.{Features}
use Rattle.wasm_spec.specs.Syntax.{ImportEntry, Table, Global, ElementSegment, DataSegment}
use Rattle.wasm_spec.specs.Types.{GlobalType, MemoryType, RecGroup, SubType, TableType}
use Rattle.wasm_smith_config.specs.Config.{AreFeaturesOf}
use Rattle.wasm_smith_config.specs.declared.config.Config.{Config}
use Rattle.wasm_smith_unstructured.specs.declared.error.Error.{Error}
use Rattle.wasm_smith_unstructured.specs.declared.error.Error.TheVariants.{IncorrectFormat, EmptyChoose, NotEnoughData, BadConfig, BadShape, TypeSize, Memory, TooLong}
use Rattle.wasm_smith_definitions.specs.Bounds.{IsBoundedTable}
use Rattle.wasm_smith_definitions.specs.Offered.{IsOfferedMemory}
use Rattle.wasm_smith_externs.specs.AllExports.{AreExports}
use Rattle.wasm_smith_definitions.specs.FunctionTypes.{function_indexes}
use Rattle.wasm_smith_externs.specs.Wanted.{functions_at, of_function, of_start, of_tag, start_at, start_functions, wanted_functions, wanted_tags}
use Rattle.wasm_smith_externs.specs.Candidates.{type_sizes}
use Rattle.wasm_smith_externs.specs.Imports.{AreGrownImports, of_import}
use Rattle.wasm_smith_externs.specs.Named.{all_named}
use Rattle.wasm_smith_externs.specs.Named as named
use Rattle.wasm_smith_externs.specs.ShapeExports.{shape_exports_from}
use Rattle.wasm_smith_externs.specs.ShapeImports.{shape_imports_at}
use Rattle.wasm_smith_externs.specs.declared.shape_exports.KindCounts.{KindCounts}
use Rattle.wasm_smith_shapes.specs.Shapes.{ShapeValue}
use Rattle.wasm_smith_externs.specs.declared.names.DuplicateImportsBehavior.{DuplicateImportsBehavior}
use Rattle.wasm_smith_definitions.specs.Kinds.{AnyBound, of_data, of_element, of_export, of_global, of_memory, of_table, wanted_data, wanted_elements, wanted_globals, wanted_memories, wanted_tables}
use Rattle.wasm_smith_definitions.specs.OwnItems.{OwnValue}
use Rattle.wasm_smith_definitions.specs.Steps.{IsFilled, IsGrown, IsStep}
use Rattle.wasm_smith_module.specs.Elements.{IsDrawnElement}
use Rattle.wasm_smith_module.specs.Traps.{IsSafeData}
use Rattle.wasm_smith_types.specs.Given.{AreMade, export_shape, given_types, import_shape}
use Rattle.wasm_smith_types.specs.Offering.{offers}
use Rattle.wasm_smith_validity.specs.ValidGroups.{AreValidGroups, types_of}
use Rattle.wasm_smith_validity.specs.Spaces.{Spaces, functions_of, spaces_of_types}
use Rattle.wasm_smith_module.specs.Asked.{counts_of, has_non_null, import_bounds, imports_start, own_of}
use Rattle.wasm_smith_module.specs.Code.{code_at}
use Rattle.wasm_smith_module.specs.Customs.{customs_at}
use Rattle.wasm_smith_module.specs.Items.{DrawnItems, items_of}
use Rattle.wasm_smith_module.specs.ModuleValue.{ModuleValue}
use Rattle.wasm_smith_module.specs.Promise.{exports_everything, owed}

-- ---- types

-- Groups that are made: they keep the rules and the bounds, and are those of shapes and those that are drawn, if they are drawn so; these bytes are left.
pub record AreGroups (c : Config) (old new : List ℕ) (groups : List (RecGroup ℕ)) : Type 0 where
  pub valid : (features : Features) → AreFeaturesOf c features → AreValidGroups features groups
  pub few : length (types_of groups) ≤ max c.max_types (given_types c)
  pub enough : c.min_types ≤ c.max_types → c.min_types ≤ length (types_of groups)
  pub made : AreMade c old new groups

-- ---- items, one kind after the other

-- where imports come from: the entries of a shape, or draws
abbrev pub AreImportsFrom : Option ShapeValue → Config → DuplicateImportsBehavior → Spaces → List ℕ → Spaces → List ℕ → List ImportEntry → Type 0
AreImportsFrom (Some shape) c duplicates old s new left entries =
    (entries, left) ≡ shape_imports_at (not (is_some c.module_shape)) c.compact_imports_enabled (λ index. imports_start c (length old.types) + index) shape.imports s
AreImportsFrom None c duplicates old s new left entries = AreGrownImports c (import_bounds c old.types) duplicates old s new left entries

-- Imports are made.
pub record AreImports (c : Config) (duplicates : DuplicateImportsBehavior) (old : Spaces) (s : List ℕ) (new : Spaces) (left : List ℕ) (entries : List ImportEntry) : Type 0 where
  pub step : IsStep c of_import old new entries
  pub origin : AreImportsFrom (import_shape c) c duplicates old s new left entries

-- a type index is all that there is of a function or a tag
abbrev pub itself : ℕ → ℕ
itself index = index

-- Imports, tags and functions are made, with these of the module's own.
pub record IsFront (c : Config) (duplicates : DuplicateImportsBehavior) (own : OwnValue) (old : Spaces) (s : List ℕ) (new : Spaces) (left : List ℕ) (imports : List ImportEntry) (tags funcs : List ℕ) (before : KindCounts) : Type 0 where
  pub imported : Spaces
  pub after_imports : List ℕ
  pub tagged : Spaces
  pub after_tags : List ℕ
  pub made_imports : AreImports c duplicates old s imported after_imports imports
  pub counts : before ≡ counts_of imported
  pub made_tags : IsFilled c (wanted_tags c) of_tag (AnyBound c) itself own.tags imported after_imports tagged after_tags tags
  pub made_funcs : IsFilled c (wanted_functions c) of_function (AnyBound c) itself own.functions tagged after_tags new left funcs
  pub drawn : own.functions ≡ [] → functions_at c (function_indexes 0 tagged.types) (length (functions_of tagged)) after_tags ≡ (funcs, left)

abbrev pub type_of_table : Table → TableType ℕ
type_of_table table = table.type

abbrev pub type_of_memory : MemoryType → MemoryType
type_of_memory type = type

abbrev pub type_of_global : Global → GlobalType ℕ
type_of_global global = global.type

-- Tables, memories and globals are made, with these of the module's own.
pub record AreDefinitions (c : Config) (own : OwnValue) (old : Spaces) (s : List ℕ) (new : Spaces) (left : List ℕ) (tables : List Table) (memories : List MemoryType) (globals : List Global) : Type 0 where
  pub with_tables : Spaces
  pub after_tables : List ℕ
  pub with_memories : Spaces
  pub after_memories : List ℕ
  pub made_tables : IsFilled c (wanted_tables c) of_table (IsBoundedTable c) type_of_table own.tables old s with_tables after_tables tables
  pub made_memories : IsFilled c (wanted_memories c) of_memory (IsOfferedMemory c) type_of_memory own.memories with_tables after_tables with_memories after_memories memories
  pub made_globals : IsFilled c (wanted_globals c) of_global (AnyBound c) type_of_global own.globals with_memories after_memories new left globals

-- where exports come from: a shape, and then nothing is drawn, or draws
abbrev pub AreExportsFrom : Option ShapeValue → Config → ℕ → KindCounts → Spaces → List ℕ → Spaces → List ℕ → Type 0
AreExportsFrom (Some shape) c imports_size before old s new left = (new.exports ≡ shape_exports_from before shape.exports) × (left ≡ s)
AreExportsFrom None c imports_size before old s new left = AreExports c imports_size old s new left

-- Exports are made, which the spaces keep, then the start function and segments are drawn.
pub record AreUses (c : Config) (imports_size : ℕ) (before : KindCounts) (old : Spaces) (s : List ℕ) (new : Spaces) (left : List ℕ) (start : Option ℕ) (elems : List ElementSegment) (data_segments : List DataSegment) : Type 0 where
  pub exported : Spaces
  pub after_exports : List ℕ
  pub after_start : List ℕ
  pub with_elems : Spaces
  pub after_elems : List ℕ
  pub exports_step : IsStep c of_export old exported exported.exports
  pub made_exports : AreExportsFrom (export_shape c) c imports_size before old s exported after_exports
  pub starts : IsStep c of_start exported exported (option_to_list start)
  pub start_drawn : start_at c.allow_start_export (start_functions exported) after_exports ≡ (start, after_start)
  pub grown_elems : IsGrown c (wanted_elements c) of_element (IsDrawnElement c exported) exported after_start with_elems after_elems elems
  pub grown_data_segments : IsGrown c (wanted_data c) of_data (IsSafeData c with_elems) with_elems after_elems new left data_segments

-- All items after these types are made.
pub record AreItems (c : Config) (duplicates : DuplicateImportsBehavior) (types : List (SubType ℕ)) (s left : List ℕ) (items : DrawnItems) : Type 0 where
  pub before : KindCounts
  pub imports_size : ℕ
  pub declared : Spaces
  pub after_front : List ℕ
  pub defined : Spaces
  pub after_definitions : List ℕ
  pub used : Spaces
  pub front : IsFront c duplicates (own_of c types) (spaces_of_types types) s declared after_front items.imports items.tags items.funcs before
  pub definitions : AreDefinitions c (own_of c types) declared after_front defined after_definitions items.tables items.memories items.globals
  pub uses : AreUses c imports_size before defined after_definitions used left items.start items.elems items.data_segments
  pub exports : items.exports ≡ used.exports
  pub size : imports_size ≡ min (type_sizes types (named.types_of (all_named items.imports))) (2 ^ 64 - 1)

-- ---- modules

-- A module is what is drawn after these groups, with the configuration.
pub record IsFinished (c : Config) (duplicates : DuplicateImportsBehavior) (groups : List (RecGroup ℕ)) (old new : List ℕ) (m : ModuleValue) : Type 0 where
  pub config : m.config ≡ c
  pub same_groups : m.made.groups ≡ groups
  pub after_items : List ℕ
  pub items : AreItems c duplicates (types_of groups) old after_items (items_of m.made)
  pub after_code : List ℕ
  pub code : code_at c.allow_invalid_funcs (offers c) (length (types_of groups)) (length m.made.funcs) after_items ≡ (m.made.bodies, after_code)
  pub customs : customs_at c.generate_custom_sections after_code ≡ (m.made.customs, new)

-- a module that is finished after groups that are made
pub record IsBuilt (c : Config) (duplicates : DuplicateImportsBehavior) (old new : List ℕ) (m : ModuleValue) : Type 0 where
  pub after : List ℕ
  pub groups : AreGroups c old after m.made.groups
  pub finished : IsFinished c duplicates m.made.groups after new m

-- why drawing ends without a module: items are owed that can't be made, a shape has a table or global of references that can't be null, of which there may be none,
-- everything is to be exported and its types may be too large, or memory ran out
abbrev pub IsEnd : Config → Error → Type 0
IsEnd c IncorrectFormat = 0 < owed c
IsEnd c EmptyChoose = has_non_null c ≡ true
IsEnd c NotEnoughData = ⊥
IsEnd c (BadConfig field) = ⊥
IsEnd c (BadShape field) = ⊥
IsEnd c TypeSize = exports_everything c ≡ true
IsEnd c Memory = ⊤
IsEnd c TooLong = ⊥
