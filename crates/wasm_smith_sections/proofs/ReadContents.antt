-- The contents of a section of a made module read as that section.
use Rattle.std.proofs.Common.{Bool, List, [], ◌∷◌, refl, arith, length-append}
use Rattle.std.specs.List.{AllByRecursion, flat_map}
use Rattle.wasm_encoder_sections.specs.SmallItems.{IsNameText, IsSmallLimits, IsSmallExport, IsSmallImport}
use Rattle.wasm_encoder_sections.specs.ItemEncodings.{name_encoding}
use Rattle.wasm_encoder_sections.proofs.ShortestImports as entries
use Rattle.wasm_encoder_sections.proofs.ShortestSections as shortest
use Rattle.wasm_smith_sections.specs.Contents.{content, data_bytes, element_bytes, global_bytes, section_bytes, table_bytes}
use Rattle.wasm_smith_sections.specs.ModuleEncoding.{IsShortSection}
use Rattle.wasm_smith_sections.specs.SmallModules.{IsSmallData, IsSmallElement, IsSmallOwnGlobal, IsSmallOwnTable}
use Rattle.wasm_smith_sections.proofs.Forms.{list_is}
use Rattle.wasm_smith_sections.proofs.ReadItems.{Laws, data_is, element_is, global_is, some_data, some_element, some_global, some_table, table_is}
use Rattle.wasm_spec.specs.Bytes.{AreBytes, IsItems}
use Rattle.wasm_spec.specs.Grammar.{IsContent, IsSection}
use Rattle.wasm_spec.specs.ModuleParts.{IsTable, IsGlobal, IsElementSegment, IsDataSegment}
use Rattle.wasm_spec.specs.SmallIndexes.{IsSmallIndex, IsSmallGroup}
use Rattle.wasm_spec.specs.Syntax.{Section, Custom, TypeSection, ImportSection, FunctionSection, TableSection, MemorySection, TagSection, GlobalSection, ExportSection, StartSection, ElementSection, DataCountSection, CodeSection, DataSection}
use Rattle.wasm_spec.proofs.ShortestTypes as types

-- the items of a section are ones that bytes can state
abbrev pub IsSmallSection : Bool → Section → Type 0
IsSmallSection compact (Custom name contents) = IsNameText name × AreBytes contents
IsSmallSection compact (TypeSection groups) = AllByRecursion IsSmallGroup groups
IsSmallSection compact (ImportSection imports) = AllByRecursion (IsSmallImport compact) imports
IsSmallSection compact (FunctionSection indexes) = AllByRecursion IsSmallIndex indexes
IsSmallSection compact (TableSection tables) = AllByRecursion IsSmallOwnTable tables
IsSmallSection compact (MemorySection types) = AllByRecursion IsSmallLimits types
IsSmallSection compact (TagSection indexes) = AllByRecursion IsSmallIndex indexes
IsSmallSection compact (GlobalSection globals) = AllByRecursion IsSmallOwnGlobal globals
IsSmallSection compact (ExportSection exports) = AllByRecursion IsSmallExport exports
IsSmallSection compact (StartSection function) = IsSmallIndex function
IsSmallSection compact (ElementSection segments) = AllByRecursion IsSmallElement segments
IsSmallSection compact (DataCountSection count) = IsSmallIndex count
IsSmallSection compact (CodeSection bodies) = AllByRecursion AreBytes bodies
IsSmallSection compact (DataSection segments) = AllByRecursion IsSmallData segments

content_is : Laws → (compact : Bool) (section : Section) → IsSmallSection compact section → IsShortSection section → IsContent compact (content section) section
content_is laws compact (Custom name contents) small short =
    (name_encoding name, contents, refl, (entries.name name small.0 (omega (arith, short, length-append (name_encoding name) contents))).encodes, (small.1, refl))
content_is laws compact (TypeSection groups) small short = (types.section compact groups small short).encodes
content_is laws compact (ImportSection imports) small short = (shortest.imports compact imports small short).encodes
content_is laws compact (FunctionSection indexes) small short = (shortest.functions compact indexes small short).encodes
content_is laws compact (TableSection tables) small short = list_is IsTable table_bytes IsSmallOwnTable some_table (table_is laws) tables small short
content_is laws compact (MemorySection types) small short = (shortest.memories compact types small short).encodes
content_is laws compact (TagSection indexes) small short = (shortest.tags compact indexes small short).encodes
content_is laws compact (GlobalSection globals) small short = list_is IsGlobal global_bytes IsSmallOwnGlobal some_global (global_is laws) globals small short
content_is laws compact (ExportSection exports) small short = (shortest.exports compact exports small short).encodes
content_is laws compact (StartSection function) small short = (shortest.start compact function small).encodes
content_is laws compact (ElementSection segments) small short = list_is IsElementSegment element_bytes IsSmallElement some_element (element_is laws) segments small short
content_is laws compact (DataCountSection count) small short = (shortest.data_count compact count small).encodes
content_is laws compact (CodeSection bodies) small short = (laws.bodies compact bodies small short).encodes
content_is laws compact (DataSection segments) small short = list_is IsDataSegment data_bytes IsSmallData some_data (data_is laws) segments small short

-- sections one after the other
pub sections_are : Laws → (compact : Bool) (sections : List Section) → AllByRecursion (IsSmallSection compact) sections → AllByRecursion IsShortSection sections
    → IsItems (IsSection compact) (flat_map section_bytes sections) sections
sections_are laws compact [] small short = refl
sections_are laws compact (section ∷ sections) small short = (
  section_bytes section,
  flat_map section_bytes sections,
  refl,
  shortest.reads compact (content section) section (content_is laws compact section small.0 short.0) short.0,
  sections_are laws compact sections small.1 short.1,
)
