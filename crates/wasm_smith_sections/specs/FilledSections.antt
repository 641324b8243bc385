-- Filled sections of the code: their ids, and what stands in their frames.
use Rattle.std.specs.Prelude.{◌≡◌, ℕ, ◌<◌, ◌≤◌, ◌^◌, Bool, if◌then◌else◌, List, [], ◌∷◌, ◌++◌, length, map}
use Rattle.std.specs.Cow.{cow_slice_items, cow_str_bytes}
use Rattle.std.specs.Option.{option_to_list}
use Rattle.wasm_encoder_custom.specs.CustomSections.{custom_content}
use Rattle.wasm_encoder_sections.specs.ItemEncodings.{export_encoding, import_encoding, memory_type_encoding, tag_type_encoding}
use Rattle.wasm_spec.specs.Grammar.{section_id}
use Rattle.wasm_spec.specs.Shortest.{unsigned_encoding, list_encoding, framed_encoding}
use Rattle.wasm_spec.specs.Syntax.{Section, TypeSection, ImportSection, FunctionSection, TableSection, MemorySection, TagSection, GlobalSection, ExportSection, StartSection, ElementSection, DataCountSection, CodeSection, DataSection}
use Rattle.wasm_spec.specs.TypeEncodings.{rec_groups_encoding}
use Rattle.wasm_smith_sections.specs.Contents.{content}
use Rattle.wasm_smith_sections.specs.declared.filled_section.FilledSection.{FilledSection}
use Rattle.wasm_smith_sections.specs.declared.filled_section.FilledSection.TheVariants as filled
use Rattle.wasm_smith_validity.specs.Made.{Made}
use Rattle.wasm_smith_validity.specs.Sections.{customs_before, unless_empty}

abbrev pub filled_id : FilledSection → ℕ
filled_id (filled.Types groups) = 1
filled_id (filled.Imports imports) = 2
filled_id (filled.Functions indexes) = 3
filled_id (filled.Tables tables) = 4
filled_id (filled.Memories types) = 5
filled_id (filled.Tags indexes) = 13
filled_id (filled.Globals globals) = 6
filled_id (filled.Exports exports) = 7
filled_id (filled.Start function) = 8
filled_id (filled.Elements segments) = 9
filled_id (filled.DataCount count) = 12
filled_id (filled.Code bodies) = 10
filled_id (filled.Data segments) = 11
filled_id (filled.Custom section) = 0

abbrev pub filled_content : FilledSection → List ℕ
filled_content (filled.Types groups) = rec_groups_encoding groups
filled_content (filled.Imports imports) = list_encoding import_encoding imports
filled_content (filled.Functions indexes) = list_encoding unsigned_encoding indexes
filled_content (filled.Tables tables) = list_encoding (λ item. item) tables
filled_content (filled.Memories types) = list_encoding memory_type_encoding types
filled_content (filled.Tags indexes) = list_encoding tag_type_encoding indexes
filled_content (filled.Globals globals) = list_encoding (λ item. item) globals
filled_content (filled.Exports exports) = list_encoding export_encoding exports
filled_content (filled.Start section) = unsigned_encoding section.function_index
filled_content (filled.Elements segments) = list_encoding (λ item. item) segments
filled_content (filled.DataCount section) = unsigned_encoding section.count
filled_content (filled.Code bodies) = list_encoding framed_encoding bodies
filled_content (filled.Data segments) = list_encoding (λ item. item) segments
filled_content (filled.Custom section) = custom_content (cow_str_bytes section.name) (cow_slice_items section.data)

-- A section is its id and its content.
abbrev pub filled_frame : FilledSection → ℕ × List ℕ
filled_frame section = (filled_id section, filled_content section)

abbrev pub frame : Section → ℕ × List ℕ
frame section = (section_id section, content section)

abbrev pub frame_bytes : ℕ × List ℕ → List ℕ
frame_bytes it = it.0 ∷ framed_encoding it.1

-- filled sections grow by some of the specification
abbrev pub AddSections : List FilledSection → List FilledSection → List Section → Type 0
AddSections old new added = map filled_frame new ≡ map filled_frame old ++ map frame added

-- ---- the sections of a made module, in three parts

-- a kind's section, if there is one, behind the custom sections of its place
abbrev pub placed : ℕ → Made → List Section → List Section
placed place m kind = customs_before place m.customs ++ kind

-- from types to memories
abbrev pub first_sections : Made → List Section
first_sections m = placed 0 m (unless_empty (λ xs. TypeSection xs) m.groups)
    ++ (placed 1 m (unless_empty (λ xs. ImportSection xs) m.imports)
    ++ (placed 2 m (unless_empty (λ xs. FunctionSection xs) m.funcs)
    ++ (placed 3 m (unless_empty (λ xs. TableSection xs) m.tables)
    ++ placed 4 m (unless_empty (λ xs. MemorySection xs) m.memories))))

-- from tags to element segments
abbrev pub middle_sections : Made → List Section
middle_sections m = placed 5 m (unless_empty (λ xs. TagSection xs) m.tags)
    ++ (placed 6 m (unless_empty (λ xs. GlobalSection xs) m.globals)
    ++ (placed 7 m (unless_empty (λ xs. ExportSection xs) m.exports)
    ++ (placed 8 m (map (λ f. StartSection f) (option_to_list m.start))
    ++ placed 9 m (unless_empty (λ xs. ElementSection xs) m.elems))))

-- from the number of data segments to the custom sections at the end
abbrev pub last_sections : Bool → List (List ℕ) → Made → List Section
last_sections counted bodies m = placed 10 m (unless_empty (λ segments. DataCountSection (length segments)) (if counted then m.data_segments else []))
    ++ (placed 11 m (unless_empty (λ xs. CodeSection xs) bodies)
    ++ (placed 12 m (unless_empty (λ xs. DataSection xs) m.data_segments)
    ++ customs_before 13 m.customs))

-- ---- lengths

abbrev pub IsShortFrame : ℕ × List ℕ → Type 0
IsShortFrame it = length it.1 < 2 ^ 32

abbrev pub IsLongFrame : ℕ × List ℕ → Type 0
IsLongFrame it = 2 ^ 32 ≤ length it.1
