-- Reading sections and modules from the front of a list of bytes: means of proof, which the laws tie to the grammar.
use Rattle.std.specs.Prelude.{ℕ, zero, suc, Bool, true, List, [], ◌∷◌, length, drop, Option, Some, None, nat_lt, nat_eq, ◌==◌, ◌&&◌, if◌then◌else◌}
use Rattle.std.specs.List.{list_all, starts_with}
use Rattle.wasm_spec.specs.Grammar.{header, place_of, last_place}
use Rattle.wasm_spec.specs.Syntax.{Section, Custom, TypeSection, ImportSection, FunctionSection, TableSection, MemorySection, TagSection, GlobalSection, ExportSection, StartSection, ElementSection, DataCountSection, CodeSection, DataSection, functions_of, bodies_of, data_counts_of, data_of}
use Rattle.wasm_core_read.specs.PartReading.{body_at, import_at, table_at, global_at, export_at, element_at, data_at}
use Rattle.wasm_core_read.specs.Reading.{◌>>=◌, ReadingOf, byte_at, unsigned_at, bytes_at, name_at, filled}
use Rattle.wasm_core_read.specs.TypeReading.{list_at, rec_group_at, limits_at, tag_type_at}

-- a section of this id, whose content is all of this form, or else others
abbrev pub content_or : {A : Type 0} → ℕ → ReadingOf A → (A → Section) → (ℕ → List ℕ → Option Section) → ℕ → List ℕ → Option Section
content_or wanted a_at section others id bytes = if id == wanted then (filled (a_at bytes) >>= λ a. Some (section a)) else others id bytes

-- no id is left
abbrev pub no_section : ℕ → List ℕ → Option Section
no_section id bytes = None

-- the section of this id, which is no custom one, whose content the bytes are, where compact imports are on or not
abbrev pub others_of : Bool → ℕ → List ℕ → Option Section
others_of compact =
    content_or 1 (list_at rec_group_at) (λ x. TypeSection x) (content_or 2 (list_at (import_at compact)) (λ x. ImportSection x)
    (content_or 3 (list_at (unsigned_at 32)) (λ x. FunctionSection x) (content_or 4 (list_at table_at) (λ x. TableSection x)
    (content_or 5 (list_at limits_at) (λ x. MemorySection x) (content_or 6 (list_at global_at) (λ x. GlobalSection x)
    (content_or 7 (list_at export_at) (λ x. ExportSection x) (content_or 8 (unsigned_at 32) (λ x. StartSection x)
    (content_or 9 (list_at element_at) (λ x. ElementSection x) (content_or 10 (list_at body_at) (λ x. CodeSection x)
    (content_or 11 (list_at data_at) (λ x. DataSection x) (content_or 12 (unsigned_at 32) (λ x. DataCountSection x)
    (content_or 13 (list_at tag_type_at) (λ x. TagSection x) no_section))))))))))))

-- the section of this id whose content the bytes are
unfoldable pub content_of : Bool → ℕ → List ℕ → Option Section
content_of compact id bytes = if id == 0 then (name_at bytes >>= λ name. Some (Custom name.0 name.1)) else others_of compact id bytes

-- the id of a section, and its content
unfoldable pub frame_at : ReadingOf (ℕ × List ℕ)
frame_at bytes = byte_at bytes >>= λ id. unsigned_at 32 id.1 >>= λ n. bytes_at n.0 n.1 >>= λ c. Some ((id.0, c.0), c.1)

unfoldable pub section_at : Bool → ReadingOf Section
section_at compact bytes = frame_at bytes >>= λ f. content_of compact f.0.0 f.0.1 >>= λ section. Some (section, f.1)

-- sections up to the end; there are at most fuel
unfoldable pub sections_at : Bool → ℕ → List ℕ → Option (List Section)
sections_at compact fuel [] = Some []
sections_at compact zero (b ∷ bs) = None
sections_at compact (suc fuel) (b ∷ bs) = section_at compact (b ∷ bs) >>= λ x. sections_at compact fuel x.1 >>= λ others. Some (x.0 ∷ others)

-- sections up to the end
unfoldable pub sections_of : Bool → List ℕ → Option (List Section)
sections_of compact bytes = sections_at compact (length bytes) bytes

-- whether a place that a section has comes after the last one
abbrev pub is_after : ℕ → Option ℕ → Bool
is_after last None = true
is_after last (Some place) = nat_lt last place

abbrev pub are_ordered : ℕ → List Section → Bool
are_ordered last [] = true
are_ordered last (section ∷ sections) = is_after last (place_of section) && are_ordered (last_place last (place_of section)) sections

-- whether each count of data segments is theirs
abbrev pub are_counted : List Section → Bool
are_counted sections = list_all (λ count. count == length (data_of sections)) (data_counts_of sections)

-- sections in their order, with as many bodies as functions, and with the counts that are said
abbrev pub in_order : List Section → Option (List Section)
in_order sections =
    if are_ordered 0 sections && length (functions_of sections) == length (bodies_of sections) && are_counted sections then Some sections else None

unfoldable pub module_of : Bool → List ℕ → Option (List Section)
module_of compact bytes = if starts_with nat_eq bytes header then (sections_of compact (drop 8 bytes) >>= in_order) else None
