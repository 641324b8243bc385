-- The bytes of a section tell its items.
use Rattle.std.proofs.Common.{◌≡◌, ℕ, Bool, true, List, [], ◌∷◌, length, map, Option, Some, None, refl, sym, ap, ◌∙◌}
use Rattle.wasm_spec.specs.Grammar.{section_id, IsContent}
use Rattle.wasm_spec.specs.Shortest.{unsigned_encoding, list_encoding, framed_encoding}
use Rattle.wasm_spec.specs.SmallIndexes.{IsSmallIndex}
use Rattle.wasm_spec.specs.Syntax.{Section, Table, Export, ImportEntry, FunctionSection, TableSection, MemorySection, TagSection, ExportSection, ImportSection, functions_in}
use Rattle.wasm_spec.specs.Types.{MemoryType, TableType}
use Rattle.wasm_spec.proofs.Decoding.{apart, unsigned_at, unsigned_decodes}
use Rattle.wasm_core_read.specs.ModuleReading.{content_of}
use Rattle.wasm_core_read.proofs.ReadingLaws.{content_again}
use Rattle.wasm_encoder_sections.specs.ItemEncodings.{bare_table, limits_encoding, table_type_encoding, tag_type_encoding, export_encoding, import_encoding}
use Rattle.wasm_encoder_sections.specs.SmallItems.{IsSmallLimits, IsSmallTable, IsSmallExport, IsSmallImport}
use Rattle.wasm_encoder_sections.proofs.ShortestSections as shortest
use Rattle.wasm_encoder_sections_laws.specs.Told.{TellsItems}

-- ---- what sections have

abbrev tables_in : Section → List Table
tables_in (TableSection tables) = tables
tables_in _ = []

abbrev memories_in : Section → List MemoryType
memories_in (MemorySection types) = types
memories_in _ = []

abbrev tags_in : Section → List ℕ
tags_in (TagSection indexes) = indexes
tags_in _ = []

abbrev exports_in : Section → List Export
exports_in (ExportSection exports) = exports
exports_in _ = []

abbrev imports_in : Section → List ImportEntry
imports_in (ImportSection imports) = imports
imports_in _ = []

-- ---- equal bytes

-- frames of the same bytes have the same content
pub same_content : (a b : List ℕ) → framed_encoding a ≡ framed_encoding b → a ≡ b
unfolding framed_encoding
same_content a b e = (apart unsigned_encoding unsigned_at unsigned_decodes (length a) (length b) a b e).1

abbrev section_in : Section → Option Section → Section
section_in other None = other
section_in other (Some section) = section

pub same : (compact : Bool) (s t : Section) (a b : List ℕ) → IsContent compact a s → IsContent compact b t → section_id s ≡ section_id t → framed_encoding a ≡ framed_encoding b → s ≡ t
same compact s t a b h k id e =
    let both : content_of compact (section_id s) a ≡ content_of compact (section_id t) b = rw (id, same_content a b e) refl in
    ap (section_in s) (sym (content_again compact a s h) ∙ both ∙ content_again compact b t k)

abbrev types_of : List Table → List (TableType ℕ)
types_of tables = map (λ table. table.type) tables

bare : (types : List (TableType ℕ)) → types_of (map bare_table types) ≡ types
bare [] = refl
bare (type ∷ types) = ap (λ l. type ∷ l) (bare types)

pub functions : TellsItems unsigned_encoding IsSmallIndex
functions xs ys small smalls short shorts e =
    ap functions_in (same true (FunctionSection xs) (FunctionSection ys) (list_encoding unsigned_encoding xs) (list_encoding unsigned_encoding ys) (shortest.functions true xs small short).encodes (shortest.functions true ys smalls shorts).encodes refl e)

pub tables : TellsItems table_type_encoding IsSmallTable
tables xs ys small smalls short shorts e =
    sym (bare xs) ∙ ap types_of (ap tables_in (same true (TableSection (map bare_table xs)) (TableSection (map bare_table ys)) (list_encoding table_type_encoding xs) (list_encoding table_type_encoding ys) (shortest.tables true xs small short).encodes (shortest.tables true ys smalls shorts).encodes refl e)) ∙ bare ys

pub memories : TellsItems limits_encoding IsSmallLimits
memories xs ys small smalls short shorts e =
    ap memories_in (same true (MemorySection xs) (MemorySection ys) (list_encoding limits_encoding xs) (list_encoding limits_encoding ys) (shortest.memories true xs small short).encodes (shortest.memories true ys smalls shorts).encodes refl e)

pub tags : TellsItems tag_type_encoding IsSmallIndex
tags xs ys small smalls short shorts e =
    ap tags_in (same true (TagSection xs) (TagSection ys) (list_encoding tag_type_encoding xs) (list_encoding tag_type_encoding ys) (shortest.tags true xs small short).encodes (shortest.tags true ys smalls shorts).encodes refl e)

pub exports : TellsItems export_encoding IsSmallExport
exports xs ys small smalls short shorts e =
    ap exports_in (same true (ExportSection xs) (ExportSection ys) (list_encoding export_encoding xs) (list_encoding export_encoding ys) (shortest.exports true xs small short).encodes (shortest.exports true ys smalls shorts).encodes refl e)

pub imports : TellsItems import_encoding (IsSmallImport true)
imports xs ys small smalls short shorts e =
    ap imports_in (same true (ImportSection xs) (ImportSection ys) (list_encoding import_encoding xs) (list_encoding import_encoding ys) (shortest.imports true xs small short).encodes (shortest.imports true ys smalls shorts).encodes refl e)
