-- How the items of sections read, as entries.
use Rattle.wasm_core_read.specs.PartReading.{import_at, table_at, global_at, export_at, element_at, data_at}
use Rattle.wasm_core_read.specs.Reading.{ReadingOf, seen_at, unsigned_at}
use Rattle.wasm_core_read.specs.TypeReading.{rec_group_at, limits_at, tag_type_at}
use Rattle.wasm_spec.specs.Features.{Features, CompactImports, has}
use Rattle.wasm_validity.specs.Entries.{Entry, OfType, OfImport, OfFunction, OfTable, OfMemory, OfTag, OfGlobal, OfExport, OfElement, OfData}

abbrev pub EntryReading : Type 0
EntryReading = Features → ReadingOf Entry

abbrev pub type_entry_at : EntryReading
type_entry_at features = seen_at (λ x. OfType x) rec_group_at

abbrev pub import_entry_at : EntryReading
import_entry_at features = seen_at (λ x. OfImport x) (import_at (has features CompactImports))

abbrev pub function_entry_at : EntryReading
function_entry_at features = seen_at (λ x. OfFunction x) (unsigned_at 32)

abbrev pub table_entry_at : EntryReading
table_entry_at features = seen_at (λ x. OfTable x) table_at

abbrev pub memory_entry_at : EntryReading
memory_entry_at features = seen_at (λ x. OfMemory x) limits_at

abbrev pub tag_entry_at : EntryReading
tag_entry_at features = seen_at (λ x. OfTag x) tag_type_at

abbrev pub global_entry_at : EntryReading
global_entry_at features = seen_at (λ x. OfGlobal x) global_at

abbrev pub export_entry_at : EntryReading
export_entry_at features = seen_at (λ x. OfExport x) export_at

abbrev pub element_entry_at : EntryReading
element_entry_at features = seen_at (λ x. OfElement x) element_at

abbrev pub data_entry_at : EntryReading
data_entry_at features = seen_at (λ x. OfData x) data_at
