-- Entries of imports of the code as those of the specification.
use Rattle.std.specs.Prelude.{map}
use Rattle.std.specs.String.{string_bytes}
use Rattle.wasm_encoder_sections.specs.CoreItems.{entity_type}
use Rattle.wasm_spec.specs.Syntax as spec
use Rattle.wasm_smith_shapes.specs.declared.imports.ImportEntry.{ImportEntry}
use Rattle.wasm_smith_shapes.specs.declared.imports.ImportEntry.TheVariants as entries
use Rattle.wasm_smith_shapes.specs.declared.imports.ImportItem.{ImportItem}

abbrev pub import_item : ImportItem → spec.ImportItem
import_item item = record { name = string_bytes item.name; type = entity_type item.ty }

abbrev pub import_entry : ImportEntry → spec.ImportEntry
import_entry (entries.Single origin name type) = spec.Import (string_bytes origin) (string_bytes name) (entity_type type)
import_entry (entries.Compact1 origin items) = spec.CompactItems (string_bytes origin) (map import_item items.items)
import_entry (entries.Compact2 origin type names) = spec.CompactNames (string_bytes origin) (entity_type type) (map string_bytes names.items)
