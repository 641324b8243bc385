-- The imports of the code as those of the specification, and their encodings.
use Rattle.std.specs.Prelude.{ℕ, List, map}
use Rattle.wasm_spec.specs.Syntax as spec
use Rattle.wasm_encoder_sections.specs.CoreItems.{entity_type, name_of}
use Rattle.wasm_encoder_sections.specs.ItemEncodings.{import_item_encoding, import_encoding}
use Rattle.wasm_encoder_sections.specs.declared.imports.Import.{Import}
use Rattle.wasm_encoder_sections.specs.declared.imports.ImportCompact.{ImportCompact}
use Rattle.wasm_encoder_sections.specs.declared.imports.Imports.{Imports}
use Rattle.wasm_encoder_sections.specs.declared.imports.Imports.TheVariants.{Single, Compact1, Compact2}
use Rattle.wasm_encoder_sections.specs.declared.kept_imports.KeptItem.{KeptItem}
use Rattle.wasm_encoder_sections.specs.declared.kept_imports.KeptImports.{KeptImports}
use Rattle.wasm_encoder_sections.specs.declared.kept_imports.KeptImports.TheVariants as kept

abbrev pub lent_item : ImportCompact → spec.ImportItem
lent_item item = record { name = item.name.now; type = entity_type item.ty }

abbrev pub lent_import : Import → spec.ImportEntry
lent_import import = spec.Import import.module.now import.name.now (entity_type import.ty)

abbrev pub lent_entry : Imports → spec.ImportEntry
lent_entry (Single import) = lent_import import
lent_entry (Compact1 origin items) = spec.CompactItems origin.now (map lent_item items.now)
lent_entry (Compact2 origin type names) = spec.CompactNames origin.now (entity_type type) (map (λ name. name.now) names.now)

abbrev pub item_of : KeptItem → spec.ImportItem
item_of item = record { name = name_of item.name; type = entity_type item.ty }

abbrev pub entry_of : KeptImports → spec.ImportEntry
entry_of (kept.Single origin name type) = spec.Import (name_of origin) (name_of name) (entity_type type)
entry_of (kept.Items origin items) = spec.CompactItems (name_of origin) (map item_of items.items)
entry_of (kept.Names origin type names) = spec.CompactNames (name_of origin) (entity_type type) (map name_of names.items)

unfoldable pub item_bytes : KeptItem → List ℕ
item_bytes item = import_item_encoding (item_of item)

unfoldable pub entry_bytes : KeptImports → List ℕ
entry_bytes entry = import_encoding (entry_of entry)
