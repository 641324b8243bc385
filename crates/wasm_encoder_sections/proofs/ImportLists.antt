-- Lists of imports, and their encodings.
use Rattle.std.proofs.Common.{◌≡◌, ℕ, List, map, Option}
use Rattle.wasm_core_write.proofs.Items.{viewed}
use Rattle.wasm_core_write.proofs.TypeLists.{list_mapped}
use Rattle.wasm_core_write.specs.Encoding.{TellsItem}
use Rattle.wasm_spec.specs.Shortest.{list_encoding}
use Rattle.wasm_encoder_sections.specs.CoreImports.{item_of, item_bytes, entry_of, entry_bytes}
use Rattle.wasm_encoder_sections.specs.CoreItems.{name_of, name_bytes}
use Rattle.wasm_encoder_sections.specs.ItemEncodings.{name_encoding, import_item_encoding, import_encoding}
use Rattle.wasm_encoder_sections.specs.declared.kept_imports.KeptItem.{KeptItem}
use Rattle.wasm_encoder_sections.specs.declared.kept_imports.KeptImports.{KeptImports}
use Rattle.wasm_encoder_sections.specs.declared.names.Name.{Name}

pub names : (list : List Name) → list_encoding name_bytes list ≡ list_encoding name_encoding (map name_of list)
unfolding name_bytes
names list = list_mapped name_encoding name_of list

pub items : (list : List KeptItem) → list_encoding item_bytes list ≡ list_encoding import_item_encoding (map item_of list)
unfolding item_bytes
items list = list_mapped import_item_encoding item_of list

pub entries : (list : List KeptImports) → list_encoding entry_bytes list ≡ list_encoding import_encoding (map entry_of list)
unfolding entry_bytes
entries list = list_mapped import_encoding entry_of list

pub ruleset steps = (names, items, entries)

pub entry_told : (list : List KeptImports) (i : ℕ) (told : Option ℕ) → TellsItem entry_bytes list i told → TellsItem import_encoding (map entry_of list) i told
unfolding entry_bytes
entry_told list i told h = viewed import_encoding entry_of list i told h
