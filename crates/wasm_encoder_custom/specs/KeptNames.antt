-- The names of the code as those of the definitions, and their encodings.
use Rattle.std.specs.Prelude.{ℕ, List}
use Rattle.wasm_encoder_sections.specs.CoreItems.{name_of}
use Rattle.wasm_encoder_custom.specs.NameMaps as maps
use Rattle.wasm_encoder_custom.specs.NameMaps.{naming_encoding, indirect_naming_encoding}
use Rattle.wasm_encoder_custom.specs.declared.name_map.Naming.{Naming}
use Rattle.wasm_encoder_custom.specs.declared.name_map.IndirectNaming.{IndirectNaming}

abbrev pub naming : Naming → maps.Naming
naming it = record { index = it.index; name = name_of it.name }

abbrev pub indirect_naming : IndirectNaming → maps.IndirectNaming
indirect_naming it = record { index = it.index; names = it.names.items }

unfoldable pub naming_bytes : Naming → List ℕ
naming_bytes it = naming_encoding (naming it)

unfoldable pub indirect_naming_bytes : IndirectNaming → List ℕ
indirect_naming_bytes it = indirect_naming_encoding (indirect_naming it)
