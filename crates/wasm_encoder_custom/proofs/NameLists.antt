-- Lists of names, and their encodings.
use Rattle.std.proofs.Common.{◌≡◌, List, map}
use Rattle.wasm_core_write.proofs.TypeLists.{list_mapped}
use Rattle.wasm_spec.specs.Shortest.{list_encoding}
use Rattle.wasm_encoder_custom.specs.NameMaps.{naming_encoding, indirect_naming_encoding}
use Rattle.wasm_encoder_custom.specs.KeptNames.{naming, naming_bytes, indirect_naming, indirect_naming_bytes}
use Rattle.wasm_encoder_custom.specs.declared.name_map.Naming.{Naming}
use Rattle.wasm_encoder_custom.specs.declared.name_map.IndirectNaming.{IndirectNaming}

pub namings : (items : List Naming) → list_encoding naming_bytes items ≡ list_encoding naming_encoding (map naming items)
unfolding naming_bytes
namings items = list_mapped naming_encoding naming items

pub indirect_namings : (items : List IndirectNaming) → list_encoding indirect_naming_bytes items ≡ list_encoding indirect_naming_encoding (map indirect_naming items)
unfolding indirect_naming_bytes
indirect_namings items = list_mapped indirect_naming_encoding indirect_naming items

pub ruleset steps = (namings, indirect_namings)
