-- Names of what has an index, and of what has one in something else that has an index. Core Specification 3.0, Appendix, Custom Sections and Annotations, "Name Section" (name
-- maps).
use Rattle.std.specs.Prelude.{ℕ, List, ◌++◌}
use Rattle.wasm_spec.specs.Shortest.{unsigned_encoding, list_encoding}
use Rattle.wasm_encoder_sections.specs.ItemEncodings.{name_encoding}

pub record Naming : Type 0 where
  pub index : ℕ
  pub name : List ℕ

unfoldable pub naming_encoding : Naming → List ℕ
naming_encoding naming = unsigned_encoding naming.index ++ name_encoding naming.name

abbrev pub name_map_encoding : List Naming → List ℕ
name_map_encoding namings = list_encoding naming_encoding namings

-- the names of what stands in something, as the bytes of their map
pub record IndirectNaming : Type 0 where
  pub index : ℕ
  pub names : List ℕ

unfoldable pub indirect_naming_encoding : IndirectNaming → List ℕ
indirect_naming_encoding naming = unsigned_encoding naming.index ++ naming.names

abbrev pub indirect_name_map_encoding : List IndirectNaming → List ℕ
indirect_name_map_encoding namings = list_encoding indirect_naming_encoding namings
