-- The entries of the code as those of the specification.
use Rattle.std.specs.Prelude.{ℕ, List, map}
use Rattle.wasm_core_types.specs.SubTypes.{sub_type}
use Rattle.wasm_spec.specs.TypeEncodings.{rec_group_encoding}
use Rattle.wasm_spec.specs.Types as spec
use Rattle.wasm_core_write.specs.declared.rec_group.RecGroup.{RecGroup}
use Rattle.wasm_core_write.specs.declared.rec_group.RecGroup.TheVariants.{Single, Group}

abbrev pub rec_group : RecGroup → spec.RecGroup ℕ
rec_group (Single type) = spec.Single (sub_type type)
rec_group (Group types) = spec.Group (map sub_type types.items)

unfoldable pub core_group_encoding : RecGroup → List ℕ
core_group_encoding group = rec_group_encoding (rec_group group)
