-- Laws of seeds for lists, under the name of this crate.
pub use Rattle.wasm_smith_witness.proofs.MemberLaws.{not_good, nothing_else, no_min_funcs, flat_entries}
pub use Rattle.wasm_smith_witness.proofs.ReachLaws.{whole_reach, groups_on, funcs_stay}
use Rattle.wasm_spec.specs.Features.{Features}
use Rattle.wasm_smith_config.specs.Config.{AreFeaturesOf}
use Rattle.wasm_smith_config.specs.Rows.{switches}
use Rattle.wasm_smith_config.specs.declared.config.Config.{Config}
use Rattle.wasm_smith_config.proofs.UnionLaws.{grown_by, flags}

-- each configuration has features
pub features_for : (c : Config) → (features : Features) × AreFeaturesOf c features
features_for c = (grown_by 0 (switches c), flags c)
