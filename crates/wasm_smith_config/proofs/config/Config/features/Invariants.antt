use Rattle.std.proofs.Common.{◌≡◌, drop}
use Rattle.wasm_core_types.specs.Features.{feature_set}
use Rattle.wasm_smith_config.proofs.UnionLaws.{grown_by}
use Rattle.wasm_smith_config.specs.Rows.{rows_of}
use Rattle.wasm_smith_config.proofs.config.Config.features.Given as goal

abbrev pub invariant-loop-flag : goal.invariant-loop-flag
invariant-loop-flag l =
    grown_by (feature_set l.features) (rows_of (drop l.flag-index l.flag-items)) ≡ grown_by 0 (rows_of l.flag-items)
