-- The feature sets of the code as those of the specification.
use Rattle.wasm_spec.specs.Features.{Features}
use Rattle.wasm_core_types.specs.declared.features.WasmFeatures.{WasmFeatures}

-- the set that a value of the code is
abbrev pub feature_set : WasmFeatures → Features
feature_set features = features.0
