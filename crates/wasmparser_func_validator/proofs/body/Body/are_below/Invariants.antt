use Rattle.std.proofs.Common.{◌≡◌, drop, map}
use Rattle.wasm_bodies.specs.BodyContext.{are_below}
use Rattle.wasmparser_func_validator.specs.Steps.{items_in}
use Rattle.wasmparser_types.specs.ValTypes.{val_type}
use Rattle.wasmparser_func_validator.proofs.body.Body.are_below.Given as goal

-- what is left tells as much as the whole
abbrev pub invariant-loop-index : goal.invariant-loop-index
invariant-loop-index g l =
    are_below (items_in g.R.WasmModuleResources.resources l.self) (drop l.index (map val_type l.types)) (drop l.index (map val_type l.wanted))
    ≡ are_below (items_in g.R.WasmModuleResources.resources l.self) (map val_type l.types) (map val_type l.wanted)
