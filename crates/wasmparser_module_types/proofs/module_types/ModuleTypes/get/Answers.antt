use Rattle.std.proofs.Common.{subst}
use Rattle.wasm_core_types.specs.Features.{feature_set}
use Rattle.wasmparser_module_types.proofs.KeptSubTypes.{Got, got}
use Rattle.wasmparser_module_types.specs.ModuleTypes.{KnownTypes}
use Rattle.wasmparser_module_types.proofs.module_types.ModuleTypes.get.Goals as goal

pub returns : goal.returns
returns c =
    let it = c.self.inside in
    let answer = subst (λ (known : KnownTypes). Got known c.args.id c.get.result) c.self.view_is
    (got (feature_set it.space.features) it.list it.space.ids.items it.groups c.self.invariant.0 c.args.id c.get.result c.get.ensures) in
    record { all = answer.all; known = answer.known; unrolled = answer.unrolled; ids = answer.ids; exact = answer.exact }
