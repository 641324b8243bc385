use Rattle.wasm_core_types.specs.Features.{feature_set}
use Rattle.wasmparser_module_types.proofs.AddedGroups.{committed_knows}
use Rattle.wasmparser_module_types.proofs.module_types.ModuleTypes.copy.Goals as goal

pub invariant_of-result : goal.invariant_of-result
invariant_of-result c =
    let it = c.self.inside in
    let knows = c.self.invariant.0 in
    rw (c.in_ok-space.ensures.features, c.in_ok-space.ensures.ids)
    (committed_knows (feature_set it.space.features) it.list c.in_ok-list.list it.space.ids.items knows c.in_ok-list.ensures.copy (c.in_ok-list.ensures.agree knows.agree), c.self.invariant.1)
