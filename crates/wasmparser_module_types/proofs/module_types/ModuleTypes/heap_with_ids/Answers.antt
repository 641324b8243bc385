use Rattle.std.proofs.Common.{◌≡◌, ap, option_map, subst, ◌∙◌}
use Rattle.wasm_core_types.specs.Features.{feature_set}
use Rattle.wasmparser_module_types.proofs.ReplacedIndexes.{HeapAnswer, heap_answered}
use Rattle.wasmparser_module_types.specs.ModuleTypes.{KnownTypes}
use Rattle.wasmparser_module_types.specs.WithIds.{heap_by_ids}
use Rattle.wasmparser_types.specs.HeapTypes.{heap_type}
use Rattle.wasmparser_module_types.proofs.module_types.ModuleTypes.heap_with_ids.Goals as goal

pub returns : goal.returns
returns c =
    let it = c.self.inside in
    let type = heap_type c.args.ty in
    let is = c.heap_with_ids.ensures ∙ ap (λ ids. heap_by_ids ids type) c.type_ids.ensures in
    let answer = subst (λ (known : KnownTypes). HeapAnswer heap_type known type c.heap_with_ids.result) c.self.view_is
    (heap_answered (feature_set it.space.features) it.list it.space.ids.items it.groups c.self.invariant.0 heap_type type c.heap_with_ids.result is) in
    record { named = answer.named; same = answer.same; ids = answer.ids; exact = subst (λ (known : KnownTypes). option_map heap_type c.heap_with_ids.result ≡ heap_by_ids known.ids type) c.self.view_is is }
