use Rattle.std.proofs.Common.{◌≡◌, ap, option_map, subst, ◌∙◌}
use Rattle.wasm_core_types.specs.Features.{feature_set}
use Rattle.wasmparser_module_types.proofs.ReplacedIndexes.{ValAnswer, val_answered}
use Rattle.wasmparser_module_types.specs.ModuleTypes.{KnownTypes}
use Rattle.wasmparser_module_types.specs.WithIds.{val_by_ids}
use Rattle.wasmparser_types.specs.ValTypes.{val_type}
use Rattle.wasmparser_module_types.proofs.module_types.ModuleTypes.with_ids.Goals as goal

pub returns : goal.returns
returns c =
    let it = c.self.inside in
    let type = val_type c.args.ty in
    let is = c.val_with_ids.ensures ∙ ap (λ ids. val_by_ids ids type) c.type_ids.ensures in
    let answer = subst (λ (known : KnownTypes). ValAnswer val_type known type c.val_with_ids.result) c.self.view_is
    (val_answered (feature_set it.space.features) it.list it.space.ids.items it.groups c.self.invariant.0 val_type type c.val_with_ids.result is) in
    record { named = answer.named; same = answer.same; ids = answer.ids; exact = subst (λ (known : KnownTypes). option_map val_type c.val_with_ids.result ≡ val_by_ids known.ids type) c.self.view_is is }
