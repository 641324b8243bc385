use Rattle.std.proofs.Common.{◌↔◌, ◌∙◌, ◌&&◌, IsTrue, ap, refl, subst}
use Rattle.wasm_core_types.specs.Features.{feature_set}
use Rattle.wasm_spec.specs.Features.{MultiMemory, has}
use Rattle.wasm_spec.specs.Types.{MemoryKind, TableKind}
use Rattle.wasm_smith_module.specs.Asked.{GoTogether}
use Rattle.wasm_smith_module.proofs.ShapeChecks.{may_both, tell_together}
use Rattle.wasm_smith_module.proofs.shapes.go_together.Goals as goal

pub returns-then-may_meet : goal.returns-then-may_meet
returns-then-may_meet c =
    let config = c.args.config.now in
    let memories = c.may_meet-then-may_meet.result in
    subst (λ tables. IsTrue (tables && memories) ↔ GoTogether config) c.if-may_meet.true
    (tell_together config (feature_set c.args.features) c.requires.features c.requires.imports c.requires.exports c.may_meet.result memories
    (c.may_meet.ensures ∙ ap (λ several. may_both config several TableKind) c.reference_types.ensures)
    (c.may_meet-then-may_meet.ensures ∙ ap (λ several. may_both config several MemoryKind) c.multi_memory.ensures))

pub returns-else-may_meet : goal.returns-else-may_meet
returns-else-may_meet c =
    let config = c.args.config.now in
    let memories = may_both config (has (feature_set c.args.features) MultiMemory) MemoryKind in
    rw c.if-may_meet.false
    (subst (λ tables. IsTrue (tables && memories) ↔ GoTogether config) c.if-may_meet.false
    (tell_together config (feature_set c.args.features) c.requires.features c.requires.imports c.requires.exports c.may_meet.result memories
    (c.may_meet.ensures ∙ ap (λ several. may_both config several TableKind) c.reference_types.ensures) refl))
