use Rattle.std.proofs.Common.{◌≡◌, sym, ap, ◌∙◌}
use Rattle.std.proofs.lemmas.List.{drop_all}
use Rattle.wasm_smith_config.proofs.KindLaws.{each_kind_of}
use Rattle.wasm_smith_config.specs.Instructions as table
use Rattle.wasm_smith_config.specs.declared.instruction_kinds.InstructionKinds.{InstructionKinds}
use Rattle.wasm_smith_config.proofs.instruction_kinds.InstructionKinds.new.Goals as goal

pub returns-clause-each : goal.returns-clause-each
returns-clause-each c =
    let same : c.loop-kind.set ≡ table.kinds_of c.args.kinds.now = ap (table.with_kinds c.loop-kind.set) (sym (drop_all c.loop-kind.kind-index c.args.kinds.now c.loop-kind-test.false)) ∙ c.loop-kind.invariant in
    λ kind. ap (λ (set : InstructionKinds). table.has set kind) same ∙ each_kind_of c.args.kinds.now kind
