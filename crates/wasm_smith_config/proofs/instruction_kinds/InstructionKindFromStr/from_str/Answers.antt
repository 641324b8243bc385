use Rattle.std.proofs.Common.{rules, sym, ◌∙◌, arith}
use Rattle.wasm_smith_config.proofs.InstructionLaws.{find_more}
use Rattle.wasm_smith_config.specs.Instructions.{each_kind, is_named, kind_named}
use Rattle.wasm_smith_config.proofs.instruction_kinds.InstructionKindFromStr.from_str.Goals as goal

pub loop-kind-init : goal.loop-kind-init
unfolding kind_named
loop-kind-init c = search rules

pub loop-kind-preserved : goal.loop-kind-preserved
loop-kind-preserved c = find_more (is_named c.args.text.now) each_kind c.loop-kind.kind-index _ (omega arith) (sym c.is_named.ensures ∙ c.if-is_named.false) ∙ c.loop-kind.invariant
