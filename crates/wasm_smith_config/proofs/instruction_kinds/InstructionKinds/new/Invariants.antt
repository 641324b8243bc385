use Rattle.std.proofs.Common.{◌≡◌, drop}
use Rattle.wasm_smith_config.specs.Instructions as table
use Rattle.wasm_smith_config.proofs.instruction_kinds.InstructionKinds.new.Given as goal

abbrev pub invariant-loop-kind : goal.invariant-loop-kind
invariant-loop-kind l = table.with_kinds l.set (drop l.kind-index l.kinds) ≡ table.kinds_of l.kinds
