use Rattle.std.proofs.Common.{◌≡◌, drop, find}
use Rattle.wasm_smith_config.specs.Instructions as table
use Rattle.wasm_smith_config.proofs.instruction_kinds.InstructionKindFromStr.from_str.Given as goal

abbrev pub invariant-loop-kind : goal.invariant-loop-kind
invariant-loop-kind l = find (table.is_named l.text) (drop l.kind-index l.kind-items) ≡ table.kind_named l.text
