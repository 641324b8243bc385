use Rattle.std.proofs.Common.{refl}
use Rattle.wasm_smith_config.proofs.InstructionLaws.{kept, left_again}
use Rattle.wasm_smith_config.proofs.instruction_kinds.InstructionKinds.without_floats.Goals as goal

pub returns-clause-twice_is_once : goal.returns-clause-twice_is_once
returns-clause-twice_is_once c = rw (left_again c.args.self.now.bits 0xfdf5 refl) refl

pub returns-clause-each : goal.returns-clause-each
returns-clause-each c = kept c.args.self.now
