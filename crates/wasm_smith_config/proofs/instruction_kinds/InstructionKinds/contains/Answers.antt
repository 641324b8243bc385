use Rattle.std.proofs.Common.{refl}
use Rattle.wasm_smith_config.proofs.InstructionLaws.{has_part}
use Rattle.wasm_smith_config.proofs.instruction_kinds.InstructionKinds.contains.Goals as goal

pub returns-clause-vector : goal.returns-clause-vector
returns-clause-vector c = has_part c.args.self.now.bits 0xc 0x4 refl

pub returns-clause-memory : goal.returns-clause-memory
returns-clause-memory c = has_part c.args.self.now.bits 0x300 0x100 refl
