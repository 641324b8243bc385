use Rattle.wasm_encoder_bodies.proofs.instruction_sink.InstructionSink.br_table.Statement.{statement}
use Rattle.wasm_encoder_bodies.proofs.instruction_sink.InstructionSink.br_table.Code as code
use Rattle.wasm_encoder_bodies.proofs.instruction_sink.InstructionSink.push_br_table.Met.{met}
use Rattle.wasm_encoder_bodies.specs.contracts.instruction_sink.InstructionSink.{the_row as R}
use denote.Builtin.{u32}
use Rattle.wasm_core_write.proofs.ChainArguments.{by_u32, by_slice, first, same_reason}
use Rattle.wasm_core_write.proofs.ChainsOfTwo.{chains}

pub br_table_spec : {M : Type 1} → statement M
br_table_spec 𝓤 𝓛 𝓜 𝓡 w = chains 𝓤 𝓛 𝓜 𝓡 1 R (by_slice first u32) by_u32 _ _ _ _ _ (λ κs a α δ new p. p) (λ κs a α δ s u. same_reason _ s u)
    (code.unfolded 𝓤 𝓛.H 𝓜 𝓡 w) (met 𝓤 𝓛 𝓜 𝓡 (code.calls-wasm_encoder_bodies::instruction_sink::InstructionSink::push_br_table 𝓡.env w))
