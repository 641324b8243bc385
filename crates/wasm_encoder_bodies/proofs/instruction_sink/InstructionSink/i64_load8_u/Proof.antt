use Rattle.wasm_encoder_bodies.proofs.instruction_sink.InstructionSink.i64_load8_u.Statement.{statement}
use Rattle.wasm_encoder_bodies.proofs.instruction_sink.InstructionSink.i64_load8_u.Code as code
use Rattle.wasm_encoder_bodies.proofs.instruction_sink.InstructionSink.push_i64_load8_u.Met.{met}
use Rattle.wasm_encoder_bodies.specs.contracts.instruction_sink.InstructionSink.{the_row as R}
use Rattle.wasm_encoder_instructions.proofs.mem_arg.MemArg.TheLaws.{the_row_laws as laws}
use Rattle.wasm_core_write.proofs.ChainArguments.{by_value, same_reason}
use Rattle.wasm_core_write.proofs.ChainsOfOne.{chains}

pub i64_load8_u_spec : {M : Type 1} → statement M
i64_load8_u_spec 𝓤 𝓛 𝓜 𝓡 w = chains 𝓤 𝓛 𝓜 𝓡 0 R (by_value laws (λ x w. tt)) _ _ _ _ _ (λ κs a α δ new p. p) (λ κs a α δ s u. same_reason _ s u)
    (code.unfolded 𝓤 𝓛.H 𝓜 𝓡 w) (met 𝓤 𝓛 𝓜 𝓡 (code.calls-wasm_encoder_bodies::instruction_sink::InstructionSink::push_i64_load8_u 𝓡.env w))
