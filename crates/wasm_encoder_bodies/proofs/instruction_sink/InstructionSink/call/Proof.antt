use Rattle.wasm_encoder_bodies.proofs.instruction_sink.InstructionSink.call.Statement.{statement}
use Rattle.wasm_encoder_bodies.proofs.instruction_sink.InstructionSink.call.Code as code
use Rattle.wasm_encoder_bodies.proofs.instruction_sink.InstructionSink.push_call.Met.{met}
use Rattle.wasm_encoder_bodies.specs.contracts.instruction_sink.InstructionSink.{the_row as R}
use Rattle.wasm_core_write.proofs.ChainArguments.{by_u32, same_reason}
use Rattle.wasm_core_write.proofs.ChainsOfOne.{chains}

pub call_spec : {M : Type 1} → statement M
call_spec 𝓤 𝓛 𝓜 𝓡 w = chains 𝓤 𝓛 𝓜 𝓡 0 R by_u32 _ _ _ _ _ (λ κs a α δ new p. p) (λ κs a α δ s u. same_reason _ s u)
    (code.unfolded 𝓤 𝓛.H 𝓜 𝓡 w) (met 𝓤 𝓛 𝓜 𝓡 (code.calls-wasm_encoder_bodies::instruction_sink::InstructionSink::push_call 𝓡.env w))
