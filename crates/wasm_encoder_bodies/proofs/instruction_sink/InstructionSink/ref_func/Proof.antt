use Rattle.wasm_encoder_bodies.proofs.instruction_sink.InstructionSink.ref_func.Statement.{statement}
use Rattle.wasm_encoder_bodies.proofs.instruction_sink.InstructionSink.ref_func.Code as code
use Rattle.wasm_encoder_bodies.proofs.instruction_sink.InstructionSink.push_ref_func.Met.{met}
use Rattle.wasm_encoder_bodies.specs.contracts.instruction_sink.InstructionSink.{the_row as R}
use Rattle.wasm_core_write.proofs.ChainArguments.{by_u32, same_reason}
use Rattle.wasm_core_write.proofs.ChainsOfOne.{chains}

pub ref_func_spec : {M : Type 1} → statement M
ref_func_spec 𝓤 𝓛 𝓜 𝓡 w = chains 𝓤 𝓛 𝓜 𝓡 0 R by_u32 _ _ _ _ _ (λ κs a α δ new p. p) (λ κs a α δ s u. same_reason _ s u)
    (code.unfolded 𝓤 𝓛.H 𝓜 𝓡 w) (met 𝓤 𝓛 𝓜 𝓡 (code.calls-wasm_encoder_bodies::instruction_sink::InstructionSink::push_ref_func 𝓡.env w))
