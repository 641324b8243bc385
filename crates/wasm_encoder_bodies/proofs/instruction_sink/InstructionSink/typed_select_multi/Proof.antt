use Rattle.wasm_encoder_bodies.proofs.instruction_sink.InstructionSink.typed_select_multi.Statement.{statement}
use Rattle.wasm_encoder_bodies.proofs.instruction_sink.InstructionSink.typed_select_multi.Code as code
use Rattle.wasm_encoder_bodies.proofs.instruction_sink.InstructionSink.push_typed_select_multi.Met.{met}
use Rattle.wasm_encoder_bodies.specs.contracts.instruction_sink.InstructionSink.{the_row as R}
use Rattle.wasm_core_types.specs.contracts.types.ValType.{the_row as ValType}
use Rattle.wasm_core_write.proofs.ChainArguments.{by_slice, first, same_reason}
use Rattle.wasm_core_write.proofs.ChainsOfOne.{chains}

pub typed_select_multi_spec : {M : Type 1} → statement M
typed_select_multi_spec 𝓤 𝓛 𝓜 𝓡 w = chains 𝓤 𝓛 𝓜 𝓡 1 R (by_slice first ValType) _ _ _ _ _ (λ κs a α δ new p. p) (λ κs a α δ s u. same_reason _ s u)
    (code.unfolded 𝓤 𝓛.H 𝓜 𝓡 w) (met 𝓤 𝓛 𝓜 𝓡 (code.calls-wasm_encoder_bodies::instruction_sink::InstructionSink::push_typed_select_multi 𝓡.env w))
