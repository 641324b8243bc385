use Rattle.wasm_encoder_custom.proofs.core_dump_stack.CoreDumpStackSection.frame.Statement.{statement}
use Rattle.wasm_encoder_custom.proofs.core_dump_stack.CoreDumpStackSection.frame.Code as code
use Rattle.wasm_encoder_custom.proofs.core_dump_stack.CoreDumpStackSection.push.Met.{met}
use Rattle.wasm_encoder_custom.specs.contracts.core_dump_stack.CoreDumpStackSection.{the_row as R}
use Rattle.wasm_encoder_custom.specs.contracts.core_dump_stack.CoreDumpValue.{the_row as CoreDumpValue}
use Rattle.wasm_core_write.proofs.ChainArguments.{by_u32, by_slice, first, second, same_full}
use Rattle.wasm_core_write.proofs.ChainsOfFive.{chains}

pub frame_spec : {M : Type 1} → statement M
frame_spec 𝓤 𝓛 𝓜 𝓡 w = chains 𝓤 𝓛 𝓜 𝓡 2 R by_u32 by_u32 by_u32 (by_slice first CoreDumpValue) (by_slice second CoreDumpValue) _ _ _ _ _
    (λ κs a α δ new p. p) (λ κs a α δ s u. same_full s u)
    (code.unfolded 𝓤 𝓛.H 𝓜 𝓡 w) (met 𝓤 𝓛 𝓜 𝓡 (code.calls-wasm_encoder_custom::core_dump_stack::CoreDumpStackSection::push 𝓡.env w))
