use Rattle.wasm_encoder_sections.proofs.function_section.FunctionSection.function.Statement.{statement}
use Rattle.wasm_encoder_sections.proofs.function_section.FunctionSection.function.Code as code
use Rattle.wasm_encoder_sections.proofs.function_section.FunctionSection.push.Met.{met}
use Rattle.wasm_encoder_sections.specs.contracts.function_section.FunctionSection.{the_row as R}
use Rattle.wasm_core_write.proofs.ChainArguments.{by_u32, same_full}
use Rattle.wasm_core_write.proofs.ChainsOfOne.{chains}

pub function_spec : {M : Type 1} → statement M
function_spec 𝓤 𝓛 𝓜 𝓡 w = chains 𝓤 𝓛 𝓜 𝓡 0 R by_u32 _ _ _ _ _ (λ κs a α δ new p. p) (λ κs a α δ s u. same_full s u)
    (code.unfolded 𝓤 𝓛.H 𝓜 𝓡 w) (met 𝓤 𝓛 𝓜 𝓡 (code.calls-wasm_encoder_sections::function_section::FunctionSection::push 𝓡.env w))
