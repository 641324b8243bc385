use Rattle.wasm_encoder_expression_sections.proofs.code_section.CodeSection.function.Statement.{statement}
use Rattle.wasm_encoder_expression_sections.proofs.code_section.CodeSection.function.Code as code
use Rattle.wasm_encoder_expression_sections.proofs.code_section.CodeSection.push.Met.{met}
use Rattle.wasm_encoder_expression_sections.specs.contracts.code_section.CodeSection.{the_row as R}
use Rattle.wasm_encoder_bodies.specs.contracts.function.Function.{the_row as Function}
use Rattle.wasm_core_write.proofs.ChainArguments.{by_ref, first, same_full}
use Rattle.wasm_core_write.proofs.ChainsOfOne.{chains}

pub function_spec : {M : Type 1} → statement M
function_spec 𝓤 𝓛 𝓜 𝓡 w = chains 𝓤 𝓛 𝓜 𝓡 1 R (by_ref first Function) _ _ _ _ _ (λ κs a α δ new p. p) (λ κs a α δ s u. same_full s u)
    (code.unfolded 𝓤 𝓛.H 𝓜 𝓡 w) (met 𝓤 𝓛 𝓜 𝓡 (code.calls-wasm_encoder_expression_sections::code_section::CodeSection::push 𝓡.env w))
