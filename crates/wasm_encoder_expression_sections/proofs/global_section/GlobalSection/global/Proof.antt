use Rattle.wasm_encoder_expression_sections.proofs.global_section.GlobalSection.global.Statement.{statement}
use Rattle.wasm_encoder_expression_sections.proofs.global_section.GlobalSection.global.Code as code
use Rattle.wasm_encoder_expression_sections.proofs.global_section.GlobalSection.push.Met.{met}
use Rattle.wasm_encoder_expression_sections.specs.contracts.global_section.GlobalSection.{the_row as R}
use Rattle.wasm_encoder_sections.proofs.entity_type.GlobalType.TheLaws.{the_row_laws as laws}
use Rattle.wasm_encoder_bodies.specs.contracts.const_expr.ConstExpr.{the_row as ConstExpr}
use Rattle.wasm_core_write.proofs.ChainArguments.{by_ref, by_value, first, same_full}
use Rattle.wasm_core_write.proofs.ChainsOfTwo.{chains}

pub global_spec : {M : Type 1} → statement M
global_spec 𝓤 𝓛 𝓜 𝓡 w = chains 𝓤 𝓛 𝓜 𝓡 1 R (by_value laws (λ x w. tt)) (by_ref first ConstExpr) _ _ _ _ _ (λ κs a α δ new p. p) (λ κs a α δ s u. same_full s u)
    (code.unfolded 𝓤 𝓛.H 𝓜 𝓡 w) (met 𝓤 𝓛 𝓜 𝓡 (code.calls-wasm_encoder_expression_sections::global_section::GlobalSection::push 𝓡.env w))
