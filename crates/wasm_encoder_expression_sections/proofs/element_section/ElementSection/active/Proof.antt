use Rattle.wasm_encoder_expression_sections.proofs.element_section.ElementSection.active.Statement.{statement}
use Rattle.wasm_encoder_expression_sections.proofs.element_section.ElementSection.active.Code as code
use Rattle.wasm_encoder_expression_sections.proofs.element_section.ElementSection.push_active.Met.{met}
use Rattle.wasm_encoder_expression_sections.specs.contracts.element_section.ElementSection.{the_row as R}
use Rattle.wasm_encoder_bodies.specs.contracts.const_expr.ConstExpr.{the_row as ConstExpr}
use Rattle.wasm_encoder_expression_sections.proofs.element_segment.Elements.TheLaws.{the_row_laws as laws}
use Rattle.std.proofs.Common.{refl}
use Rattle.wasm_core_write.proofs.ChainArguments.{by_ref, by_lent, by_optional_u32, first, second, same_full}
use Rattle.wasm_core_write.proofs.ChainsOfTwoAndMoved.{chains}

pub active_spec : {M : Type 1} → statement M
active_spec 𝓤 𝓛 𝓜 𝓡 w = chains 𝓤 𝓛 𝓜 𝓡 2 R by_optional_u32 (by_ref first ConstExpr) (by_lent second laws (λ κs. refl) (λ b x w. tt) (λ v t. t)) _ _ _ _ _
    (λ κs a α δ new p. p) (λ κs a α δ s u. same_full s u)
    (code.unfolded 𝓤 𝓛.H 𝓜 𝓡 w) (met 𝓤 𝓛 𝓜 𝓡 (code.calls-wasm_encoder_expression_sections::element_section::ElementSection::push_active 𝓡.env w))
