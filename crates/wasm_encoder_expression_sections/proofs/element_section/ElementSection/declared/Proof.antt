use Rattle.wasm_encoder_expression_sections.proofs.element_section.ElementSection.declared.Statement.{statement}
use Rattle.wasm_encoder_expression_sections.proofs.element_section.ElementSection.declared.Code as code
use Rattle.wasm_encoder_expression_sections.proofs.element_section.ElementSection.push_declared.Met.{met}
use Rattle.wasm_encoder_expression_sections.specs.contracts.element_section.ElementSection.{the_row as R}
use Rattle.wasm_encoder_expression_sections.proofs.element_segment.Elements.TheLaws.{the_row_laws as laws}
use Rattle.std.proofs.Common.{refl}
use Rattle.wasm_core_write.proofs.ChainArguments.{by_lent, first, same_full}
use Rattle.wasm_core_write.proofs.ChainsOfOneMoved.{chains}

pub declared_spec : {M : Type 1} → statement M
declared_spec 𝓤 𝓛 𝓜 𝓡 w = chains 𝓤 𝓛 𝓜 𝓡 1 R (by_lent first laws (λ κs. refl) (λ b x w. tt) (λ v t. t)) _ _ _ _ _ (λ κs a α δ new p. p) (λ κs a α δ s u. same_full s u)
    (code.unfolded 𝓤 𝓛.H 𝓜 𝓡 w) (met 𝓤 𝓛 𝓜 𝓡 (code.calls-wasm_encoder_expression_sections::element_section::ElementSection::push_declared 𝓡.env w))
