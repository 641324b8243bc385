use Rattle.wasm_encoder_expression_sections.proofs.data_section.DataSection.active.Statement.{statement}
use Rattle.wasm_encoder_expression_sections.proofs.data_section.DataSection.active.Code as code
use Rattle.wasm_encoder_expression_sections.proofs.data_section.DataSection.push_active.Met.{met}
use Rattle.wasm_encoder_expression_sections.specs.contracts.data_section.DataSection.{the_row as R}
use Rattle.wasm_encoder_bodies.specs.contracts.const_expr.ConstExpr.{the_row as ConstExpr}
use denote.Builtin.{u8}
use Rattle.wasm_core_write.proofs.ChainArguments.{by_u32, by_slice, by_ref, first, second, same_full}
use Rattle.wasm_core_write.proofs.ChainsOfThree.{chains}

pub active_spec : {M : Type 1} → statement M
active_spec 𝓤 𝓛 𝓜 𝓡 w = chains 𝓤 𝓛 𝓜 𝓡 2 R by_u32 (by_ref first ConstExpr) (by_slice second u8) _ _ _ _ _ (λ κs a α δ new p. p) (λ κs a α δ s u. same_full s u)
    (code.unfolded 𝓤 𝓛.H 𝓜 𝓡 w) (met 𝓤 𝓛 𝓜 𝓡 (code.calls-wasm_encoder_expression_sections::data_section::DataSection::push_active 𝓡.env w))
