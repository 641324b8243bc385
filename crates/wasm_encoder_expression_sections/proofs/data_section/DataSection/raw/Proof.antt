use Rattle.wasm_encoder_expression_sections.proofs.data_section.DataSection.raw.Statement.{statement}
use Rattle.wasm_encoder_expression_sections.proofs.data_section.DataSection.raw.Code as code
use Rattle.wasm_encoder_expression_sections.proofs.data_section.DataSection.push_raw.Met.{met}
use Rattle.wasm_encoder_expression_sections.specs.contracts.data_section.DataSection.{the_row as R}
use denote.Builtin.{u8}
use Rattle.wasm_core_write.proofs.ChainArguments.{by_slice, first, same_full}
use Rattle.wasm_core_write.proofs.ChainsOfOne.{chains}

pub raw_spec : {M : Type 1} → statement M
raw_spec 𝓤 𝓛 𝓜 𝓡 w = chains 𝓤 𝓛 𝓜 𝓡 1 R (by_slice first u8) _ _ _ _ _ (λ κs a α δ new p. p) (λ κs a α δ s u. same_full s u)
    (code.unfolded 𝓤 𝓛.H 𝓜 𝓡 w) (met 𝓤 𝓛 𝓜 𝓡 (code.calls-wasm_encoder_expression_sections::data_section::DataSection::push_raw 𝓡.env w))
