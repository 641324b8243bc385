use Rattle.wasm_encoder_sections.proofs.export_section.ExportSection.export.Statement.{statement}
use Rattle.wasm_encoder_sections.proofs.export_section.ExportSection.export.Code as code
use Rattle.wasm_encoder_sections.proofs.export_section.ExportSection.push.Met.{met}
use Rattle.wasm_encoder_sections.specs.contracts.export_section.ExportSection.{the_row as R}
use Rattle.wasm_encoder_sections.proofs.entity_type.ExportKind.TheLaws.{the_row_laws as laws}
use Rattle.wasm_core_write.proofs.ChainArguments.{by_u32, by_str, by_value, first, same_full}
use Rattle.wasm_core_write.proofs.ChainsOfThree.{chains}

pub export_spec : {M : Type 1} → statement M
export_spec 𝓤 𝓛 𝓜 𝓡 w = chains 𝓤 𝓛 𝓜 𝓡 1 R (by_str first) (by_value laws (λ x w. tt)) by_u32 _ _ _ _ _ (λ κs a α δ new p. p) (λ κs a α δ s u. same_full s u)
    (code.unfolded 𝓤 𝓛.H 𝓜 𝓡 w) (met 𝓤 𝓛 𝓜 𝓡 (code.calls-wasm_encoder_sections::export_section::ExportSection::push 𝓡.env w))
