use Rattle.wasm_encoder_sections.proofs.tag_section.TagSection.tag.Statement.{statement}
use Rattle.wasm_encoder_sections.proofs.tag_section.TagSection.tag.Code as code
use Rattle.wasm_encoder_sections.proofs.tag_section.TagSection.push.Met.{met}
use Rattle.wasm_encoder_sections.specs.contracts.tag_section.TagSection.{the_row as R}
use Rattle.wasm_encoder_sections.proofs.entity_type.TagType.TheLaws.{the_row_laws as laws}
use Rattle.wasm_core_write.proofs.ChainArguments.{by_value, same_full}
use Rattle.wasm_core_write.proofs.ChainsOfOne.{chains}

pub tag_spec : {M : Type 1} → statement M
tag_spec 𝓤 𝓛 𝓜 𝓡 w = chains 𝓤 𝓛 𝓜 𝓡 0 R (by_value laws (λ x w. tt)) _ _ _ _ _ (λ κs a α δ new p. p) (λ κs a α δ s u. same_full s u)
    (code.unfolded 𝓤 𝓛.H 𝓜 𝓡 w) (met 𝓤 𝓛 𝓜 𝓡 (code.calls-wasm_encoder_sections::tag_section::TagSection::push 𝓡.env w))
