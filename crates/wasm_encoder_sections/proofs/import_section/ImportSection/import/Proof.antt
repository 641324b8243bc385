use Rattle.wasm_encoder_sections.proofs.import_section.ImportSection.import.Statement.{statement}
use Rattle.wasm_encoder_sections.proofs.import_section.ImportSection.import.Code as code
use Rattle.wasm_encoder_sections.proofs.import_section.ImportSection.push_import.Met.{met}
use Rattle.wasm_encoder_sections.specs.contracts.import_section.ImportSection.{the_row as R}
use Rattle.wasm_encoder_sections.proofs.entity_type.EntityType.TheLaws.{the_row_laws as laws}
use Rattle.wasm_core_write.proofs.ChainArguments.{by_str, by_value, first, second, same_full}
use Rattle.wasm_core_write.proofs.ChainsOfThree.{chains}

pub import_spec : {M : Type 1} → statement M
import_spec 𝓤 𝓛 𝓜 𝓡 w = chains 𝓤 𝓛 𝓜 𝓡 2 R (by_str first) (by_str second) (by_value laws (λ x w. tt)) _ _ _ _ _ (λ κs a α δ new p. p) (λ κs a α δ s u. same_full s u)
    (code.unfolded 𝓤 𝓛.H 𝓜 𝓡 w) (met 𝓤 𝓛 𝓜 𝓡 (code.calls-wasm_encoder_sections::import_section::ImportSection::push_import 𝓡.env w))
