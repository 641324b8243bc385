use Rattle.wasm_encoder_custom.proofs.core_dump.CoreDumpModulesSection.module.Statement.{statement}
use Rattle.wasm_encoder_custom.proofs.core_dump.CoreDumpModulesSection.module.Code as code
use Rattle.wasm_encoder_custom.proofs.core_dump.CoreDumpModulesSection.push.Met.{met}
use Rattle.wasm_encoder_custom.specs.contracts.core_dump.CoreDumpModulesSection.{the_row as R}
use Rattle.wasm_core_write.proofs.ChainArguments.{by_str, first, same_full}
use Rattle.wasm_core_write.proofs.ChainsOfOne.{chains}

pub module_spec : {M : Type 1} → statement M
module_spec 𝓤 𝓛 𝓜 𝓡 w = chains 𝓤 𝓛 𝓜 𝓡 1 R (by_str first) _ _ _ _ _ (λ κs a α δ new p. p) (λ κs a α δ s u. same_full s u)
    (code.unfolded 𝓤 𝓛.H 𝓜 𝓡 w) (met 𝓤 𝓛 𝓜 𝓡 (code.calls-wasm_encoder_custom::core_dump::CoreDumpModulesSection::push 𝓡.env w))
