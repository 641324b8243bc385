use Rattle.wasm_core_write.proofs.type_section.TypeSection.func.Statement.{statement}
use Rattle.wasm_core_write.proofs.type_section.TypeSection.func.Code as code
use Rattle.wasm_core_write.proofs.type_section.TypeSection.push_func.Met.{met}
use Rattle.wasm_core_write.specs.contracts.type_section.TypeSection.{the_row as R}
use Rattle.wasm_core_types.proofs.types.FuncType.TheLaws.{the_row_laws as laws}
use Rattle.wasm_core_write.proofs.ChainArguments.{by_value, same_full}
use Rattle.wasm_core_write.proofs.ChainsOfOneMoved.{chains}

pub func_spec : {M : Type 1} → statement M
func_spec 𝓤 𝓛 𝓜 𝓡 w = chains 𝓤 𝓛 𝓜 𝓡 0 R (by_value laws (λ x w. tt)) _ _ _ _ _ (λ κs a α δ new p. p) (λ κs a α δ s u. same_full s u)
    (code.unfolded 𝓤 𝓛.H 𝓜 𝓡 w) (met 𝓤 𝓛 𝓜 𝓡 (code.calls-wasm_core_write::type_section::TypeSection::push_func 𝓡.env w))
