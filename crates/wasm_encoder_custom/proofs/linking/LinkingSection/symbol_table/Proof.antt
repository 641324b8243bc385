use Rattle.wasm_encoder_custom.proofs.linking.LinkingSection.symbol_table.Statement.{statement}
use Rattle.wasm_encoder_custom.proofs.linking.LinkingSection.symbol_table.Code as code
use Rattle.wasm_encoder_custom.proofs.linking.LinkingSection.push.Met.{met}
use Rattle.wasm_encoder_custom.specs.contracts.linking.LinkingSection.{the_row as R}
use Rattle.wasm_encoder_custom.specs.contracts.symbol_table.SymbolTable.{the_row as SymbolTable}
use Rattle.wasm_core_write.proofs.ChainArguments.{by_ref, first, same_full}
use Rattle.wasm_core_write.proofs.ChainsOfOne.{chains}

pub symbol_table_spec : {M : Type 1} → statement M
symbol_table_spec 𝓤 𝓛 𝓜 𝓡 w = chains 𝓤 𝓛 𝓜 𝓡 1 R (by_ref first SymbolTable) _ _ _ _ _ (λ κs a α δ new p. p) (λ κs a α δ s u. same_full s u)
    (code.unfolded 𝓤 𝓛.H 𝓜 𝓡 w) (met 𝓤 𝓛 𝓜 𝓡 (code.calls-wasm_encoder_custom::linking::LinkingSection::push 𝓡.env w))
