use Rattle.wasm_encoder_custom.proofs.symbol_table.SymbolTable.data.Statement.{statement}
use Rattle.wasm_encoder_custom.proofs.symbol_table.SymbolTable.data.Code as code
use Rattle.wasm_encoder_custom.proofs.symbol_table.SymbolTable.push_data.Met.{met}
use Rattle.wasm_encoder_custom.specs.contracts.symbol_table.SymbolTable.{the_row as R}
use Rattle.wasm_encoder_custom.proofs.symbol_table.DataSymbolDefinition.TheLaws.{the_row_laws as data_symbol_definition_laws}
use Rattle.wasm_core_write.proofs.ChainArguments.{by_u32, by_str, by_optional, first, same_full}
use Rattle.wasm_core_write.proofs.ChainsOfThree.{chains}

pub data_spec : {M : Type 1} → statement M
data_spec 𝓤 𝓛 𝓜 𝓡 w = chains 𝓤 𝓛 𝓜 𝓡 1 R by_u32 (by_str first) (by_optional data_symbol_definition_laws (λ x w. tt)) _ _ _ _ _ (λ κs a α δ new p. p) (λ κs a α δ s u. same_full s u)
    (code.unfolded 𝓤 𝓛.H 𝓜 𝓡 w) (met 𝓤 𝓛 𝓜 𝓡 (code.calls-wasm_encoder_custom::symbol_table::SymbolTable::push_data 𝓡.env w))
