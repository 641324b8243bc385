use Rattle.wasm_encoder_custom.proofs.symbol_table.SymbolTable.table.Statement.{statement}
use Rattle.wasm_encoder_custom.proofs.symbol_table.SymbolTable.table.Code as code
use Rattle.wasm_encoder_custom.proofs.symbol_table.SymbolTable.push_table.Met.{met}
use Rattle.wasm_encoder_custom.specs.contracts.symbol_table.SymbolTable.{the_row as R}
use Rattle.wasm_core_write.proofs.ChainArguments.{by_u32, by_optional_str, first, same_full}
use Rattle.wasm_core_write.proofs.ChainsOfTwoAndMoved.{chains}

pub table_spec : {M : Type 1} → statement M
table_spec 𝓤 𝓛 𝓜 𝓡 w = chains 𝓤 𝓛 𝓜 𝓡 1 R by_u32 by_u32 (by_optional_str first) _ _ _ _ _ (λ κs a α δ new p. p) (λ κs a α δ s u. same_full s u)
    (code.unfolded 𝓤 𝓛.H 𝓜 𝓡 w) (met 𝓤 𝓛 𝓜 𝓡 (code.calls-wasm_encoder_custom::symbol_table::SymbolTable::push_table 𝓡.env w))
