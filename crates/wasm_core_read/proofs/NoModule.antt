-- Bytes that the reading functions refuse are no module.
use Rattle.std.proofs.Common.{◌≡◌, ℕ, Bool, List, None, sym, ◌∙◌}
use Rattle.wasm_core_read.specs.Laws.{IsNoModule}
use Rattle.wasm_core_read.specs.ModuleReading.{module_of}
use Rattle.wasm_core_read.proofs.ModuleForms.{fills_module}

pub unread : (compact : Bool) (bytes : List ℕ) → module_of compact bytes ≡ None → IsNoModule compact bytes
unread compact bytes e sections m = let some = sym ((fills_module compact).again bytes sections m) ∙ e in absurd cc
