use Rattle.wasm_smith_validity.proofs.MadeSections.{rules_kept}
use Rattle.wasm_smith_validity.proofs.laws.valid_by_index.Goals as goal

pub returns : goal.returns
returns c = rules_kept
