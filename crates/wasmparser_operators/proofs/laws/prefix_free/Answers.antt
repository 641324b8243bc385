use Rattle.wasm_core_read.proofs.Forms.{prefix_free}
use Rattle.wasmparser_operators.proofs.OperatorForms.{reads_operator}
use Rattle.wasmparser_operators.proofs.laws.prefix_free.Goals as goal

pub returns : goal.returns
returns c = λ features. prefix_free _ _ (reads_operator features)
