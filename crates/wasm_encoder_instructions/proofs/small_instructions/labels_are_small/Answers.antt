use Rattle.wasm_encoder_instructions.proofs.TableRows.{labels_fit}
use Rattle.wasm_encoder_instructions.proofs.small_instructions.labels_are_small.Goals as goal

pub returns : goal.returns
returns c = labels_fit c.args.labels.now c.type_inv.labels
