use Rattle.wasm_smith_sections.proofs.SmallItems.{bytes_fit}
use Rattle.wasm_smith_sections.proofs.small.bytes_are_small.Goals as goal

pub returns : goal.returns
returns c = bytes_fit c.args.bytes.now c.type_inv.bytes
