use Rattle.wasm_smith_sections.proofs.SmallItems.{indexes_fit}
use Rattle.wasm_smith_sections.proofs.small.indexes_are_small.Goals as goal

pub returns : goal.returns
returns c = indexes_fit c.args.indexes.now c.type_inv.indexes
