use Rattle.wasm_bodies_laws.proofs.MappedItems.{items_unchanged}
use Rattle.wasm_bodies_laws.proofs.reference_laws.mapped_items.Goals as goal

pub returns : goal.returns
returns c start = items_unchanged
