use Rattle.wasm_smith_sections.proofs.SmallItems.{vector_fits}
use Rattle.wasm_smith_sections.proofs.small_items.ConstantSmall.is_small.Goals as goal

pub returns-in-V128 : goal.returns-in-V128
returns-in-V128 c = rw c.in-V128.is (vector_fits c.in-V128.field-0, tt)
