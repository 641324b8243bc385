use Rattle.wasm_encoder_sections.proofs.ItemLists.{memory_told}
use Rattle.wasm_encoder_sections.proofs.memory_section.MemorySection.item_len.Goals as goal

pub returns : goal.returns
returns c = rw (← c.self.view_is) (memory_told _ c.args.i c.item_len.result c.item_len.ensures)
