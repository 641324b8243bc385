use Rattle.wasm_encoder_sections.proofs.ItemLists.{tag_told}
use Rattle.wasm_encoder_sections.proofs.tag_section.TagSection.item_len.Goals as goal

pub returns : goal.returns
returns c = rw (← c.self.view_is) (tag_told _ c.args.i c.item_len.result c.item_len.ensures)
