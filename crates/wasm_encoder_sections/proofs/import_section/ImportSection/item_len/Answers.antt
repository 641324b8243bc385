use Rattle.wasm_encoder_sections.proofs.ImportLists.{entry_told}
use Rattle.wasm_encoder_sections.proofs.import_section.ImportSection.item_len.Goals as goal

pub returns : goal.returns
returns c = rw (← c.self.view_is) (entry_told _ c.args.i c.item_len.result c.item_len.ensures)
