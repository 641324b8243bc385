use Rattle.wasm_encoder_sections.proofs.ItemLists.{export_told}
use Rattle.wasm_encoder_sections.proofs.export_section.ExportSection.item_len.Goals as goal

pub returns : goal.returns
returns c = rw (← c.self.view_is) (export_told _ c.args.i c.item_len.result c.item_len.ensures)
