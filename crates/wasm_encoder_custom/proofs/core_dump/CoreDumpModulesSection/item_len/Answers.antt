use Rattle.wasm_encoder_custom.proofs.DumpLists.{name_told}
use Rattle.wasm_encoder_custom.proofs.core_dump.CoreDumpModulesSection.item_len.Goals as goal

pub returns : goal.returns
returns c = rw (← c.self.view_is) (name_told _ c.args.i c.item_len.result c.item_len.ensures)
