use Rattle.wasm_encoder_custom.proofs.StackLists.{frame_told}
use Rattle.wasm_encoder_custom.proofs.core_dump_stack.CoreDumpStackSection.item_len.Goals as goal

pub returns : goal.returns
returns c = rw (← c.self.view_is) (frame_told _ c.args.i c.item_len.result c.item_len.ensures)
