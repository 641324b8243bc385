use Rattle.wasm_encoder_custom.proofs.DumpLists.{instance_told}
use Rattle.wasm_encoder_custom.proofs.core_dump_instances.CoreDumpInstancesSection.item_len.Goals as goal

pub returns : goal.returns
returns c = rw (← c.self.view_is) (instance_told _ c.args.i c.item_len.result c.item_len.ensures)
