use Rattle.wasm_core_write.specs.CoreRecGroups.{rec_group, core_group_encoding}
use Rattle.wasm_spec.specs.TypeEncodings.{rec_group_encoding}
use Rattle.wasm_core_write.proofs.Items.{viewed}
use Rattle.wasm_core_write.proofs.type_section.TypeSection.item_len.Goals as goal

pub returns : goal.returns
unfolding core_group_encoding
returns c = rw (← c.self.view_is, ← c.deref.ensures.value) (viewed rec_group_encoding rec_group c.deref.result.now c.args.i c.item_len.result c.item_len.ensures)
