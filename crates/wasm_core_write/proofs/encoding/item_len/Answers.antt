use Rattle.wasm_core_write.proofs.Items.{told}
use Rattle.wasm_core_write.proofs.encoding.item_len.Goals as goal

pub returns : goal.returns
returns g c = told g.T.Encoding.encoding c.args.items.now c.args.i c.in_ok-item.item.now c.size.result c.unwrap_or.result c.in_ok-item.ensures.lookup.3.0 c.in_ok-item.ensures.lookup.1 c.size.ensures c.unwrap_or.ensures
