use Rattle.wasm_encoder_custom.proofs.HintLists.{function_told}
use Rattle.wasm_encoder_custom.proofs.branch_hints.BranchHints.item_len.Goals as goal

pub returns : goal.returns
returns c = rw (← c.self.view_is) (function_told _ c.args.i c.item_len.result c.item_len.ensures)
