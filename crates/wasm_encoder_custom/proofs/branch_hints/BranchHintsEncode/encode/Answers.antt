use Rattle.wasm_encoder_custom.proofs.HintLists.{functions}
use Rattle.wasm_encoder_custom.proofs.branch_hints.BranchHintsEncode.encode.Goals as goal

pub returns : goal.returns
returns c = rw (← c.self.view_is, ← functions c.self.inside.functions) c.encode_custom.ensures
