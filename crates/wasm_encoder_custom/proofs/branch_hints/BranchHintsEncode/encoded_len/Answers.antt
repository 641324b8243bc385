use Rattle.wasm_encoder_custom.proofs.HintLists.{functions}
use Rattle.wasm_encoder_custom.proofs.branch_hints.BranchHintsEncode.encoded_len.Goals as goal

pub returns-clause-exact : goal.returns-clause-exact
returns-clause-exact c = rw (← c.self.view_is, ← functions c.self.inside.functions) c.custom_len.ensures.exact
