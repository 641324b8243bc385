use Rattle.wasm_gen_explain.proofs.NameLaws as names
use Rattle.wasm_gen_explain.proofs.laws.named_exactly.Goals as goal

pub returns : goal.returns
returns c = names.named_exactly
