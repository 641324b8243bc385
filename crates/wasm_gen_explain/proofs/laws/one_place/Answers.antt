use Rattle.wasm_gen_explain.proofs.UniquePlaces as unique
use Rattle.wasm_gen_explain.proofs.laws.one_place.Goals as goal

pub returns : goal.returns
returns c = unique.one_place
