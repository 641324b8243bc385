use Rattle.std.proofs.Common.{rules, tests}
use Rattle.std.specs.Prelude.{is_some}
use Rattle.std.proofs.lemmas.Iterator.{YieldsList-from_slice}
use Rattle.std.proofs.lemmas.Iterator.Search.{all_from_yields_List}
use Rattle.wasm_smith_witness.specs.Functions.{place_in}
use Rattle.wasm_smith_witness.proofs.functions.FunctionTypes.have_all.Goals as goal

pub returns : goal.returns
returns c = all_from_yields_List (λ index. is_some (place_in c.args.self.now index)) _ _ _ c.all.ensures.ran (YieldsList-from_slice c.args.indexes.now cc) (λ x b q k. search (rules, tests))
