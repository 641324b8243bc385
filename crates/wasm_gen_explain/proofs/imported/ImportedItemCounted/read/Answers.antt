use Rattle.std.proofs.Common.{rules}
use Rattle.wasm_gen_explain.proofs.ImportLaws.{item_counts}
use Rattle.wasm_gen_explain.proofs.imported.ImportedItemCounted.read.Goals as goal

-- src/imported.rt:118:25
pub returns-in_err-functions-clause-counts : goal.returns-in_err-functions-clause-counts
returns-in_err-functions-clause-counts c =
    let none = item_counts _ _ _ _ c.in_ok-read_string.ensures.exact.0 c.in_err-functions.ensures.counts.0 in search rules

-- src/imported.rt:115:5
pub returns-clause-counts : goal.returns-clause-counts
returns-clause-counts c = (item_counts _ _ _ _ c.in_ok-read_string.ensures.exact.0 c.in_ok-functions.ensures.counts.0, search rules)
