use Rattle.std.proofs.Common.{rules}
use Rattle.wasm_gen_explain.proofs.ImportLaws.{items_entry, names_entry, single_entry}
use Rattle.wasm_gen_explain.proofs.imported.EntryCounted.read.Goals as goal

-- src/imported.rt:177:13
pub returns-in_err-functions-clause-counts : goal.returns-in_err-functions-clause-counts
returns-in_err-functions-clause-counts c =
    let none = items_entry _ _ _ _ c.in_ok-read_string.ensures.exact.0 c.in_ok-read_string.ensures.exact.1 (search rules) c.in_err-functions.ensures.counts.0 in search rules

-- src/imported.rt:179:13
pub returns-in_err-functions-2-clause-counts : goal.returns-in_err-functions-2-clause-counts
returns-in_err-functions-2-clause-counts c =
    let none = names_entry _ _ _ _ c.in_ok-read_string.ensures.exact.0 c.in_ok-read_string.ensures.exact.1 (search rules) c.in_err-functions-2.ensures.counts.0 in search rules

-- src/imported.rt:181:13
pub returns-in_err-functions-3-clause-counts : goal.returns-in_err-functions-3-clause-counts
returns-in_err-functions-3-clause-counts c =
    let none = single_entry _ _ _ _ c.in_ok-read_string.ensures.exact.0 c.in_ok-read_string.ensures.exact.1 (search rules) (search rules) c.in_err-functions-3.ensures.counts.0 in search rules

-- src/imported.rt:172:5
pub returns-in_ok-functions-clause-counts : goal.returns-in_ok-functions-clause-counts
returns-in_ok-functions-clause-counts c = (items_entry _ _ _ _ c.in_ok-read_string.ensures.exact.0 c.in_ok-read_string.ensures.exact.1 (search rules) c.in_ok-functions.ensures.counts.0, search rules)

-- src/imported.rt:172:5
pub returns-in_ok-functions-2-clause-counts : goal.returns-in_ok-functions-2-clause-counts
returns-in_ok-functions-2-clause-counts c = (names_entry _ _ _ _ c.in_ok-read_string.ensures.exact.0 c.in_ok-read_string.ensures.exact.1 (search rules) c.in_ok-functions-2.ensures.counts.0, search rules)

-- src/imported.rt:172:5
pub returns-in_ok-functions-3-clause-counts : goal.returns-in_ok-functions-3-clause-counts
returns-in_ok-functions-3-clause-counts c =
    (single_entry _ _ _ _ c.in_ok-read_string.ensures.exact.0 c.in_ok-read_string.ensures.exact.1 (search rules) (search rules) c.in_ok-functions-3.ensures.counts.0, search rules)
