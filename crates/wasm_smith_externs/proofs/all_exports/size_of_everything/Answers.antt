use Rattle.std.proofs.Common.{arith}
use Rattle.wasm_smith_externs.proofs.AllExportLaws.{whole_size}
use Rattle.wasm_smith_externs.proofs.all_exports.size_of_everything.Goals as goal

pub returns : goal.returns
returns c =
    whole_size c.args.spaces.now c.size_of_kind-functions.result c.size_of_kind-tags.result c.saturating_add.result c.saturating_add-2.result c.saturating_add-3.result c.saturating_add-4.result
    c.size_of_kind-functions.ensures c.size_of_kind-tags.ensures
    (let count = c.count_of.ensures in let sum = c.saturating_add.ensures in omega (arith, count, sum))
    (let count = c.count_of-2.ensures in let sum = c.saturating_add-2.ensures in omega (arith, count, sum))
    (let count = c.count_of-3.ensures in let sum = c.saturating_add-3.ensures in omega (arith, count, sum))
    c.saturating_add-4.ensures
