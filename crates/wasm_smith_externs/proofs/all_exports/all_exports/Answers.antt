use Rattle.std.proofs.Common.{arith}
use Rattle.wasm_smith_externs.proofs.AllExportLaws.{all_exported, counts_within, exported_size}
use Rattle.wasm_smith_externs.proofs.all_exports.all_exports.Goals as goal

pub export_kinds-requires-clause-few : goal.export_kinds-requires-clause-few
export_kinds-requires-clause-few c = λ kind.
    let size = c.size_of_everything.ensures in
    let sum = c.saturating_add-size.ensures in
    let fits = c.if-size-config.false in
    omega (arith, counts_within c.args.spaces.now kind, size, sum, fits)

pub returns-clause-all : goal.returns-clause-all
returns-clause-all c = all_exported c.args.spaces.now c.export_kinds.new.spaces c.args.unstructured.now c.export_kinds.new.unstructured c.requires.first c.in_ok-export_kinds.ensures.exported

pub returns-clause-size : goal.returns-clause-size
returns-clause-size c =
    let size = c.size_of_everything.ensures in
    let sum = c.saturating_add-size.ensures in
    let fits = c.if-size-config.false in
    let all = exported_size c.args.spaces.now c.export_kinds.new.spaces c.args.unstructured.now c.export_kinds.new.unstructured _ c.requires.first c.in_ok-export_kinds.ensures.exported in
    omega (arith, all, size, sum, fits)
