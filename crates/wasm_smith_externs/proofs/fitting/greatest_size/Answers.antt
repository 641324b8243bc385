use Rattle.std.proofs.Common.{◌+◌, drop, get_or, arith}
use Rattle.std.proofs.lemmas.List.{drop_more}
use Rattle.wasm_smith_externs.specs.declared.fitting.SizedItem.{SizedItem}
use Rattle.wasm_smith_externs.proofs.FittingLaws.{at_most_more}
use Rattle.wasm_smith_externs.proofs.fitting.greatest_size.Goals as goal

pub loop-item-preserved : goal.loop-item-preserved
loop-item-preserved c =
    let items = c.args.items.now in
    let i = c.loop-item.item-index in
    let item : SizedItem = get_or items i (record { index = 0; size = 0 }) in
    at_most_more items (drop i items) c.loop-item.greatest c.max-greatest.result (omega (arith, c.max-greatest.ensures)) c.loop-item.invariant item
    (drop (i + 1) items)
    (drop_more items i (record { index = 0; size = 0 }) c.loop-item-test.true) (omega (arith, c.max-greatest.ensures))
