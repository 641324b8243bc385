use Rattle.std.proofs.lemmas.Result.{err_from_is_err_and}
use Rattle.wasmparser_types.proofs.Remapping.{one_more, all_replaced, meanings_mapped, refs_hold, all_next, any_next}
use Rattle.wasmparser_types.proofs.remap.remap_all.Goals as goal

pub remap_refs-requires : goal.remap_refs-requires
remap_refs-requires g c = all_next _ _ _ _ _ _ _ c.item-item.result c.loop-item.invariant c.loop-item-test.true c.requires

pub returns-in_err-remap_refs-clause-refused : goal.returns-in_err-remap_refs-clause-refused
returns-in_err-remap_refs-clause-refused g c =
    let p = err_from_is_err_and c.from_residual.result c.from_residual.ensures.1 in
    rw (p.1, p.2) (any_next _ _ _ _ _ _ _ c.item-item.result c.loop-item.invariant c.loop-item-test.true c.in_err-remap_refs.ensures.refused)

pub loop-item-preserved : goal.loop-item-preserved
loop-item-preserved g c =
    one_more _ _ _ _ c.item-item.result _ c.loop-item.invariant c.loop-item-test.true (c.in_ok-remap_refs.ensures.remapped, c.in_ok-remap_refs.ensures.accepted)

pub returns-clause-remapped : goal.returns-clause-remapped
returns-clause-remapped g c = meanings_mapped _ _ _ _ _ (all_replaced _ _ _ _ c.loop-item.invariant c.loop-item-test.false)

pub returns-clause-accepted : goal.returns-clause-accepted
returns-clause-accepted g c = refs_hold _ _ _ _ _ _ (all_replaced _ _ _ _ c.loop-item.invariant c.loop-item-test.false)
