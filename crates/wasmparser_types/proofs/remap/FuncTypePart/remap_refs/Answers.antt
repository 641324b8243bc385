use Rattle.std.proofs.lemmas.Result.{err_from_is_err_and}
use Rattle.wasm_spec.proofs.MappedBack.{all_left, all_right}
use Rattle.wasmparser_types.proofs.Remapping.{any_left, both_accepted, second_refused}
use Rattle.wasmparser_types.proofs.remap.FuncTypePart.remap_refs.Goals as goal

pub remap_all-requires : goal.remap_all-requires
remap_all-requires g c = rw c.deref_mut.ensures.value (all_left _ _ _ c.requires)

pub remap_all-requires-2 : goal.remap_all-requires-2
remap_all-requires-2 g c = rw c.deref_mut-2.ensures.value (all_right _ _ _ c.requires)

pub returns-clause-accepted : goal.returns-clause-accepted
returns-clause-accepted g c =
    both_accepted _ _ _ _ (rw c.deref_mut.ensures.value at c.in_ok-remap_all.ensures.accepted) (rw c.deref_mut-2.ensures.value at c.remap_all-2.ensures.accepted)

pub returns-clause-refused : goal.returns-clause-refused
returns-clause-refused g c = second_refused _ _ _ _ (rw c.deref_mut-2.ensures.value at c.remap_all-2.ensures.refused)

pub returns-in_err-remap_all-clause-refused : goal.returns-in_err-remap_all-clause-refused
returns-in_err-remap_all-clause-refused g c =
    let p = err_from_is_err_and c.from_residual.result c.from_residual.ensures.1 in
    rw (p.1, p.2) (any_left _ _ _ (rw c.deref_mut.ensures.value at c.in_err-remap_all.ensures.refused))
