use Rattle.std.proofs.lemmas.Result.{err_from_is_err_and}
use Rattle.wasm_spec.proofs.MappedBack.{all_left, all_right}
use Rattle.wasmparser_types.proofs.Remapping.{any_left, both_accepted, second_refused}
use Rattle.wasmparser_types.proofs.sub_type.SubType.remap_indices.Goals as goal

pub remap_all_indexes-requires : goal.remap_all_indexes-requires
remap_all_indexes-requires g c = rw c.deref_mut.ensures.value (all_left _ _ _ c.requires)

pub remap_refs-requires : goal.remap_refs-requires
remap_refs-requires g c = all_right _ _ _ c.requires

pub returns-clause-accepted : goal.returns-clause-accepted
returns-clause-accepted g c =
    both_accepted _ _ _ _ (rw c.deref_mut.ensures.value at c.in_ok-remap_all_indexes.ensures.accepted) c.remap_refs.ensures.accepted

pub returns-clause-refused : goal.returns-clause-refused
returns-clause-refused g c = second_refused _ _ _ _ c.remap_refs.ensures.refused

pub returns-in_err-remap_all_indexes-clause-refused : goal.returns-in_err-remap_all_indexes-clause-refused
returns-in_err-remap_all_indexes-clause-refused g c =
    let p = err_from_is_err_and c.from_residual.result c.from_residual.ensures.1 in
    rw (p.1, p.2) (any_left _ _ _ (rw c.deref_mut.ensures.value at c.in_err-remap_all_indexes.ensures.refused))
