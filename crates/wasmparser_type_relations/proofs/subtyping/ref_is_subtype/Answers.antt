use Rattle.std.proofs.Common.{refl}
use Rattle.wasmparser_type_relations.proofs.HeapLaws.{ref_by_heap}
use Rattle.wasmparser_type_relations.proofs.subtyping.ref_is_subtype.Goals as goal

pub returns : goal.returns
returns g c =
    let allowed = c.if-not-null_is_allowed.ensures.0 refl in
    ref_by_heap _ _ _ _ _ _ (rw (c.is_nullable.ensures, c.is_nullable-2.ensures) at allowed) c.heap_type.ensures c.heap_type-2.ensures c.heap_is_subtype.ensures
