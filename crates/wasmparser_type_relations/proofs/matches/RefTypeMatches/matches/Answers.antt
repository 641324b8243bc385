use Rattle.std.proofs.Common.{ap, refl, ◌∙◌}
use Rattle.wasm_spec.specs.TypeReferences.{heap_map}
use Rattle.wasmparser_type_relations.proofs.HeapLaws.{ref_by_heap}
use Rattle.wasmparser_type_relations.proofs.matches.RefTypeMatches.matches.Goals as goal

pub returns : goal.returns
returns g c =
    let types = c.args.types.now in
    let allowed = c.if-not-null_is_allowed.ensures.0 refl in
    ref_by_heap _ _ _ _ _ _ (rw (c.is_nullable.ensures, c.is_nullable-2.ensures) at allowed)
    (c.resolved-a.ensures ∙ ap (heap_map (g.L.KnownTypes.resolved types c.args.rec_group)) c.heap_type.ensures)
    (c.resolved-b.ensures ∙ ap (heap_map (g.L.KnownTypes.resolved types c.args.other_group)) c.heap_type-2.ensures)
    c.heap_is_subtype.ensures
