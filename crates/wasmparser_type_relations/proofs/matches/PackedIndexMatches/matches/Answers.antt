use Rattle.std.proofs.Common.{ap, ◌∙◌}
use Rattle.wasmparser_type_relations.proofs.HeapLaws.{concrete_by_index}
use Rattle.wasmparser_type_relations.proofs.matches.PackedIndexMatches.matches.Goals as goal

pub returns : goal.returns
returns g c =
    let types = c.args.types.now in
    concrete_by_index _ _ _ _ _ _
    (c.resolve-a.ensures ∙ ap (g.L.KnownTypes.resolved types c.args.rec_group) c.unpack.ensures)
    (c.resolve-b.ensures ∙ ap (g.L.KnownTypes.resolved types c.args.other_group) c.unpack-2.ensures)
    c.index_is_subtype.ensures
