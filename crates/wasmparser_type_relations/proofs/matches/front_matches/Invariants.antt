use Rattle.wasmparser_type_relations.proofs.Fronts.{IsAsFar}
use Rattle.wasmparser_type_relations.proofs.matches.front_matches.Given as goal

abbrev pub invariant-loop-index : goal.invariant-loop-index
invariant-loop-index g l =
    IsAsFar (g.T.Matches.matching (g.L.KnownTypes.sub_at l.types)) g.T.Matches.meaning
    (g.T.Matches.mapped (g.L.KnownTypes.resolved l.types l.rec_group)) (g.T.Matches.mapped (g.L.KnownTypes.resolved l.types l.other_group)) l.items l.others l.index
