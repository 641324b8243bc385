use Rattle.std.proofs.Common.{◌≡◌, arith, length, map}
use Rattle.std.proofs.lemmas.List.{length-map}
use Rattle.wasmparser_type_relations.proofs.Fronts.{all_by_front, as_many}
use Rattle.wasmparser_type_relations.proofs.matches.all_match.Goals as goal

pub returns-then-items-others : goal.returns-then-items-others
returns-then-items-others g c =
    let types = c.args.types.now in
    let meaning = g.T.Matches.meaning in
    let f = g.T.Matches.mapped (g.L.KnownTypes.resolved types c.args.rec_group) in
    let h = g.T.Matches.mapped (g.L.KnownTypes.resolved types c.args.other_group) in
    let xs = c.args.items.now in
    let ys = c.args.others.now in (
      (λ e. absurd cc),
      (λ m.
          let many = as_many (g.T.Matches.matching (g.L.KnownTypes.sub_at types)) (map f (map meaning xs)) (map h (map meaning ys)) m in
          absurd (c.if-items-others.true (omega (arith, many, length-map (map meaning xs) f, length-map (map meaning ys) h, length-map xs meaning, length-map ys meaning)))),
    )

pub returns : goal.returns
returns g c =
    let types = c.args.types.now in
    let meaning = g.T.Matches.meaning in
    let f = g.T.Matches.mapped (g.L.KnownTypes.resolved types c.args.rec_group) in
    let h = g.T.Matches.mapped (g.L.KnownTypes.resolved types c.args.other_group) in
    let xs = c.args.items.now in
    let ys = c.args.others.now in
    let many : length (map f (map meaning xs)) ≡ length (map h (map meaning ys)) =
    omega (arith, c.if-items-others.false, length-map (map meaning xs) f, length-map (map meaning ys) h, length-map xs meaning, length-map ys meaning) in
    let law = all_by_front (g.T.Matches.matching (g.L.KnownTypes.sub_at types)) (map f (map meaning xs)) (map h (map meaning ys)) many in (
      (λ e. law.0 (c.front_matches.ensures.0 e)),
      (λ m. c.front_matches.ensures.1 (law.1 m)),
    )
