use Rattle.std.proofs.Common.{◌≡◌, arith, length, map}
use Rattle.std.proofs.lemmas.List.{length-map}
use Rattle.wasm_smith_validity.specs.Below.{seen}
use Rattle.wasm_smith_shapes.proofs.Fronts.{all_by_front, as_many}
use Rattle.wasm_smith_shapes.proofs.matching.all_match.Goals as goal

pub returns-then-items-others : goal.returns-then-items-others
returns-then-items-others g c =
    let meaning = g.T.Matches.meaning in
    let xs = c.args.items.now in
    let ys = c.args.others.now in (
      (λ e. absurd cc),
      (λ m.
          let many = as_many (g.T.Matches.matching (seen c.args.types.now)) (map meaning xs) (map meaning ys) m in
          absurd (c.if-items-others.true (omega (arith, many, length-map xs meaning, length-map ys meaning)))),
    )

pub returns : goal.returns
returns g c =
    let meaning = g.T.Matches.meaning in
    let xs = c.args.items.now in
    let ys = c.args.others.now in
    let many : length (map meaning xs) ≡ length (map meaning ys) = omega (arith, c.if-items-others.false, length-map xs meaning, length-map ys meaning) in
    let law = all_by_front (g.T.Matches.matching (seen c.args.types.now)) (map meaning xs) (map meaning ys) many in (
      (λ e. law.0 (c.front_matches.ensures.0 e)),
      (λ m. c.front_matches.ensures.1 (law.1 m)),
    )
