use Rattle.std.proofs.Common.{arith, map, refl}
use Rattle.std.proofs.lemmas.List.{length-map}
use Rattle.wasm_core_types.specs.SubTypes.{sub_type}
use Rattle.wasm_smith_shapes.specs.Groups.{MatchesAbove}
use Rattle.wasm_smith_shapes.proofs.RangeLaws.{all_done, begins, goes_on, got}
use Rattle.wasm_smith_shapes.proofs.groups.match_above.Goals as goal

pub loop-index-init : goal.loop-index-init
loop-index-init c = begins _ _ _

pub returns-then-not-matches_above : goal.returns-then-not-matches_above
returns-then-not-matches_above c =
    let is = got c.args.types.now c.loop-index.index c.index-types-index.result c.loop-index-test.true c.index-types-index.is in
    (λ no. absurd cc, λ all. let yes = c.if-not-matches_above.ensures.1 (all c.loop-index.index _ (omega arith) is) in absurd cc)

pub loop-index-preserved : goal.loop-index-preserved
loop-index-preserved c =
    let is = got c.args.types.now c.loop-index.index c.index-types-index.result c.loop-index-test.true c.index-types-index.is in
    goes_on (MatchesAbove (map sub_type c.args.types.now)) (map sub_type c.args.types.now) c.args.start c.loop-index.index _ c.loop-index.invariant is (c.if-not-matches_above.ensures.0 refl)

pub returns : goal.returns
returns c = (λ yes. all_done _ _ c.args.start c.loop-index.index (omega (arith, c.loop-index-test.false, length-map c.args.types.now sub_type)) c.loop-index.invariant, λ all. refl)
