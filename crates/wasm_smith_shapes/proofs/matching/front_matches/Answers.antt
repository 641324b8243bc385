use Rattle.std.proofs.Common.{arith, refl}
use Rattle.wasm_smith_shapes.proofs.Fronts.{begins, ends, goes_on, stops, too_short}
use Rattle.wasm_smith_shapes.proofs.matching.front_matches.Goals as goal

pub returns-then-items-others : goal.returns-then-items-others
returns-then-items-others g c =
    ((λ h. absurd cc), (λ m. absurd (too_short _ _ c.args.items.now c.args.others.now (omega (arith, c.if-items-others.true)) m)))

pub loop-index-init : goal.loop-index-init
loop-index-init g c = begins _ _ _ _

pub returns-then-not-matches : goal.returns-then-not-matches
returns-then-not-matches g c = (
  (λ h. absurd cc),
  (λ m. absurd (stops _ _ _ _ c.loop-index.index _ _ c.loop-index.invariant c.loop-index-test.true (omega (arith, c.if-items-others.false)) c.index-items-index.is c.index-others-index.is
      (λ holds. let no = c.if-not-matches.ensures.1 holds in cc) m)),
)

pub loop-index-preserved : goal.loop-index-preserved
loop-index-preserved g c =
    goes_on _ _ _ _ c.loop-index.index _ _ c.loop-index.invariant c.loop-index-test.true (omega (arith, c.if-items-others.false)) c.index-items-index.is c.index-others-index.is (c.if-not-matches.ensures.0 refl)

pub returns : goal.returns
returns g c = ((λ h. ends _ _ _ _ c.loop-index.index c.loop-index.invariant (omega (arith, c.loop-index-test.false))), (λ m. refl))
