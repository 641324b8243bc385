use Rattle.std.proofs.Common.{arith, refl}
use Rattle.wasmparser_type_relations.proofs.Earlier.{begins, ends, goes_on, stops}
use Rattle.wasmparser_type_relations.proofs.canonical.have_earlier_supertypes.Goals as goal

pub loop-place-init : goal.loop-place-init
loop-place-init c = begins c.args.types.now c.args.first

pub returns-then-not-has_earlier_supertype : goal.returns-then-not-has_earlier_supertype
returns-then-not-has_earlier_supertype c = (
  (λ h. absurd cc),
  (λ h. absurd (stops c.args.types.now c.args.first c.loop-place.place _ c.loop-place.invariant c.loop-place-test.true c.index-types-place.is
      (λ has. let no = c.if-not-has_earlier_supertype.ensures.1 has in cc) h)),
)

pub loop-place-preserved : goal.loop-place-preserved
loop-place-preserved c =
    goes_on c.args.types.now c.args.first c.loop-place.place _ c.loop-place.invariant c.loop-place-test.true c.index-types-place.is (c.if-not-has_earlier_supertype.ensures.0 refl)

pub returns : goal.returns
returns c = ((λ h. ends c.args.types.now c.args.first c.loop-place.place c.loop-place.invariant (omega (arith, c.loop-place-test.false))), (λ h. refl))
