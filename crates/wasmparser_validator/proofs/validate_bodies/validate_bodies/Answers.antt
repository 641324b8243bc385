use Rattle.std.proofs.Common.{Ok, Err, arith}
use Rattle.std.proofs.lemmas.Result.{err_from_is_err_and}
use Rattle.wasmparser_module_state.specs.State.{context}
use Rattle.wasmparser_validator.proofs.BodiesLaws.{one_more, validated_at}
use Rattle.wasmparser_validator.proofs.validate_bodies.validate_bodies.Goals as goal

pub returns-in_err-allocations : goal.returns-in_err-allocations
returns-in_err-allocations c =
    let p = err_from_is_err_and c.from_residual.result c.from_residual.ensures.1 in
    rw (p.1, p.2) (
      c.loop-i.i,
      omega (arith, c.loop-i-test.true, c.requires.paired),
      validated_at _ _ (context c.args.state.now) c.args.bodies.now (Err c.in_err-allocations.field-0.0) c.loop-i.i c.index-bodies-i.result c.loop-i-test.true c.index-bodies-i.is c.in_err-allocations.ensures.refused,
    )

pub loop-i-preserved : goal.loop-i-preserved
loop-i-preserved c =
    one_more _ c.loop-i.i c.loop-i.invariant
    (validated_at _ _ (context c.args.state.now) c.args.bodies.now (Ok tt) c.loop-i.i c.index-bodies-i.result c.loop-i-test.true c.index-bodies-i.is c.in_ok-allocations.ensures.fine)
