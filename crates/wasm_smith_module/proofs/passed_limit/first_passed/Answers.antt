use Rattle.std.proofs.Common.{refl, arith, slice_index_or}
use Rattle.wasm_core_types.specs.declared.limits.Limit.TheVariants as limits
use Rattle.wasm_smith_module.proofs.PassedLaws.{next_number, this_number}
use Rattle.wasm_smith_module.proofs.passed_limit.first_passed.Goals as goal
use Rattle.wasm_smith_module.specs.Measured.{measured}

pub returns-then-measure-max-clause-passed : goal.returns-then-measure-max-clause-passed
returns-then-measure-max-clause-passed c =
    let measures = c.args.measures.now in
    let i = c.loop-measure.measure-index in
    let most = c.max.ensures in
    let many = c.if-measure-max.true in
    this_number measured measures i (slice_index_or measures i (limits.Types, 0)) (limits.Types, 0) c.loop-measure-test.true refl (omega (arith, most, many))
    c.loop-measure.invariant.so_far

pub loop-measure-preserved : goal.loop-measure-preserved
loop-measure-preserved c =
    let measures = c.args.measures.now in
    let i = c.loop-measure.measure-index in
    let most = c.max.ensures in
    let few = c.if-measure-max.false in
    record {
      so_far = next_number measured measures i (slice_index_or measures i (limits.Types, 0)) (limits.Types, 0) c.loop-measure-test.true refl (omega (arith, most, few))
          c.loop-measure.invariant.so_far;
    }
