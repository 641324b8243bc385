use Rattle.std.proofs.Common.{length, arith, ap, ◌∙◌}
use Rattle.std.proofs.lemmas.Result.{err_from_is_err_and}
use Rattle.wasm_smith_sections.proofs.WrittenFrames.{all_short, next_length, next_long, next_short, no_bytes_left, this_long}
use Rattle.wasm_smith_sections.proofs.writing.total_len.Goals as goal

pub loop-section-preserved : goal.loop-section-preserved
loop-section-preserved c =
    let sections = c.args.sections.now in
    let i = c.loop-section.section-index in
    let section = c.section-item.result in
    let within = c.loop-section-test.true in
    record {
      so_far = next_length sections i _ _ _ section within c.section-item.is (c.from-len.ensures ∙ c.in_ok-more.ensures.exact) c.loop-section.invariant.so_far;
      few = omega (arith, c.loop-section.invariant.few, c.from-len.ensures, c.in_ok-more.ensures.few);
      short = next_short sections i section within c.section-item.is c.in_ok-more.ensures.short c.loop-section.invariant.short;
      long = next_long sections i section within c.section-item.is c.loop-section.invariant.long;
    }

pub returns-in_err-more-clause-too_long : goal.returns-in_err-more-clause-too_long
returns-in_err-more-clause-too_long c =
    let p = err_from_is_err_and c.from_residual.result c.from_residual.ensures.1 in
    rw (p.1, p.2) (λ same.
    this_long c.args.sections.now c.loop-section.section-index c.section-item.result c.loop-section-test.true c.section-item.is c.loop-section.invariant.long
    (c.in_err-more.ensures.too_long same))

pub returns-clause-exact : goal.returns-clause-exact
returns-clause-exact c =
    omega (arith, c.loop-section.invariant.so_far, ap length (no_bytes_left c.args.sections.now c.loop-section.section-index c.loop-section-test.false))

pub returns-clause-short : goal.returns-clause-short
returns-clause-short c = all_short c.args.sections.now c.loop-section.section-index c.loop-section-test.false c.loop-section.invariant.short
