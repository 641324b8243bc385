use Rattle.std.proofs.Common.{inr}
use Rattle.std.proofs.lemmas.Result.{err_from_is_err_and}
use Rattle.wasm_smith_sections.proofs.LocalTypes.{all_bodies, some_at}
use Rattle.wasm_smith_sections.proofs.bodies.code_section.Goals as goal

pub returns-in_err-body-clause-too_long : goal.returns-in_err-body-clause-too_long
returns-in_err-body-clause-too_long c =
    let p = err_from_is_err_and c.from_residual.result c.from_residual.ensures.1 in
    rw (p.1, p.2) (λ same. inr (some_at c.args.bodies.now c.loop-own.own-index c.own-item.result c.loop-own-test.true c.own-item.is (c.in_err-body.ensures.too_long same)))

pub returns-clause-kept : goal.returns-clause-kept
returns-clause-kept c = all_bodies c.args.bodies.now c.loop-own.own-index c.loop-own.section c.loop-own-test.false c.loop-own.invariant.kept
