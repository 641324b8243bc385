use Rattle.std.proofs.Common.{◌∷◌, [], ◌++◌, ap, Err}
use Rattle.std.proofs.lemmas.Iterator.{YieldsList-from_slice}
use Rattle.std.proofs.lemmas.Iterator.Consumers.{YieldsList-at, YieldsList-from_copied}
use Rattle.std.proofs.lemmas.Result.{err_from_is_err_and}
use Rattle.wasm_smith_sections.proofs.LocalTypes.{begun, body_of, drained, end_code, long_front, short_code, unreachable_code}
use Rattle.wasm_smith_sections.proofs.bodies.unreachable_body.Goals as goal

pub returns-in_err-body-clause-too_long : goal.returns-in_err-body-clause-too_long
returns-in_err-body-clause-too_long c =
    let locals = c.args.locals.now in
    let all = YieldsList-from_copied (YieldsList-at c.copied.ensures.source (YieldsList-from_slice locals c.iter.ensures.rest)) in
    let p = err_from_is_err_and c.from_residual.result c.from_residual.ensures.1 in
    rw (p.1, p.2) (λ same.
    let h = c.in_err-body.ensures.too_long (ap (λ e. Err e) same) in
    let front = begun (YieldsList-at h.4 all) h.2 h.3 h.1 h.5 in
    long_front locals (h.2 ++ h.3 ∷ []) front.0 front.1 h.7)

pub returns-in_err-push-clause-too_long : goal.returns-in_err-push-clause-too_long
returns-in_err-push-clause-too_long c =
    let p = err_from_is_err_and c.from_residual-in_err-push.result c.from_residual-in_err-push.ensures.1 in
    rw (p.1, p.2) (λ same. absurd (short_code _ 0x00 unreachable_code (c.in_err-push.ensures.too_long.0 (ap (λ e. Err e) same))))

pub returns-in_err-push-2-clause-too_long : goal.returns-in_err-push-2-clause-too_long
returns-in_err-push-2-clause-too_long c =
    let p = err_from_is_err_and c.from_residual-in_err-push-2.result c.from_residual-in_err-push-2.ensures.1 in
    rw (p.1, p.2) (λ same. absurd (short_code _ 0x0b end_code (c.in_err-push-2.ensures.too_long.0 (ap (λ e. Err e) same))))

pub returns-clause-written : goal.returns-clause-written
returns-clause-written c =
    let locals = c.args.locals.now in
    let all = YieldsList-from_copied (YieldsList-at c.copied.ensures.source (YieldsList-from_slice locals c.iter.ensures.rest)) in
    let h = c.in_ok-body.ensures.written in
    rw (c.in_ok-push-2.ensures.added, c.in_ok-push.ensures.added, end_code, unreachable_code)
    (body_of locals h.1 h.2 c.in_ok-body.body (drained (YieldsList-at h.3 all) h.1 h.4) h.5 h.6 h.7)
