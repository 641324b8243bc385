use Rattle.std.proofs.Common.{◌∷◌, [], ◌++◌, ap, Err}
use Rattle.std.proofs.lemmas.Iterator.{YieldsList-from_slice}
use Rattle.std.proofs.lemmas.Iterator.Consumers.{YieldsList-at, YieldsList-from_copied}
use Rattle.std.proofs.lemmas.Result.{err_from_is_err_and}
use Rattle.wasm_smith_sections.proofs.LocalTypes.{begun, drained, long_front, raw_body_of}
use Rattle.wasm_smith_sections.proofs.bodies.raw_body.Goals as goal

pub returns-in_err-body-clause-too_long : goal.returns-in_err-body-clause-too_long
returns-in_err-body-clause-too_long c =
    let locals = c.args.locals.now in
    let all = YieldsList-from_copied (YieldsList-at c.copied.ensures.source (YieldsList-from_slice locals c.iter.ensures.rest)) in
    let p = err_from_is_err_and c.from_residual.result c.from_residual.ensures.1 in
    rw (p.1, p.2) (λ same.
    let h = c.in_err-body.ensures.too_long (ap (λ e. Err e) same) in
    let front = begun (YieldsList-at h.4 all) h.2 h.3 h.1 h.5 in
    long_front locals (h.2 ++ h.3 ∷ []) front.0 front.1 h.7)

pub returns-clause-written : goal.returns-clause-written
returns-clause-written c =
    let locals = c.args.locals.now in
    let all = YieldsList-from_copied (YieldsList-at c.copied.ensures.source (YieldsList-from_slice locals c.iter.ensures.rest)) in
    let h = c.in_ok-body.ensures.written in
    rw c.in_ok-push_raw.ensures.added (raw_body_of locals h.1 h.2 c.in_ok-body.body c.args.bytes.now (drained (YieldsList-at h.3 all) h.1 h.4) h.5 h.6 h.7)
