use Rattle.std.proofs.Common.{◌∙◌}
use Rattle.std.proofs.lemmas.Result.{err_from_is_err_and}
use Rattle.wasm_core_read.proofs.ReadingLaws.{goes_further}
use Rattle.wasmparser_bodies.specs.BodyStates.{context_in}
use Rattle.wasmparser_bodies.proofs.AnswerLaws.{fine_at_end}
use Rattle.wasmparser_bodies.proofs.BodySteps.{after_step, passes_later, past_end, some_left, step_refused}
use Rattle.wasmparser_bodies.proofs.Runs.{passes_outcome}
use Rattle.wasmparser_bodies.proofs.read_body.read_code.Goals as goal

pub operators-preserved : goal.operators-preserved
operators-preserved g c =
    let start = g.B.BodyValidator.state c.args.body.now in
    let old = g.B.BodyValidator.state c.operators.body in
    let new = g.B.BodyValidator.state c.read_on.new.body in
    let step = c.in_ok-read_on.ensures.validated in
    record {
      so_far = passes_later start old new c.args.reader.now.input.rest c.operators.reader.input.rest c.read_on.new.reader.input.rest c.operators.invariant.same c.operators.invariant.so_far step.0;
      same = after_step start old new c.operators.invariant.same step.1;
      goes_on = goes_further c.args.reader.now.input c.operators.reader.input c.read_on.new.reader.input c.operators.invariant.goes_on step.2;
      kept = c.in_ok-read_on.ensures.kept ∙ c.operators.invariant.kept;
    }

pub returns-in_err-read_on-clause-answers : goal.returns-in_err-read_on-clause-answers
returns-in_err-read_on-clause-answers g c =
    let p = err_from_is_err_and c.from_residual.result c.from_residual.ensures.1 in
    rw (p.1, p.2) (
    step_refused (g.B.BodyValidator.state c.args.body.now) (g.B.BodyValidator.state c.operators.body) c.args.reader.now.input c.operators.reader.input _ _ c.operators.invariant.same c.operators.invariant.goes_on
    c.operators.invariant.so_far c.in_err-read_on.ensures.validated
    )

pub returns-then-not-eof-clause-answers : goal.returns-then-not-eof-clause-answers
returns-then-not-eof-clause-answers g c =
    past_end (g.B.BodyValidator.state c.args.body.now) (g.B.BodyValidator.state c.operators.body).machine c.args.reader.now.input c.operators.reader.input _ _ (c.is_closed.ensures.0 c.operators-test.false)
    (some_left _ _ c.eof.ensures.1 c.if-not-eof.true) c.operators.invariant.goes_on c.broken.ensures c.original_position.ensures c.operators.invariant.so_far

pub returns-clause-answers : goal.returns-clause-answers
returns-clause-answers g c =
    let start = g.B.BodyValidator.state c.args.body.now in
    let last = (g.B.BodyValidator.state c.operators.body).machine in
    passes_outcome (context_in start) start.machine last c.args.reader.now.input.rest c.operators.reader.input.rest c.operators.invariant.so_far
    ∙ fine_at_end (context_in start) last c.operators.reader.input.rest (c.is_closed.ensures.0 c.operators-test.false) (c.eof.ensures.0 c.if-not-eof.false)
