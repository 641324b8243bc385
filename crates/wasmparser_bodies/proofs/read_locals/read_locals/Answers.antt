use Rattle.std.proofs.Common.{refl, ◌∙◌}
use Rattle.std.proofs.lemmas.Result.{err_from_is_err_and}
use Rattle.wasm_core_read.proofs.ReadingLaws.{goes_further}
use Rattle.wasmparser_bodies.proofs.AnswerLaws.{placed_later}
use Rattle.wasmparser_bodies.specs.BodyAnswers.{HasManyTypes}
use Rattle.wasmparser_bodies.specs.Fronts.{StopsInRuns}
use Rattle.wasmparser_bodies.proofs.LocalsSteps.{all_read, broken_locals, locals_unread, runs_begin, runs_fail, runs_go_on, since, stops_begin, stops_go_on}
use Rattle.wasmparser_bodies.proofs.read_locals.read_locals.Goals as goal

pub returns-in_default-clause-read : goal.returns-in_default-clause-read
returns-in_default-clause-read g c =
    let old = g.B.BodyValidator.state c.args.body.now in
    broken_locals (HasManyTypes old.items) (StopsInRuns old.features old.items old.locals c.args.reader.now.rest) c.args.reader.now _ _ _ c.broken.ensures c.original_position-offset.ensures.place (locals_unread old _ c.in_default.ensures.exact.0)

pub loop-init : goal.loop-init
loop-init g c = record {
  so_far = runs_begin (g.B.BodyValidator.state c.args.body.now) _ _ _ c.in-Ok.ensures.exact.0 c.requires.within;
  stops = stops_begin (g.B.BodyValidator.state c.args.body.now) _ _ _ c.in-Ok.ensures.exact.0;
  same = refl;
  goes_on = c.in-Ok.ensures.exact.1;
  kept = refl;
}

pub returns-in_err-read_run-clause-read : goal.returns-in_err-read_run-clause-read
returns-in_err-read_run-clause-read g c =
    let p = err_from_is_err_and c.from_residual.result c.from_residual.ensures.1 in
    rw (p.1, p.2) (
      runs_fail (g.B.BodyValidator.state c.args.body.now) (g.B.BodyValidator.state c.loop.body) c.args.reader.now c.loop.reader _ _ _ _ _ c.loop.invariant.same c.loop-test.true c.loop.invariant.goes_on c.loop.invariant.stops
          c.in_err-read_run.ensures.read.0 c.loop.invariant.so_far,
      placed_later _ _ _ c.loop.invariant.goes_on c.in_err-read_run.ensures.read.1,
    )

pub loop-preserved : goal.loop-preserved
loop-preserved g c =
    let start = g.B.BodyValidator.state c.args.body.now in
    let old = g.B.BodyValidator.state c.loop.body in
    let new = g.B.BodyValidator.state c.read_run.new.body in
    record {
      so_far = runs_go_on old new _ _ _ _ _ c.loop-test.true c.in_ok-read_run.ensures.read.0 c.in_ok-read_run.ensures.read.1 c.loop.invariant.so_far;
      stops = stops_go_on start old new _ _ c.args.reader.now.rest c.loop.reader.rest _ c.loop-test.true c.in_ok-read_run.ensures.read.0 c.in_ok-read_run.ensures.read.1 c.loop.invariant.stops;
      same = since start old new c.loop.invariant.same c.in_ok-read_run.ensures.read.1;
      goes_on = goes_further _ _ _ c.loop.invariant.goes_on c.in_ok-read_run.ensures.read.2;
      kept = c.in_ok-read_run.ensures.kept ∙ c.loop.invariant.kept;
    }

pub returns-clause-read : goal.returns-clause-read
returns-clause-read g c = (all_read (g.B.BodyValidator.state c.loop.body) _ _ _ _ c.loop-test.false c.loop.invariant.so_far, c.loop.invariant.same, c.loop.invariant.goes_on)
