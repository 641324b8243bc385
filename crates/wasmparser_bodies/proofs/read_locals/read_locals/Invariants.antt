use Rattle.std.proofs.Common.{◌≡◌, ◌-◌}
use Rattle.wasm_core_read.specs.Input.{GoesOn}
use Rattle.wasmparser_bodies.specs.BodyStates.{with_locals_in}
use Rattle.wasmparser_bodies.specs.LocalsReading.{locals_outcome, runs_outcome}
use Rattle.wasmparser_bodies.proofs.LocalsSteps.{StopsSince}
use Rattle.wasmparser_bodies.proofs.read_locals.read_locals.Given as goal

-- the outcome of the runs that are left is that of all runs, and where memory runs out among them, all were right so far
abbrev pub invariant-loop : goal.invariant-loop
invariant-loop g l = record {
  so_far : runs_outcome (g.B.BodyValidator.state l.body).features (g.B.BodyValidator.state l.body).items (l.runs - l.counter) (g.B.BodyValidator.state l.body).locals l.reader.rest
      ≡ locals_outcome (g.B.BodyValidator.state l.fn.body).features (g.B.BodyValidator.state l.fn.body).items (g.B.BodyValidator.state l.fn.body).locals l.fn.reader.rest;
  stops : StopsSince (g.B.BodyValidator.state l.fn.body) l.fn.reader.rest (g.B.BodyValidator.state l.body) (l.runs - l.counter) l.reader.rest;
  same : g.B.BodyValidator.state l.body ≡ with_locals_in (g.B.BodyValidator.state l.body).locals (g.B.BodyValidator.state l.fn.body);
  goes_on : GoesOn l.fn.reader l.reader;
  kept : g.B.BodyValidator.kept l.body ≡ g.B.BodyValidator.kept l.fn.body;
}
