use Rattle.std.proofs.Common.{◌≡◌, length}
use Rattle.wasm_core_read.specs.Input.{GoesOn}
use Rattle.wasmparser_bodies.specs.BodyStates.{context_in, with_machine_in}
use Rattle.wasmparser_bodies.specs.Fronts.{Passes}
use Rattle.wasmparser_bodies.proofs.read_body.read_code.Given as goal

-- the operators so far lead on
abbrev pub invariant-operators : goal.invariant-operators
invariant-operators g l = record {
  so_far : Passes (context_in (g.B.BodyValidator.state l.fn.body)) (g.B.BodyValidator.state l.fn.body).machine (g.B.BodyValidator.state l.body).machine l.fn.reader.input.rest l.reader.input.rest;
  same : g.B.BodyValidator.state l.body ≡ with_machine_in (g.B.BodyValidator.state l.body).machine (g.B.BodyValidator.state l.fn.body);
  goes_on : GoesOn l.fn.reader.input l.reader.input;
  kept : g.B.BodyValidator.kept l.body ≡ g.B.BodyValidator.kept l.fn.body;
}

abbrev pub decreases-operators : goal.decreases-operators
decreases-operators g l = length l.reader.input.rest
