use Rattle.std.proofs.Common.{◌≡◌, ◌≤◌, false, length, map, take}
use Rattle.std.specs.Prelude.{vec_capacity}
use Rattle.wasm_gen_program.specs.CheckInputs.{Validates, starting}
use Rattle.wasm_gen_program.specs.Device.{WritesOn}
use Rattle.wasm_gen_program.proofs.check_inputs.check_all.Given as goal

-- each input that was met has come to its outcome, the session validates the next one, and no write has failed
abbrev pub invariant-loop-place : goal.invariant-loop-place
invariant-loop-place g l = record {
  ready : l.session.has_failed ≡ false;
  each : length l.outcomes.items ≡ l.place;
  room : length l.names ≤ vec_capacity l.outcomes;
  validated : Validates l.explain (starting (g.W.Sink.seen l.initial.writer) (g.I.Inputs.events l.initial.inputs)) (take l.place (map (λ name. name.now) l.names)) l.outcomes.items
      (record { session = l.session; sink = g.W.Sink.seen l.writer; events = g.I.Inputs.events l.inputs });
  wrote : WritesOn (g.W.Sink.seen l.initial.writer).faults (g.W.Sink.seen l.writer).faults;
}
