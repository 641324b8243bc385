use Rattle.std.proofs.Common.{◌≤◌, ◌-◌, length, take}
use Rattle.std.specs.Io.KnownBytes.{Appends}
use Rattle.wasm_gen_program.specs.Device.{WritesOn}
use Rattle.wasm_gen_program.proofs.transfer.write_whole.Given as goal

-- a front of the bytes is written, and no write has failed
abbrev pub invariant-loop-written : goal.invariant-loop-written
invariant-loop-written g l = record {
  within : l.written ≤ length l.bytes;
  appended : Appends (g.W.Sink.seen l.initial.writer).contents (g.W.Sink.seen l.writer).contents (take l.written l.bytes);
  counted : WritesOn (g.W.Sink.seen l.initial.writer).faults (g.W.Sink.seen l.writer).faults;
}

abbrev pub decreases-loop-written : goal.decreases-loop-written
decreases-loop-written g l = length l.bytes - l.written
