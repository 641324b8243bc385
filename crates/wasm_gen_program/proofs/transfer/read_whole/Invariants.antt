use Rattle.std.proofs.Common.{◌≤◌, length}
use Rattle.std.specs.Io.KnownBytes.{Consumes}
use Rattle.wasm_gen_program.specs.Device.{ReadsOn}
use Rattle.wasm_gen_program.proofs.transfer.read_whole.Given as goal

-- what was read is kept, and is within the bound, and no read has failed
abbrev pub invariant-loop-turn : goal.invariant-loop-turn
invariant-loop-turn g l = record {
  consumed : Consumes (g.R.Source.seen l.initial.reader).remaining (g.R.Source.seen l.reader).remaining l.bytes.items;
  within : length l.bytes.items ≤ l.most;
  counted : ReadsOn (g.R.Source.seen l.initial.reader).reads (g.R.Source.seen l.reader).reads l._turn;
}
