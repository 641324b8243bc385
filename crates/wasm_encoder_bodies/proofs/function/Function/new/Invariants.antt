use Rattle.std.proofs.Common.{◌≡◌, ◌<◌, ◌^◌, ◌+◌, length, map}
use Rattle.std.specs.Iterator.{IsFinite, size}
use Rattle.wasm_encoder_bodies.specs.CoreLocals.{pair_of}
use Rattle.wasm_encoder_bodies.proofs.function.Function.new.Given as goal

abbrev pub invariant-loop-count : goal.invariant-loop-count
invariant-loop-count g l = record {
  kept : map pair_of l.runs.items ≡ l.yielded;
  finite : IsFinite (g.L.IntoIter.Iterator.remaining l.count-iterator);
  within : length l.yielded + size (g.L.IntoIter.Iterator.remaining l.count-iterator) < 2 ^ 32;
}
