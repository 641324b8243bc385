use Rattle.std.proofs.Common.{map}
use Rattle.std.specs.Iterator.{IsFinite}
use Rattle.wasm_encoder_bodies.specs.CoreLocals.{pair_of}
use Rattle.wasm_encoder_bodies.specs.Locals.{AreRunsOf, AreWritable}
use Rattle.wasm_encoder_bodies.proofs.function.Function.new_with_locals_types.Given as goal

abbrev pub invariant-loop-ty : goal.invariant-loop-ty
invariant-loop-ty g l = record {
  runs : AreRunsOf l.yielded (map pair_of l.runs.items);
  writable : AreWritable (map pair_of l.runs.items);
  finite : IsFinite (g.L.IntoIter.Iterator.remaining l.ty-iterator);
}
