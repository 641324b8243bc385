use Rattle.std.proofs.Common.{◌≡◌}
use Rattle.std.specs.Iterator.{IsFinite}
use Rattle.std.specs.List.{flat_map}
use Rattle.wasm_encoder_bodies.specs.Expressions.{AreShort}
use Rattle.wasm_encoder_bodies.proofs.encodings.encodings_of.Given as goal

abbrev pub invariant-loop-item : goal.invariant-loop-item
invariant-loop-item g l = record {
  written : l.bytes.items ≡ flat_map g.T.Encoding.encoding l.yielded;
  short : AreShort g.T.Encoding.encoding l.yielded;
  finite : IsFinite (g.I.Iterator.remaining l.item-iterator);
}
