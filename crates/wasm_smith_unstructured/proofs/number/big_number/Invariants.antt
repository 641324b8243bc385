use Rattle.std.proofs.Common.{◌≡◌, ◌^◌, ◌<◌, take}
use Rattle.wasm_smith_unstructured.specs.Draws.{big_number}
use Rattle.wasm_smith_unstructured.proofs.number.big_number.Given as goal

abbrev pub invariant-loop-byte : goal.invariant-loop-byte
invariant-loop-byte l = record {
  so_far : l.number ≡ big_number (take l.byte-index l.bytes);
  low : l.number < 256 ^ l.byte-index;
}
