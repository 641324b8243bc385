use Rattle.std.proofs.Common.{◌≡◌, ◌<◌, ◌≤◌, ◌^◌, ◌-◌, length}
use Rattle.wasm_core_read.specs.Reading.{unsigned_at}
use Rattle.wasm_core_read.proofs.UnsignedLaws.{with_low}
use Rattle.wasm_core_read.proofs.unsigned.many_bytes.Given as goal

abbrev pub invariant-loop-byte : goal.invariant-loop-byte
invariant-loop-byte l = record {
  within : l.shift < l.bits;
  below : l.value < 2 ^ l.shift;
  shorter : length l.rest ≤ length l.bytes;
  so_far : with_low l.value (2 ^ l.shift) (unsigned_at (l.bits - l.shift) l.rest) ≡ unsigned_at l.bits l.bytes;
}

abbrev pub decreases-loop-byte : goal.decreases-loop-byte
decreases-loop-byte l = length l.rest
