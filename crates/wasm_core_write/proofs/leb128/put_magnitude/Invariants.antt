use Rattle.std.proofs.Common.{◌+◌, ◌≡◌, ◌≤◌, ◌++◌, length, vec_len, vec_capacity}
use Rattle.wasm_spec.specs.Shortest.{magnitude_encoding}
use Rattle.wasm_core_write.proofs.leb128.put_magnitude.Given as goal

abbrev pub invariant-bytes : goal.invariant-bytes
invariant-bytes l = record {
  written : l.sink.items ++ magnitude_encoding l.negative l.rest ≡ l.fn.sink.items ++ magnitude_encoding l.negative l.magnitude;
  room : vec_len l.sink + length (magnitude_encoding l.negative l.rest) ≤ vec_capacity l.sink;
  capacity : vec_capacity l.fn.sink ≤ vec_capacity l.sink;
}

abbrev pub decreases-bytes : goal.decreases-bytes
decreases-bytes l = l.rest
