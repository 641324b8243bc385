use Rattle.std.proofs.Common.{◌+◌, ◌≡◌, ◌≤◌, ◌++◌, length, vec_len, vec_capacity}
use Rattle.wasm_spec.specs.Shortest.{unsigned_encoding}
use Rattle.wasm_core_write.proofs.leb128.put_u64.Given as goal

abbrev pub invariant-bytes : goal.invariant-bytes
invariant-bytes l = record {
  written : l.sink.items ++ unsigned_encoding l.rest ≡ l.fn.sink.items ++ unsigned_encoding l.n;
  room : vec_len l.sink + length (unsigned_encoding l.rest) ≤ vec_capacity l.sink;
  capacity : vec_capacity l.fn.sink ≤ vec_capacity l.sink;
}

abbrev pub decreases-bytes : goal.decreases-bytes
decreases-bytes l = l.rest
