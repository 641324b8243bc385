use Rattle.std.proofs.Common.{◌+◌, ◌≡◌, length}
use Rattle.wasm_spec.specs.Shortest.{unsigned_encoding}
use Rattle.wasm_core_write.proofs.leb128.len_u64.Given as goal

abbrev pub invariant-bytes : goal.invariant-bytes
invariant-bytes l = l.len + length (unsigned_encoding l.rest) ≡ length (unsigned_encoding l.n) + 1

abbrev pub decreases-bytes : goal.decreases-bytes
decreases-bytes l = l.rest
