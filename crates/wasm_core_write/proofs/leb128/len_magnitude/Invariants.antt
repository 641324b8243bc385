use Rattle.std.proofs.Common.{◌+◌, ◌≡◌, length}
use Rattle.wasm_spec.specs.Shortest.{magnitude_encoding}
use Rattle.wasm_core_write.proofs.leb128.len_magnitude.Given as goal

abbrev pub invariant-bytes : goal.invariant-bytes
invariant-bytes l = l.len + length (magnitude_encoding l.negative l.rest) ≡ length (magnitude_encoding l.negative l.magnitude) + 1

abbrev pub decreases-bytes : goal.decreases-bytes
decreases-bytes l = l.rest
