use Rattle.std.proofs.Common.{◌≡◌, ◌+◌, ◌-◌, ◌*◌, ◌^◌, ◌<◌, ◌≤◌, nat_lt}
use Rattle.wasm_smith_unstructured.specs.Draws.{least_from, width}
use Rattle.wasm_smith_unstructured.proofs.number.width.Given as goal

abbrev pub invariant-bytes : goal.invariant-bytes
invariant-bytes l = record {
  few : l.count ≤ 8;
  low : l.left * 256 ^ l.count ≤ l.number;
  high : l.number < (l.left + 1) * 256 ^ l.count;
  so_far : least_from (λ k. nat_lt l.number (256 ^ k)) l.count (8 - l.count) ≡ width l.number;
}

abbrev pub decreases-bytes : goal.decreases-bytes
decreases-bytes l = l.left
