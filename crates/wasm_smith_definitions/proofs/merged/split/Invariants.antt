use Rattle.std.proofs.Common.{◌≤◌, ◌+◌, ◌-◌, length}
use Rattle.wasm_smith_definitions.proofs.merged.split.Given as goal

abbrev pub invariant-search : goal.invariant-search
invariant-search l = (l.low ≤ l.count) × (l.high ≤ l.count) × (l.high ≤ length l.first) × (l.count ≤ l.low + length l.second)

abbrev pub decreases-search : goal.decreases-search
decreases-search l = l.high - l.low
