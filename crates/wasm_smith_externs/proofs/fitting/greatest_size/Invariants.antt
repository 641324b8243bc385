use Rattle.std.proofs.Common.{ℕ, ◌≤◌, drop}
use Rattle.std.specs.List.{AllByRecursion}
use Rattle.wasm_smith_externs.proofs.fitting.greatest_size.Given as goal

-- what is at least the greatest so far and the sizes that are left is at least all sizes
abbrev pub invariant-loop-item : goal.invariant-loop-item
invariant-loop-item l =
    (m : ℕ) → l.greatest ≤ m → AllByRecursion (λ item. item.size ≤ m) (drop l.item-index l.items) → AllByRecursion (λ item. item.size ≤ m) l.items
