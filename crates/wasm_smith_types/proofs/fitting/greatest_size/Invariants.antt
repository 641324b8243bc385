use Rattle.std.proofs.Common.{ℕ, ◌≤◌, drop}
use Rattle.std.specs.List.{AllByRecursion}
use Rattle.wasm_smith_types.proofs.fitting.greatest_size.Given as goal

-- what is at least the greatest so far and the sizes that are left is at least all sizes
abbrev pub invariant-loop-span : goal.invariant-loop-span
invariant-loop-span l =
    (m : ℕ) → l.greatest ≤ m → AllByRecursion (λ span. span.size ≤ m) (drop l.span-index l.spans) → AllByRecursion (λ span. span.size ≤ m) l.spans
