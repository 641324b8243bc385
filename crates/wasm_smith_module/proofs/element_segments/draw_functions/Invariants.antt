use Rattle.std.proofs.Common.{◌-◌, ◌<◌, ◌≤◌, length, vec_len}
use Rattle.std.specs.List.{AllByRecursion}
use Rattle.wasm_smith_module.proofs.element_segments.draw_functions.Given as goal
use Rattle.wasm_smith_validity.specs.Spaces.{functions_of}

abbrev pub invariant-grow : goal.invariant-grow
invariant-grow l = record {
  taken : length l.unstructured ≤ length l.fn.unstructured;
  few : length l.functions.items ≤ l.bounds.most;
  in_range : AllByRecursion (λ function. function < length (functions_of l.spaces)) l.functions.items;
}

abbrev pub decreases-grow : goal.decreases-grow
decreases-grow l = l.bounds.most - vec_len l.functions
