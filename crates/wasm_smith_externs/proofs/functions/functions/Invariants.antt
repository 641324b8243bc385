use Rattle.std.proofs.Common.{◌≡◌, ◌+◌, ◌-◌, length, ◌≤◌}
use Rattle.wasm_smith_definitions.proofs.StepLaws.{IsGrowing}
use Rattle.wasm_smith_definitions.specs.Kinds.{AnyBound}
use Rattle.wasm_smith_types.specs.Growing.{with_front}
use Rattle.wasm_smith_validity.specs.Spaces.{functions_of}
use Rattle.wasm_smith_definitions.specs.FunctionTypes.{function_indexes}
use Rattle.wasm_smith_externs.specs.Wanted.{functions_at, of_function, wanted_functions}
use Rattle.wasm_smith_externs.proofs.functions.functions.Given as goal

abbrev pub invariant-grow : goal.invariant-grow
invariant-grow l = record {
  indexes : l.indexes.items ≡ function_indexes 0 l.spaces.types;
  types : l.spaces.types ≡ l.fn.spaces.types;
  counted : length (functions_of l.spaces) ≡ length (functions_of l.fn.spaces) + length l.own.items;
  taken : length l.unstructured ≤ length l.fn.unstructured;
  growing : IsGrowing l.config (wanted_functions l.config) of_function (AnyBound l.config) l.fn.spaces l.fn.unstructured l.spaces l.unstructured l.own.items;
  drawn : with_front l.own.items (functions_at l.config (function_indexes 0 l.fn.spaces.types) (length (functions_of l.spaces)) l.unstructured)
      ≡ functions_at l.config (function_indexes 0 l.fn.spaces.types) (length (functions_of l.fn.spaces)) l.fn.unstructured;
}

abbrev pub decreases-grow : goal.decreases-grow
decreases-grow l = l.config.max_funcs - length (functions_of l.spaces)
