use Rattle.std.proofs.Common.{◌≡◌, ◌++◌, drop}
use Rattle.wasm_smith_validity.specs.Rules.{is_unit}
use Rattle.wasm_smith_validity.specs.Spaces.{functions_of, func_type_at}
use Rattle.wasm_smith_definitions.specs.Indexes.{places}
use Rattle.wasm_smith_externs.specs.Wanted.{start_functions}
use Rattle.wasm_smith_externs.proofs.start.start_functions.Given as goal

abbrev pub invariant-loop-function : goal.invariant-loop-function
invariant-loop-function l =
    l.functions.items ++ places (λ index. is_unit (func_type_at l.spaces.types index)) l.function (drop l.function (functions_of l.spaces)) ≡ start_functions l.spaces
