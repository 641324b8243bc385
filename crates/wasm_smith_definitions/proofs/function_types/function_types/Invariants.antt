use Rattle.std.proofs.Common.{◌≡◌, ◌++◌, drop, map}
use Rattle.wasm_core_types.specs.SubTypes.{sub_type}
use Rattle.wasm_smith_definitions.specs.FunctionTypes.{function_indexes}
use Rattle.wasm_smith_definitions.proofs.function_types.function_types.Given as goal

abbrev pub invariant-loop-ty : goal.invariant-loop-ty
invariant-loop-ty l = record {
  counted : l.index ≡ l.ty-index;
  so_far : l.indexes.items ++ function_indexes l.index (map sub_type (drop l.ty-index l.types)) ≡ function_indexes 0 (map sub_type l.types);
}
