use Rattle.std.proofs.Common.{◌≡◌, ◌-◌, map, drop}
use Rattle.wasm_core_types.specs.SubTypes.{sub_type}
use Rattle.wasm_smith_externs.specs.Bounds.{types_size}
use Rattle.wasm_smith_externs.proofs.bounds.left_by_types.Given as goal

abbrev pub invariant-loop-index : goal.invariant-loop-index
invariant-loop-index l = l.rest - types_size (map sub_type l.types) (drop l.index-index l.indexes) ≡ l.size - types_size (map sub_type l.types) l.indexes
