use Rattle.std.proofs.Common.{◌≡◌, ◌≤◌, ◌+◌, ◌-◌, take, length}
use Rattle.wasm_bodies.specs.Operands.{all_taken}
use Rattle.wasmparser_bodies.specs.StackChanges.{lowered}
use Rattle.wasmparser_func_validator.proofs.body.Body.accepts.Given as goal
use Rattle.wasmparser_func_validator.specs.Steps.{items_in}

-- what is left to be tested leads where the whole leads
abbrev pub invariant-loop-left : goal.invariant-loop-left
invariant-loop-left g l = record {
  within : l.left ≤ length (g.L.TypeList.types l.types);
  same : all_taken (items_in g.R.WasmModuleResources.resources l.self) (take l.left (g.L.TypeList.types l.types)) (lowered (l.above + (length (g.L.TypeList.types l.types) - l.left)) l.stacks.now)
      ≡ all_taken (items_in g.R.WasmModuleResources.resources l.self) (g.L.TypeList.types l.types) (lowered l.above l.stacks.now);
}

abbrev pub decreases-loop-left : goal.decreases-loop-left
decreases-loop-left g l = l.left
