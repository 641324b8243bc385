use Rattle.std.proofs.Common.{length}
use Rattle.wasmparser_bodies.specs.Runs.{LeadsOn}
use Rattle.wasmparser_func_validator.specs.Steps.{body_context}
use Rattle.wasmparser_func_validator.proofs.body.Body.run_quickly.Given as goal

-- the outcome of the bytes that are left is that of all
abbrev pub invariant-operators : goal.invariant-operators
invariant-operators g l = LeadsOn (body_context g.R.WasmModuleResources.resources l.self) l.fn.stacks l.stacks l.code l.rest

abbrev pub decreases-operators : goal.decreases-operators
decreases-operators g l = length l.rest
