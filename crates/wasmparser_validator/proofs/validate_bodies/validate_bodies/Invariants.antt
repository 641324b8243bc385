use Rattle.std.proofs.Common.{◌<◌, ℕ, Ok}
use Rattle.wasmparser_module_state.specs.State.{context, features_of}
use Rattle.wasmparser_module_state.specs.StateResources.{state_resources}
use Rattle.wasmparser_validator.specs.Bodies.{ValidatedAt}
use Rattle.wasmparser_validator.proofs.validate_bodies.validate_bodies.Given as goal

abbrev pub invariant-loop-i : goal.invariant-loop-i
invariant-loop-i l = (place : ℕ) → place < l.i → ValidatedAt (features_of l.fn.state) (state_resources l.fn.state).items (context l.fn.state) l.fn.bodies (Ok tt) place
