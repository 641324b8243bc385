-- Operators at the front of some bytes that are validated at once.
use Rattle.std.specs.Prelude.{◌≡◌, ◌≢◌, ◌≤◌, ℕ, List, [], length}
use Rattle.wasm_bodies.specs.BodyContext.{BodyContext}
use Rattle.wasm_bodies_laws.specs.Machine.{Machine}
use Rattle.wasmparser_bodies.specs.BodyStates.{BodyState, context_in, with_machine_in}
use Rattle.wasmparser_bodies.specs.Fronts.{Passes}

-- Operators lead from one machine to another, in which a block is open, and these bytes are left.
pub record LeadsOn {R : Type 0} (cx : BodyContext R) (old new : Machine R) (bytes rest : List ℕ) : Type 0 where
  pub passes : Passes cx old new bytes rest
  pub inside : new.frames ≢ []
  pub not_longer : length rest ≤ length bytes

-- the same of a body that is being validated
pub record RunsOn (old new : BodyState) (bytes rest : List ℕ) : Type 0 where
  pub leads : LeadsOn (context_in old) old.machine new.machine bytes rest
  pub same : new ≡ with_machine_in new.machine old
