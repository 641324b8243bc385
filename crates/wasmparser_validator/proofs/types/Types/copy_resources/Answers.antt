use Rattle.std.proofs.Common.{◌≡◌, IfOk, subst}
use Rattle.wasmparser_module_state.specs.StateResources.{state_resources}
use Rattle.wasmparser_validator.specs.KnownSpaces.{KnownModule}
use Rattle.wasmparser_validator.proofs.types.Types.copy_resources.Goals as goal

pub returns-clause-asks : goal.returns-clause-asks
returns-clause-asks c =
    subst (λ (k : KnownModule). IfOk c.copy_resources.result (λ copy. state_resources copy ≡ state_resources k.state)) c.self.view_is c.copy_resources.ensures.resources
