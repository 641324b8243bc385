use Rattle.std.proofs.Common.{ap, ◌∙◌}
use Rattle.wasmparser_module_state.specs.StateResources.{state_resources}
use Rattle.wasmparser_validator.proofs.validator.share_copy.Goals as goal

pub returns-in-Ok : goal.returns-in-Ok
returns-in-Ok c = ap state_resources (c.new-in-Ok.ensures ∙ c.in-Ok.ensures.ok)
