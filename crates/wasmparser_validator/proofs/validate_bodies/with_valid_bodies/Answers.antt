use Rattle.std.proofs.Common.{Ok, Err, subst}
use Rattle.wasmparser_module_state.specs.State.{context, features_of}
use Rattle.wasmparser_module_state.specs.StateResources.{state_resources}
use Rattle.wasmparser_module_state.specs.declared.module_state.ModuleState.{ModuleState}
use Rattle.wasmparser_validator.specs.Bodies.{ValidatesBodies}
use Rattle.wasmparser_validator.proofs.validate_bodies.with_valid_bodies.Goals as goal

pub returns-in-Ok-clause-fine : goal.returns-in-Ok-clause-fine
returns-in-Ok-clause-fine c =
    subst (λ (s : ModuleState). ValidatesBodies (features_of s) (state_resources s).items (context s) c.args.bodies.now (Ok tt)) c.state-state.ensures.same c.in-Ok.ensures

pub returns-in-Err-clause-refused : goal.returns-in-Err-clause-refused
returns-in-Err-clause-refused c =
    subst (λ (s : ModuleState). ValidatesBodies (features_of s) (state_resources s).items (context s) c.args.bodies.now (Err c.in-Err.error)) c.state-state.ensures.same c.in-Err.ensures
