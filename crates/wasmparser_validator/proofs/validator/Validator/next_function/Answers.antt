use Rattle.std.proofs.Common.{ap, subst, sym, ◌∙◌}
use Rattle.wasmparser_module_state.specs.State.{context, features_of}
use Rattle.wasmparser_module_state.specs.declared.module_state.ModuleState.{ModuleState}
use Rattle.wasmparser_module_types.specs.ModuleTypes.{AreKnownTypes}
use Rattle.wasmparser_validator.specs.Functions.{resources_of}
use Rattle.wasmparser_validator.specs.Validators.{ValidatorState}
use Rattle.wasmparser_validator.proofs.OwnLaws.{has_function_at}
use Rattle.wasmparser_validator.proofs.ResourceLaws.{told}
use Rattle.wasmparser_validator.proofs.validator.Validator.next_function.Goals as goal

pub returns-clause-function : goal.returns-clause-function
returns-clause-function c =
    let same = c.state-state.ensures.same ∙ ap (λ (v : ValidatorState). v.types.state) (c.self-2.view_is ∙ c.resources.ensures.same) in
    let known = subst AreKnownTypes (c.types.ensures ∙ ap (λ (s : ModuleState). s.types) same) c.are_known.ensures in
    has_function_at c.state-state.result.now _ _ c.self.inside.bodies _ _ _ _ _ _ (ap (λ (v : ValidatorState). v.bodies) c.self.view_is) (ap context same) (ap features_of same) c.state-state.ensures.named
    c.function_count.ensures c.own_function_count.ensures (sym c.type_of_own_function.ensures ∙ c.unwrap.ensures) c.features.ensures
    (told c.args.self.now.types.state (resources_of c.in_ok-resources.resources) known c.in_ok-resources.ensures.asks)
