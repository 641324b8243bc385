use Rattle.std.proofs.Common.{◌≡◌, true, ap, sym, subst, ◌∙◌}
use Rattle.wasm_validity.specs.Context.{at_first}
use Rattle.wasmparser_module_state.specs.History.{grows}
use Rattle.wasmparser_module_state.specs.State.{context}
use Rattle.wasmparser_module_state.specs.StateResources.{state_resources}
use Rattle.wasmparser_validator.specs.Functions.{resources_of}
use Rattle.wasmparser_validator.specs.KnownSpaces.{KnownModule}
use Rattle.wasmparser_validator.specs.Validators.{ValidatorState}
use Rattle.wasmparser_validator.proofs.ResourceLaws.{shared_asks}
use Rattle.wasmparser_validator.proofs.validator.Validator.resources.Goals as goal

pub returns-in-Some-clause-asks : goal.returns-in-Some-clause-asks
returns-in-Some-clause-asks c =
    let asks = (rw c.in-Some.is at c.self.invariant).asks in
    shared_asks c.args.self.now.types.state c.in-Some.resources c.clone.result _ c.clone.ensures.cases
    (subst (λ (v : ValidatorState). resources_of c.in-Some.resources ≡ state_resources v.types.state) c.self.view_is asks)

pub invariant_of-self-2 : goal.invariant_of-self-2
invariant_of-self-2 c =
    let known : KnownModule = c.self.inside.types in
    let asks : resources_of c.in_ok-clone.field-0 ≡ state_resources known.state =
    ap state_resources c.in_ok-clone.ensures.cases ∙ c.in_ok-resources.ensures ∙ c.in_ok-copy_resources.ensures.asks in
    record {
      growing = subst (λ (k : KnownModule). grows k.state ≡ true) (sym c.copy_resources.ensures.same) c.self.invariant.growing;
      nothing = λ begins. subst (λ (k : KnownModule). context k.state ≡ at_first) (sym c.copy_resources.ensures.same) (c.self.invariant.nothing begins);
      asks = subst (λ (k : KnownModule). resources_of c.in_ok-clone.field-0 ≡ state_resources k.state) (sym c.copy_resources.ensures.same) asks;
    }

pub returns-clause-asks : goal.returns-clause-asks
returns-clause-asks c =
    c.in_ok-resources.ensures ∙ c.in_ok-copy_resources.ensures.asks ∙ ap (λ (v : ValidatorState). state_resources v.types.state) c.self.view_is
