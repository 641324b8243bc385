use Rattle.std.proofs.Common.{ap, subst, ◌∙◌}
use Rattle.wasm_core_types.specs.Features.{feature_set}
use Rattle.wasm_core_read.specs.Input.{Input}
use Rattle.wasmparser_bodies.specs.BodyAnswers.{AnswersOutcome, HasManyTypes}
use Rattle.wasmparser_bodies.specs.BodyStates.{StopsInRest, rest_outcome}
use Rattle.wasmparser_func_validator.specs.FromBytes.{state_of}
use Rattle.wasmparser_func_validator.proofs.ReadBodies.{answered, right_body, validated}
use Rattle.wasmparser_func_validator.proofs.func_validator.FuncValidator.validate.Goals as goal
use Rattle.wasmparser_func_validator.specs.Steps.{items_in, locals_in_body}

pub returns-clause-validated : goal.returns-clause-validated
returns-clause-validated g c = λ ready few start type named.
    let v = c.args.self.now in
    let body = c.args.body.now in
    let f = feature_set v.body.features in
    let items = items_in g.T.WasmModuleResources.resources v.body in
    let state = state_of f items v.body.ty (locals_in_body g.T.WasmModuleResources.resources v.body) v.stacks v.failed in
    let is = c.set_features.ensures ∙ ap (λ (i : Input). record i { features = f }) c.get_binary_reader-reader.ensures.same in
    let answers = subst (λ (i : Input). AnswersOutcome (HasManyTypes items) (StopsInRest state i.rest) i c.read_body-result.result (rest_outcome state i.rest)) is c.read_body-result.ensures.answers in
    validated f items type few v.body.ty (locals_in_body g.T.WasmModuleResources.resources v.body) v.stacks v.failed body c.read_body-result.result c.get_binary_reader-reader.ensures.are start named
    (answered (HasManyTypes items) (StopsInRest state body.rest) body f c.read_body-result.result (rest_outcome state body.rest) answers)

pub returns-clause-so_far : goal.returns-clause-so_far
returns-clause-so_far g c = λ ready start type named.
    let v = c.args.self.now in
    let body = c.args.body.now in
    let f = feature_set v.body.features in
    let items = items_in g.T.WasmModuleResources.resources v.body in
    let locals = locals_in_body g.T.WasmModuleResources.resources v.body in
    let state = state_of f items v.body.ty locals v.stacks v.failed in
    let is = c.set_features.ensures ∙ ap (λ (i : Input). record i { features = f }) c.get_binary_reader-reader.ensures.same in
    let answers = subst (λ (i : Input). AnswersOutcome (HasManyTypes items) (StopsInRest state i.rest) i c.read_body-result.result (rest_outcome state i.rest)) is c.read_body-result.ensures.answers in
    right_body f items type v.body.ty locals v.stacks v.failed body c.read_body-result.result c.get_binary_reader-reader.ensures.are start named
    (answered (HasManyTypes items) (StopsInRest state body.rest) body f c.read_body-result.result (rest_outcome state body.rest) answers)
