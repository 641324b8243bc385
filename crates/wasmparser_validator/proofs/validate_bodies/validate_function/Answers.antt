use Rattle.std.proofs.Common.{Ok, Err, refl, sym, ap, subst, ◌∙◌, arith}
use Rattle.std.specs.Borrow.{Bor}
use Rattle.std.specs.Option.{IsSome}
use Rattle.std.proofs.lemmas.Option.{slice_get-get_or}
use Rattle.std.proofs.lemmas.Result.{err_from_is_err_and}
use Rattle.wasm_core_types.specs.Features.{feature_set}
use Rattle.wasmparser_module_state.specs.declared.module_state.ModuleState.{ModuleState}
use Rattle.wasmparser_module_types.specs.ModuleTypes.{AreKnownTypes}
use Rattle.wasmparser_validator.proofs.OwnLaws.{answered, few_functions, not_begun, own_named}
use Rattle.wasmparser_validator.proofs.validate_bodies.validate_function.Goals as goal

pub overflow_cast-function : goal.overflow_cast-function
overflow_cast-function c = omega (arith, c.requires.own, few_functions c.args.state.now c.requires.reached, c.function_count.ensures, c.own_function_count.ensures)

pub unwrap-requires : goal.unwrap-requires
unwrap-requires c =
    subst IsSome (sym (c.type_of_own_function.ensures ∙ slice_get-get_or c.args.state.now.own_functions.items c.args.place 0 c.requires.own)) refl

pub into_validator-requires : goal.into_validator-requires
into_validator-requires c =
    own_named c.args.state.now (subst AreKnownTypes c.types.ensures c.are_known.ensures) c.requires.named c.args.place c.unwrap.result (sym c.type_of_own_function.ensures ∙ c.unwrap.ensures)

pub returns-in-Err-clause-refused : goal.returns-in-Err-clause-refused
returns-in-Err-clause-refused c =
    let refused = not_begun c.args.state.now c.args.place c.unwrap.result c.args.body.now c.in-Err.error (subst AreKnownTypes c.types.ensures c.are_known.ensures) c.requires.reached
    c.requires.named (sym c.type_of_own_function.ensures ∙ c.unwrap.ensures) c.in-Err.ensures.refused in
    rw (c.placed.ensures, c.range.ensures.start) refused

pub returns-in_err-validate-clause-refused : goal.returns-in_err-validate-clause-refused
returns-in_err-validate-clause-refused c =
    let p = err_from_is_err_and c.from_residual.result c.from_residual.ensures.1 in
    rw (p.1, p.2) (answered c.args.state.now c.in-Ok.validator.body.resources.now _ c.args.place c.unwrap.result _ _ _ _ c.args.body.now (Err c.in_err-validate.field-0.0) (subst AreKnownTypes c.types.ensures c.are_known.ensures) c.requires.named
    (sym c.type_of_own_function.ensures ∙ c.unwrap.ensures) (ap (λ (r : Bor ModuleState). r.now) c.in-Ok.ensures.given.0)
    (ap feature_set c.in-Ok.ensures.given.1 ∙ c.features.ensures) c.in-Ok.ensures.given.2 c.in-Ok.ensures.given.4 c.in-Ok.ensures.stacks
    c.in-Ok.ensures.locals c.in_err-validate.ensures.validated)

pub returns-clause-fine : goal.returns-clause-fine
returns-clause-fine c =
    answered c.args.state.now c.in-Ok.validator.body.resources.now _ c.args.place c.unwrap.result _ _ _ _ c.args.body.now (Ok tt) (subst AreKnownTypes c.types.ensures c.are_known.ensures) c.requires.named
    (sym c.type_of_own_function.ensures ∙ c.unwrap.ensures) (ap (λ (r : Bor ModuleState). r.now) c.in-Ok.ensures.given.0)
    (ap feature_set c.in-Ok.ensures.given.1 ∙ c.features.ensures) c.in-Ok.ensures.given.2 c.in-Ok.ensures.given.4 c.in-Ok.ensures.stacks
    c.in-Ok.ensures.locals c.in_ok-validate.ensures.validated
