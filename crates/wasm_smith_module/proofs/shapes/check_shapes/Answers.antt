use Rattle.std.proofs.Common.{inr, refl, sym, ◌∙◌, true≢false}
use Rattle.std.proofs.lemmas.Result.{err_from_is_err_and}
use Rattle.wasm_core_types.specs.Features.{feature_set}
use Rattle.wasm_smith_module.proofs.ShapeChecks.{exports_reason, good_for, imports_reason, module_reason}
use Rattle.wasm_smith_shapes.specs.declared.shape.ShapeUse.TheVariants.{Module, Imports, Exports}
use Rattle.wasm_smith_module.proofs.shapes.check_shapes.Goals as goal

pub returns-in_err-check_shape-clause-bad : goal.returns-in_err-check_shape-clause-bad
returns-in_err-check_shape-clause-bad c =
    let p = err_from_is_err_and c.from_residual.result c.from_residual.ensures.1 in
    rw (p.1, p.2) (module_reason c.args.config.now (feature_set c.features-features.result) c.features-features.ensures.flags _ c.in_err-check_shape.ensures.bad)

pub returns-in_err-check_shape-2-clause-bad : goal.returns-in_err-check_shape-2-clause-bad
returns-in_err-check_shape-2-clause-bad c =
    let p = err_from_is_err_and c.from_residual-in_err-check_shape-2.result c.from_residual-in_err-check_shape-2.ensures.1 in
    rw (p.1, p.2) (imports_reason c.args.config.now (feature_set c.features-features.result) c.features-features.ensures.flags _ c.in_err-check_shape-2.ensures.bad)

pub returns-in_err-check_shape-3-clause-bad : goal.returns-in_err-check_shape-3-clause-bad
returns-in_err-check_shape-3-clause-bad c =
    let p = err_from_is_err_and c.from_residual-in_err-check_shape-3.result c.from_residual-in_err-check_shape-3.ensures.1 in
    rw (p.1, p.2) (exports_reason c.args.config.now (feature_set c.features-features.result) c.features-features.ensures.flags _ c.in_err-check_shape-3.ensures.bad)

pub returns-clause-good : goal.returns-clause-good
returns-clause-good c =
    let config = c.args.config.now in
    let features = feature_set c.features-features.result in
    let ours = c.features-features.ensures.flags in
    record {
      module_shape = good_for config features ours Module config.module_shape c.in_ok-check_shape.ensures.good;
      available_imports = good_for config features ours Imports config.available_imports c.in_ok-check_shape-2.ensures.good;
      exports = good_for config features ours Exports config.exports c.in_ok-check_shape-3.ensures.good;
      together = c.go_together.ensures.0 c.if-not-go_together.false;
    }

pub returns-then-not-go_together-clause-bad : goal.returns-then-not-go_together-clause-bad
returns-then-not-go_together-clause-bad c =
    let config = c.args.config.now in
    let features = feature_set c.features-features.result in
    let ours = c.features-features.ensures.flags in
    inr (inr (inr (
      refl,
      record {
        available_imports = good_for config features ours Imports config.available_imports c.in_ok-check_shape-2.ensures.good;
        exports = good_for config features ours Exports config.exports c.in_ok-check_shape-3.ensures.good;
        apart = λ together. absurd (true≢false (sym (c.go_together.ensures.1 together) ∙ c.if-not-go_together.true));
      },
    )))
