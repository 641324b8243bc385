use Rattle.std.proofs.Common.{ap}
use Rattle.wasm_smith_module.proofs.MadeExports.{as_many, exported_as, exported_step, few_exported, no_shape, shape_exported, whole_exported}
use Rattle.wasm_smith_shapes.specs.Shapes.{ShapeValue}
use Rattle.wasm_smith_module.proofs.uses.make_exports.Goals as goal

pub shape_exports-requires-clause-few : goal.shape_exports-requires-clause-few
shape_exports-requires-clause-few c =
    let shape = c.in-Some.shape in
    let many = as_many shape c.deref.result.now _ c.deref.ensures.value (ap (λ (v : ShapeValue). v.exports) c.shape.view_is) in
    few_exported c.args.config.now shape c.requires.shapes (whole_exported c.args.config.now shape c.in-Some.is) c.args.imported _ many c.requires.few_exports

pub returns-in-Some-clause-step : goal.returns-in-Some-clause-step
returns-in-Some-clause-step c =
    let shape = c.in-Some.shape in
    let are = exported_as shape c.args.imported _ _ _ c.in_ok-shape_exports.ensures.exports c.deref.ensures.value (ap (λ (v : ShapeValue). v.exports) c.shape.view_is) in
    exported_step c.args.config.now shape c.requires.shapes (whole_exported c.args.config.now shape c.in-Some.is) c.args.spaces.now c.shape_exports.new.spaces c.args.imported
    c.requires.good c.requires.types c.requires.first c.requires.standing are c.in_ok-shape_exports.ensures.known

pub shape_exports-requires-in-Some-exports-clause-few : goal.shape_exports-requires-in-Some-exports-clause-few
shape_exports-requires-in-Some-exports-clause-few c =
    let shape = c.in-Some-exports.shape in
    let asked = shape_exported c.args.config.now _ (no_shape c.args.config.now.module_shape c.in_default.not-Some) c.in-Some-exports.is in
    let many = as_many shape c.deref-in-Some-exports.result.now _ c.deref-in-Some-exports.ensures.value (ap (λ (v : ShapeValue). v.exports) c.shape-in-Some-exports.view_is) in
    few_exported c.args.config.now shape c.requires.shapes asked c.args.imported _ many c.requires.few_exports

pub returns-in-Some-exports-clause-step : goal.returns-in-Some-exports-clause-step
returns-in-Some-exports-clause-step c =
    let shape = c.in-Some-exports.shape in
    let asked = shape_exported c.args.config.now _ (no_shape c.args.config.now.module_shape c.in_default.not-Some) c.in-Some-exports.is in
    let are = exported_as shape c.args.imported _ _ _ c.in_ok-shape_exports-2.ensures.exports c.deref-in-Some-exports.ensures.value (ap (λ (v : ShapeValue). v.exports) c.shape-in-Some-exports.view_is) in
    exported_step c.args.config.now shape c.requires.shapes asked c.args.spaces.now c.shape_exports-in-Some-exports.new.spaces c.args.imported
    c.requires.good c.requires.types c.requires.first c.requires.standing are c.in_ok-shape_exports-2.ensures.known
