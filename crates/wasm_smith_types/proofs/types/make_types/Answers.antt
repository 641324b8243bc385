use Rattle.std.proofs.Common.{Option, IfSome, subst}
use Rattle.wasm_spec.specs.Trees.{AreInRange}
use Rattle.wasm_smith_shapes.specs.Shapes.{ShapeValue}
use Rattle.wasm_smith_types.proofs.GivenSteps.{in_range}
use Rattle.wasm_smith_types.proofs.types.make_types.Goals as goal

pub make_given-requires-clause-in_range : goal.make_given-requires-clause-in_range
make_given-requires-clause-in_range c =
    let config = c.args.config.now in
    subst (λ (shape : Option ShapeValue). IfSome shape (λ it. AreInRange 0 it.groups)) c.in-Some.is
    (in_range config config.module_shape c.requires.given.module_shape)
