use Rattle.wasmparser_operators.specs.OperatorValues.{operator}
use Rattle.wasmparser_bodies.proofs.BodySteps.{step_validated, step_unread}
use Rattle.wasmparser_bodies.proofs.read_body.read_step.Goals as goal

pub returns-in-Ok-clause-validated : goal.returns-in-Ok-clause-validated
returns-in-Ok-clause-validated g c =
    step_validated (g.B.BodyValidator.state c.args.body.now) (g.B.BodyValidator.state c.op.new.self) c.args.reader.now.input c.read.new.self.input _ (operator c.in-Ok.operator) c.op.result
    c.requires.open c.requires.same_features c.original_position-offset.ensures c.in-Ok.ensures.exact.0 c.in-Ok.ensures.exact.2 c.op.ensures.validated

pub returns-in-Err-clause-validated : goal.returns-in-Err-clause-validated
returns-in-Err-clause-validated g c =
    step_unread (g.B.BodyValidator.state c.args.body.now) c.args.reader.now.input c.in-Err.error.kind c.in-Err.error.offset c.requires.open c.requires.same_features c.in-Err.ensures.exact.0 c.in-Err.ensures.exact.1
