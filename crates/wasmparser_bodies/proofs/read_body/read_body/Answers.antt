use Rattle.std.proofs.Common.{ap, subst, ◌∙◌}
use Rattle.std.proofs.lemmas.Result.{err_from_is_err_and}
use Rattle.wasm_core_read.specs.Input.{Input}
use Rattle.wasmparser_operators.specs.OperatorAnswers.{OperatorsLeft}
use Rattle.wasmparser_bodies.specs.BodyAnswers.{AnswersOutcome, HasManyTypes}
use Rattle.wasmparser_bodies.specs.BodyStates.{context_in}
use Rattle.wasmparser_bodies.specs.CodeReading.{code_outcome}
use Rattle.wasmparser_bodies.specs.Fronts.{StopsInOperators}
use Rattle.wasmparser_bodies.proofs.BodySteps.{code_answered, locals_answered}
use Rattle.wasmparser_bodies.proofs.read_body.read_body.Goals as goal

pub returns-in_err-read_locals-clause-answers : goal.returns-in_err-read_locals-clause-answers
returns-in_err-read_locals-clause-answers g c =
    let p = err_from_is_err_and c.from_residual.result c.from_residual.ensures.1 in
    rw (p.1, p.2) (locals_answered (g.B.BodyValidator.state c.args.body.now) c.args.reader.now _ _ c.in_err-read_locals.ensures.read)

pub returns-clause-answers : goal.returns-clause-answers
returns-clause-answers g c =
    let old = g.B.BodyValidator.state c.args.body.now in
    let new = g.B.BodyValidator.state c.read_locals.new.body in
    let mid = c.read_locals.new.reader in
    let read = c.in_ok-read_locals.ensures.read in
    let stands = ap (λ (left : OperatorsLeft). left.input) c.new-operators.ensures ∙ c.fork.ensures.same in
    code_answered old new c.args.reader.now mid c.read_code.result read.0 read.1 read.2
    (subst (λ (i : Input). AnswersOutcome (HasManyTypes new.items) (StopsInOperators (context_in new) new.machine i.rest) i c.read_code.result (code_outcome (context_in new) new.machine i.rest)) stands c.read_code.ensures.answers)
