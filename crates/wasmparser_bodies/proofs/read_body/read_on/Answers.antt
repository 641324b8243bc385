use Rattle.std.proofs.Common.{List, ℕ, ap, subst, sym, ◌∙◌}
use Rattle.wasm_core_read.specs.Input.{Input}
use Rattle.wasmparser_bodies.specs.Runs.{RunsOn}
use Rattle.wasmparser_bodies.proofs.BodySteps.{ran_on}
use Rattle.wasmparser_bodies.proofs.read_body.read_on.Goals as goal

pub returns-clause-validated : goal.returns-clause-validated
returns-clause-validated g c =
    let start = g.B.BodyValidator.state c.args.body.now in
    let old = g.B.BodyValidator.state c.run-rest.new.self in
    let from = c.args.reader.now.input in
    let mid = c.operators_of.result.input in
    let code = c.remaining_buffer.ensures.bytes ∙ ap (λ (i : Input). i.rest) c.get_binary_reader.ensures in
    let runs = subst (λ (l : List ℕ). RunsOn start old l mid.rest) code (subst (λ (l : List ℕ). RunsOn start old c.remaining_buffer.result.now l) (sym c.operators_of.ensures.rest) c.run-rest.ensures.runs) in
    ran_on start old (g.B.BodyValidator.state c.read_step.new.body) from mid c.read_step.new.reader.input c.read_step.result c.operators_of.ensures.goes_on runs c.read_step.ensures.validated
