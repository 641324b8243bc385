use Rattle.std.proofs.Common.{rules, ◌∙◌, ap, subst, sym}
use Rattle.wasm_core_read.specs.Input.{Input}
use Rattle.wasmparser_operators.specs.OperatorAnswers.{OperatorsLeft}
use Rattle.wasmparser_operators.specs.OperatorValues.{operator}
use Rattle.wasm_gen_explain.specs.Searches.{ReadsOperator}
use Rattle.wasm_gen_explain.proofs.OperatorLaws.{reads}
use Rattle.wasm_gen_explain.proofs.operators.pass_operator.Goals as goal

-- src/operators.rt:21:1
pub returns : goal.returns
returns c =
    let e = c.in-Ok.ensures in
    let old = c.new-operators.result.input in
    let new = c.read.new.self.input in
    let read = reads old new (operator c.in-Ok.operator) e.exact.0 e.reads e.exact.2 e.further in
    let same = ap (λ (left : OperatorsLeft). left.input) c.new-operators.ensures ∙ c.fork.ensures.same in
    (subst (λ (i : Input). ReadsOperator c.args.reader.now i) (sym c.get_binary_reader.ensures) (subst (λ (i : Input). ReadsOperator i new) same read), search rules)
