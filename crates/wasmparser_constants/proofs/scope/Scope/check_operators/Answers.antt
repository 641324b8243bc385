use Rattle.std.proofs.Common.{rules, subst}
use Rattle.wasm_spec.specs.Constants.{ConstantExpression}
use Rattle.wasmparser_entries.specs.ConstExprs.{expression_of}
use Rattle.wasmparser_entries.specs.ConstOperators.{const_operator}
use Rattle.wasmparser_constants.proofs.StepLaws.{IsAsGood, good_so_far, good_step, good_stuck}
use Rattle.wasmparser_constants.proofs.TakingLaws.{refuses_on}
use Rattle.wasmparser_constants.specs.Operands.{meant_type}
use Rattle.wasmparser_constants.specs.Scopes.{context, features_of, known}
use Rattle.wasmparser_types.specs.ValTypes.{val_type}
use Rattle.wasmparser_constants.proofs.scope.Scope.check_operators.Goals as goal

pub operators-preserved : goal.operators-preserved
operators-preserved c =
    let f = features_of c.args.self.now in
    let cx = context c.args.self.now in
    let k = known c.args.self.now in
    let wanted = meant_type k (val_type c.args.wanted.now) in
    let all = expression_of c.args.expression.now.rest in
    good_step f cx k wanted all (const_operator c.in-Some.operator) c.next.new.self c.operators.operands c.step.new.operands
    (subst (λ (operators : ConstantExpression). IsAsGood f cx k wanted all operators c.operators.operands) c.in-Some.ensures.steps.0 c.operators.invariant) c.in_ok-step.ensures.0 c.in_ok-step.ensures.1

pub returns-in_err-step : goal.returns-in_err-step
returns-in_err-step c =
    let f = features_of c.args.self.now in
    let cx = context c.args.self.now in
    let k = known c.args.self.now in
    let wanted = meant_type k (val_type c.args.wanted.now) in
    let all = expression_of c.args.expression.now.rest in
    let operator = const_operator c.in-Some.operator in
    let good = subst (λ (operators : ConstantExpression). IsAsGood f cx k wanted all operators c.operators.operands) c.in-Some.ensures.steps.0 c.operators.invariant in
    let r =
    refuses_on c.args.self.now.offset c.in_err-step.field-0.0.kind c.in_err-step.field-0.0.offset (good_stuck f cx k wanted all operator c.next.new.self c.operators.operands good)
    (good_so_far f cx k wanted all operator c.next.new.self c.operators.operands good) c.in_err-step.ensures in
    search (rules, r)
