use Rattle.std.proofs.Common.{◌≡◌, ◌∙◌, ap, refl, subst, sym}
use Rattle.wasm_spec.specs.Constants.{ConstantExpression}
use Rattle.wasm_validity.specs.Context.{named_by, named_in, with_functions}
use Rattle.wasmparser_entries.specs.ConstExprs.{expression_of}
use Rattle.wasmparser_entries.specs.ConstOperators.{const_operator}
use Rattle.wasmparser_module_state.proofs.DeclaredLaws.{operator_read, other_names_none}
use Rattle.wasmparser_module_state.specs.State.{members, room}
use Rattle.wasmparser_module_state.proofs.function_set.FunctionSet.insert_all.Goals as goal

pub operators-preserved-in-RefFunc : goal.operators-preserved-in-RefFunc
operators-preserved-in-RefFunc c =
    let named = ap (λ operator. named_by (const_operator operator)) c.in-RefFunc.is in
    operator_read (members c.args.self.now) (members c.operators.self) (members c.insert.new.self) (room c.args.self.now) (room c.operators.self) (room c.insert.new.self) (const_operator c.in-Some.operator)
    (expression_of c.args.expression.now.rest) c.operators.operators c.next.new.self c.in-Some.ensures.steps.0 c.operators.invariant
    (c.insert.ensures.added ∙ ap (λ functions. with_functions (members c.operators.self) functions) (sym named)) c.insert.ensures.room

pub operators-preserved : goal.operators-preserved
operators-preserved c =
    let none = other_names_none c.in-Some.operator c.in_default-operator.not-RefFunc in
    operator_read (members c.args.self.now) (members c.operators.self) (members c.operators.self) (room c.args.self.now) (room c.operators.self) (room c.operators.self) (const_operator c.in-Some.operator)
    (expression_of c.args.expression.now.rest) c.operators.operators c.next.new.self c.in-Some.ensures.steps.0 c.operators.invariant
    (ap (λ functions. with_functions (members c.operators.self) functions) (sym none)) refl

pub returns-clause-added : goal.returns-clause-added
returns-clause-added c =
    let left = c.in_default.ensures.steps.0 in
    subst (λ (operators : ConstantExpression). with_functions (members c.operators.self) (named_in operators) ≡ with_functions (members c.args.self.now) (named_in (expression_of c.args.expression.now.rest))) left c.operators.invariant.1
