use Rattle.std.proofs.Common.{rules, ◌≡◌, ◌∷◌, ap, subst}
use Rattle.wasm_core_read.specs.Input.{Input}
use Rattle.wasm_encoder_bodies.specs.Expressions.{BeginsWithFunction}
use Rattle.wasm_encoder_bodies.proofs.FunctionFronts.{no_function}
use Rattle.wasm_encoder_bodies.proofs.const_expr.ConstExpr.get_ref_func.Goals as goal

pub returns-in-Err-clause-none : goal.returns-in-Err-clause-none
returns-in-Err-clause-none c none function begins =
    let is : c.args.self.now ≡ 0xd2 ∷ c.in_ok-code.rest.now = search rules in
    no_function c.in_ok-code.rest.now c.new.result c.in-Err.field-0.offset (ap (λ (i : Input). i.rest) c.new.ensures) c.in-Err.ensures.reads.0 function
    (subst (λ bytes. BeginsWithFunction bytes function) is begins)
