use Rattle.std.proofs.Common.{◌∙◌, refl, sym, ap}
use Rattle.std.specs.Prelude.{◌||◌}
use Rattle.wasm_smith_witness.proofs.FunctionLaws.{kept_function, kept_other}
use Rattle.wasm_smith_witness.proofs.functions.FunctionTypes.push.Goals as goal

pub returns-then-is_function-clause-kept : goal.returns-then-is_function-clause-kept
returns-then-is_function-clause-kept c = λ rest types kept. kept_function _ _ _ rest types (sym c.is_function.ensures ∙ c.if-is_function.true) c.in_ok-push.ensures.items refl
    (ap (λ b. c.args.self.now.has_resultless || b) c.is_resultless.ensures) kept

pub returns-clause-kept : goal.returns-clause-kept
returns-clause-kept c = λ rest types kept. kept_other _ _ _ rest types (sym c.is_function.ensures ∙ c.if-is_function.false) c.in_ok-push-2.ensures.items refl
    (ap (λ b. c.args.self.now.has_resultless || b) c.is_resultless.ensures) kept
