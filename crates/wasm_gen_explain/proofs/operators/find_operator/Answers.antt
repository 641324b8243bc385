use Rattle.std.proofs.Common.{◌≡◌, ◌≤◌, ◌+◌, ℕ, Option, arith, sym, subst, ap, ◌∙◌}
use Rattle.std.specs.Prelude.{slice_get}
use Rattle.wasm_gen_explain.specs.Operators.{PassesOperator, whole_body}
use Rattle.wasm_gen_explain.specs.Passed.{ArePassed}
use Rattle.wasm_gen_explain.specs.Searches.{open_from}
use Rattle.wasm_gen_explain.proofs.OperatorLaws.{few_open, left_of, one_operator}
use Rattle.wasm_gen_explain.proofs.operators.find_operator.Goals as goal

-- src/operators.rt:59:5
pub operators-preserved : goal.operators-preserved
operators-preserved c =
    let p = c.if-not-pass_operator.ensures in
    let at = c.operators in
    let first = c.args.reader.now in
    let new = c.pass_operator.new.reader in
    let opened : open_from (slice_get at.reader.rest 0) at.blocks ≡ c.opened-blocks.result = ap (λ (code : Option ℕ). open_from code at.blocks) (sym c.peek-code.ensures) ∙ sym c.opened-blocks.ensures in
    record {
      passed = subst (λ (k : ℕ). ArePassed (PassesOperator c.args.offset) (whole_body first) (at.number + 1) (left_of new k)) opened (one_operator c.args.offset at.number at.blocks first at.reader new at.invariant.passed p.0 p.1);
      counted = omega (arith, at.invariant.counted, p.0.further);
      few = subst (λ (k : ℕ). k ≤ at.number + 1 + 1) opened (few_open (slice_get at.reader.rest 0) at.blocks (at.number + 1) at.invariant.few);
    }
