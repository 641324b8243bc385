use Rattle.wasm_spec.proofs.TypeLimits.{depth_zero, depth_suc, depth_passed, items_passed, items_as}
use Rattle.wasm_spec.specs.Limits.{Params, Results, Fields}
use Rattle.wasm_spec.specs.Types.{FuncComposite, StructComposite}
use Rattle.wasm_spec.proofs.subtyping_laws.type_limits.Goals as goal

pub returns : goal.returns
returns c start = record {
  no_supertype = depth_zero;
  one_supertype = depth_suc;
  depth = depth_passed;
  items = items_passed;
  params = λ sub_at r type function e is. items_as sub_at r type Params (FuncComposite function) e is (λ q. cc);
  results = λ sub_at r type function e is. items_as sub_at r type Results (FuncComposite function) e is (λ q. cc);
  fields = λ sub_at r type fields e is. items_as sub_at r type Fields (StructComposite fields) e is (λ q. cc);
}
