use Rattle.std.proofs.Common.{refl}
use Rattle.wasm_spec.specs.Types.{Func, Struct, Array, Cont, Any, Eq}
use Rattle.wasm_spec_examples.proofs.TypeKinds.{kind_below, kind_above}
use Rattle.wasm_spec_examples.proofs.type_examples.kinds.Goals as goal

pub returns : goal.returns
returns c start = record {
  func = λ sub_at r d. kind_below sub_at r Func Func d refl;
  struct_any = λ sub_at r d. kind_below sub_at r Struct Any d refl;
  array_eq = λ sub_at r d. kind_below sub_at r Array Eq d refl;
  cont = λ sub_at r d. kind_below sub_at r Cont Cont d refl;
  func_any = λ sub_at r d h. let e = kind_above sub_at r Func Any d h in absurd cc;
  struct_array = λ sub_at r d h. let e = kind_above sub_at r Struct Array d h in absurd cc;
}
