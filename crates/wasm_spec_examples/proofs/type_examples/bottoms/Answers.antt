use Rattle.std.proofs.Common.{sym, ap, ◌∙◌}
use Rattle.wasm_spec.specs.Subtyping.{bottom_of}
use Rattle.wasm_spec.specs.Types.{Func, Struct, Array, Cont, I31, None, NoFunc, Abstract, Concrete}
use Rattle.wasm_spec.proofs.Closures.{complete, same_defined}
use Rattle.wasm_spec_examples.proofs.TypeKinds.{bottom_below, bottom_alone, bottom_is_no_i31}
use Rattle.wasm_spec_examples.proofs.type_examples.bottoms.Goals as goal

pub returns : goal.returns
returns c start = record {
  nofunc = λ sub_at r d. bottom_below sub_at r Func d;
  none_struct = λ sub_at r d. bottom_below sub_at r Struct d;
  none_array = λ sub_at r d. bottom_below sub_at r Array d;
  nocont = λ sub_at r d. bottom_below sub_at r Cont d;
  none_func = λ sub_at r d h. let e = bottom_alone sub_at r Func None d h in cc;
  nofunc_struct = λ sub_at r d h. let e = bottom_alone sub_at r Struct NoFunc d h in cc;
  others = λ sub_at r type a is h.
      let t = complete sub_at {a = Abstract a} {b = Concrete r} h in
      sym t.holds ∙ ap (λ s. bottom_of s.composite_type) (same_defined sub_at r t.type type t.is is);
  i31 = λ sub_at r h. let t = complete sub_at {a = Abstract I31} {b = Concrete r} h in bottom_is_no_i31 t.type.composite_type t.holds;
}
