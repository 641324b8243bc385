use Rattle.std.proofs.Common.{refl}
use Rattle.std.specs.List.{slice_get}
use Rattle.wasm_spec.specs.Subtyping.{IsOfKind}
use Rattle.wasm_spec.specs.Types.{Any, Array, ArrayComposite, Cont, ContComposite, Func, I32, None, Struct}
use Rattle.wasm_spec_examples.specs.TypeExamples.{const_field, empty_function, empty_structure, final_type, one_of_each}
use Rattle.wasm_spec_examples.proofs.TypeKinds.{bottom_alone, bottom_below, kind_above, kind_below}
use Rattle.wasm_spec_examples.proofs.matching_examples.types_of_kinds.Goals as goal

function : IsOfKind (slice_get one_of_each) 0 Func
function = record { type = final_type empty_function; is = refl; holds = refl }

structure : IsOfKind (slice_get one_of_each) 1 Struct
structure = record { type = final_type empty_structure; is = refl; holds = refl }

array : IsOfKind (slice_get one_of_each) 2 Array
array = record { type = final_type (ArrayComposite (const_field I32)); is = refl; holds = refl }

continuation : IsOfKind (slice_get one_of_each) 3 Cont
continuation = record { type = final_type (ContComposite 0); is = refl; holds = refl }

pub returns : goal.returns
returns c = record {
  func = kind_below (slice_get one_of_each) 0 Func Func function refl;
  func_any = λ h. let e = kind_above (slice_get one_of_each) 0 Func Any function h in absurd cc;
  struct_type = kind_below (slice_get one_of_each) 1 Struct Struct structure refl;
  struct_any = kind_below (slice_get one_of_each) 1 Struct Any structure refl;
  struct_array = λ h. let e = kind_above (slice_get one_of_each) 1 Struct Array structure h in absurd cc;
  array = kind_below (slice_get one_of_each) 2 Array Array array refl;
  array_struct = λ h. let e = kind_above (slice_get one_of_each) 2 Array Struct array h in absurd cc;
  cont = kind_below (slice_get one_of_each) 3 Cont Cont continuation refl;
  cont_func = λ h. let e = kind_above (slice_get one_of_each) 3 Cont Func continuation h in absurd cc;
  nofunc = bottom_below (slice_get one_of_each) 0 Func function;
  none_func = λ h. let e = bottom_alone (slice_get one_of_each) 0 Func None function h in cc;
  none_struct = bottom_below (slice_get one_of_each) 1 Struct structure;
  none_array = bottom_below (slice_get one_of_each) 2 Array array;
  nocont = bottom_below (slice_get one_of_each) 3 Cont continuation;
  none_cont = λ h. let e = bottom_alone (slice_get one_of_each) 3 Cont None continuation h in cc;
}
