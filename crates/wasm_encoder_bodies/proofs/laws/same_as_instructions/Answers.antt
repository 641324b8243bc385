use Rattle.std.proofs.Common.{refl}
use Rattle.wasm_encoder_bodies.proofs.laws.same_as_instructions.Goals as goal
use Rattle.wasm_encoder_instructions.specs.Instructions.{instruction_encoding}

pub returns : goal.returns
unfolding instruction_encoding
returns c = record {
  block = λ ty. refl;
  loop_ = λ ty. refl;
  if_ = λ ty. refl;
  br = λ label. refl;
  br_if = λ label. refl;
  br_table = λ labels other. refl;
  br_on_null = λ label. refl;
  br_on_non_null = λ label. refl;
  call = λ function. refl;
  call_ref = λ type_index. refl;
  call_indirect = λ table_index type_index. refl;
  return_call_ref = λ type_index. refl;
  return_call = λ function. refl;
  return_call_indirect = λ table_index type_index. refl;
  local_get = λ local. refl;
  local_set = λ local. refl;
  local_tee = λ local. refl;
  global_get = λ global. refl;
  global_set = λ global. refl;
  i32_load = λ memarg. refl;
  i64_load = λ memarg. refl;
  f32_load = λ memarg. refl;
  f64_load = λ memarg. refl;
  i32_load8_s = λ memarg. refl;
  i32_load8_u = λ memarg. refl;
  i32_load16_s = λ memarg. refl;
  i32_load16_u = λ memarg. refl;
  i64_load8_s = λ memarg. refl;
  i64_load8_u = λ memarg. refl;
  i64_load16_s = λ memarg. refl;
  i64_load16_u = λ memarg. refl;
  i64_load32_s = λ memarg. refl;
  i64_load32_u = λ memarg. refl;
  i32_store = λ memarg. refl;
  i64_store = λ memarg. refl;
  f32_store = λ memarg. refl;
  f64_store = λ memarg. refl;
  i32_store8 = λ memarg. refl;
  i32_store16 = λ memarg. refl;
  i64_store8 = λ memarg. refl;
  i64_store16 = λ memarg. refl;
  i64_store32 = λ memarg. refl;
  memory_size = λ memory. refl;
  memory_grow = λ memory. refl;
  memory_init = λ mem data_index. refl;
  data_drop = λ segment. refl;
  memory_copy = λ dst_mem src_mem. refl;
  memory_fill = λ memory. refl;
  i32_const = λ value. refl;
  i64_const = λ value. refl;
  f32_const = λ value. refl;
  f64_const = λ value. refl;
  v128_const = λ bits. refl;
  typed_select = λ ty. refl;
  typed_select_multi = λ types. refl;
  ref_null = λ ty. refl;
  ref_func = λ function. refl;
  struct_new = λ type_index. refl;
  struct_new_default = λ type_index. refl;
  array_new = λ type_index. refl;
  array_new_default = λ type_index. refl;
  array_new_fixed = λ array_type_index array_size. refl;
  table_init = λ table elem_index. refl;
  elem_drop = λ segment. refl;
  table_fill = λ table. refl;
  table_set = λ table. refl;
  table_get = λ table. refl;
  table_grow = λ table. refl;
  table_size = λ table. refl;
  table_copy = λ dst_table src_table. refl;
}
