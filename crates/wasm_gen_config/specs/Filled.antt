-- Configurations with the values that a table has for fields of one kind.
use Rattle.std.specs.Prelude.{codes}
use Rattle.toml.specs.Data.{Members, as_bool}
use Rattle.wasm_smith_config.specs.declared.config.Config.{Config}
use Rattle.wasm_gen_config.specs.Fields.{largest}
use Rattle.wasm_gen_config.specs.Settings.{given, number_to, kinds_in, weights_in}

-- with its switches that are on by default
unfoldable pub with_on : Members → Config → Config
with_on t c = record c {
  allow_floats = given as_bool t (codes "allow_floats") c.allow_floats;
  allow_start_export = given as_bool t (codes "allow_start_export") c.allow_start_export;
  bulk_memory_enabled = given as_bool t (codes "bulk_memory_enabled") c.bulk_memory_enabled;
  exceptions_enabled = given as_bool t (codes "exceptions_enabled") c.exceptions_enabled;
  extended_const_enabled = given as_bool t (codes "extended_const_enabled") c.extended_const_enabled;
  gc_enabled = given as_bool t (codes "gc_enabled") c.gc_enabled;
  memory64_enabled = given as_bool t (codes "memory64_enabled") c.memory64_enabled;
  multi_value_enabled = given as_bool t (codes "multi_value_enabled") c.multi_value_enabled;
  reference_types_enabled = given as_bool t (codes "reference_types_enabled") c.reference_types_enabled;
  relaxed_simd_enabled = given as_bool t (codes "relaxed_simd_enabled") c.relaxed_simd_enabled;
  saturating_float_to_int_enabled = given as_bool t (codes "saturating_float_to_int_enabled") c.saturating_float_to_int_enabled;
  sign_extension_ops_enabled = given as_bool t (codes "sign_extension_ops_enabled") c.sign_extension_ops_enabled;
  simd_enabled = given as_bool t (codes "simd_enabled") c.simd_enabled;
  tail_call_enabled = given as_bool t (codes "tail_call_enabled") c.tail_call_enabled;
}

-- with its switches that are off by default, but for those on sizes
unfoldable pub with_off : Members → Config → Config
with_off t c = record c {
  allow_invalid_funcs = given as_bool t (codes "allow_invalid_funcs") c.allow_invalid_funcs;
  canonicalize_nans = given as_bool t (codes "canonicalize_nans") c.canonicalize_nans;
  compact_imports_enabled = given as_bool t (codes "compact_imports_enabled") c.compact_imports_enabled;
  custom_page_sizes_enabled = given as_bool t (codes "custom_page_sizes_enabled") c.custom_page_sizes_enabled;
  disallow_traps = given as_bool t (codes "disallow_traps") c.disallow_traps;
  export_everything = given as_bool t (codes "export_everything") c.export_everything;
  generate_custom_sections = given as_bool t (codes "generate_custom_sections") c.generate_custom_sections;
  stack_switching_enabled = given as_bool t (codes "stack_switching_enabled") c.stack_switching_enabled;
  threads_enabled = given as_bool t (codes "threads_enabled") c.threads_enabled;
  wide_arithmetic_enabled = given as_bool t (codes "wide_arithmetic_enabled") c.wide_arithmetic_enabled;
}

-- with its minimums
unfoldable pub with_minimums : Members → Config → Config
with_minimums t c = record c {
  min_types = given (number_to (largest 32)) t (codes "min_types") c.min_types;
  min_imports = given (number_to (largest 32)) t (codes "min_imports") c.min_imports;
  min_tags = given (number_to (largest 32)) t (codes "min_tags") c.min_tags;
  min_funcs = given (number_to (largest 32)) t (codes "min_funcs") c.min_funcs;
  min_globals = given (number_to (largest 32)) t (codes "min_globals") c.min_globals;
  min_exports = given (number_to (largest 32)) t (codes "min_exports") c.min_exports;
  min_element_segments = given (number_to (largest 32)) t (codes "min_element_segments") c.min_element_segments;
  min_elements = given (number_to (largest 32)) t (codes "min_elements") c.min_elements;
  min_data_segments = given (number_to (largest 32)) t (codes "min_data_segments") c.min_data_segments;
  min_tables = given (number_to (largest 32)) t (codes "min_tables") c.min_tables;
  min_memories = given (number_to (largest 32)) t (codes "min_memories") c.min_memories;
}

-- with its maximums of 32 bits
unfoldable pub with_maximums : Members → Config → Config
with_maximums t c = record c {
  max_types = given (number_to (largest 32)) t (codes "max_types") c.max_types;
  max_imports = given (number_to (largest 32)) t (codes "max_imports") c.max_imports;
  max_tags = given (number_to (largest 32)) t (codes "max_tags") c.max_tags;
  max_funcs = given (number_to (largest 32)) t (codes "max_funcs") c.max_funcs;
  max_globals = given (number_to (largest 32)) t (codes "max_globals") c.max_globals;
  max_exports = given (number_to (largest 32)) t (codes "max_exports") c.max_exports;
  max_element_segments = given (number_to (largest 32)) t (codes "max_element_segments") c.max_element_segments;
  max_elements = given (number_to (largest 32)) t (codes "max_elements") c.max_elements;
  max_data_segments = given (number_to (largest 32)) t (codes "max_data_segments") c.max_data_segments;
  max_tables = given (number_to (largest 32)) t (codes "max_tables") c.max_tables;
  max_memories = given (number_to (largest 32)) t (codes "max_memories") c.max_memories;
  max_instructions = given (number_to (largest 32)) t (codes "max_instructions") c.max_instructions;
  max_type_size = given (number_to (largest 32)) t (codes "max_type_size") c.max_type_size;
}

-- with all else that it has
unfoldable pub with_others : Members → Config → Config
with_others t c = record c {
  memory_max_size_required = given as_bool t (codes "memory_max_size_required") c.memory_max_size_required;
  table_max_size_required = given as_bool t (codes "table_max_size_required") c.table_max_size_required;
  max_table_elements = given (number_to (largest 64)) t (codes "max_table_elements") c.max_table_elements;
  max_memory32_bytes = given (number_to (largest 64)) t (codes "max_memory32_bytes") c.max_memory32_bytes;
  max_memory64_bytes = given (number_to (largest 128)) t (codes "max_memory64_bytes") c.max_memory64_bytes;
  allowed_instructions = given kinds_in t (codes "allowed_instructions") c.allowed_instructions;
  memory_offset_choices = given weights_in t (codes "memory_offset_choices") c.memory_offset_choices;
}
