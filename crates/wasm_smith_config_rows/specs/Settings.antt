-- Configurations that differ in settings of one kind alone.
use Rattle.wasm_smith_config.specs.declared.config.Config.{Config}

-- the configuration with the switches of another
abbrev pub with_switches : Config → Config → Config
with_switches c other = record c {
  allow_floats = other.allow_floats;
  allow_invalid_funcs = other.allow_invalid_funcs;
  allow_start_export = other.allow_start_export;
  bulk_memory_enabled = other.bulk_memory_enabled;
  canonicalize_nans = other.canonicalize_nans;
  compact_imports_enabled = other.compact_imports_enabled;
  custom_page_sizes_enabled = other.custom_page_sizes_enabled;
  disallow_traps = other.disallow_traps;
  exceptions_enabled = other.exceptions_enabled;
  export_everything = other.export_everything;
  extended_const_enabled = other.extended_const_enabled;
  gc_enabled = other.gc_enabled;
  generate_custom_sections = other.generate_custom_sections;
  memory64_enabled = other.memory64_enabled;
  memory_max_size_required = other.memory_max_size_required;
  multi_value_enabled = other.multi_value_enabled;
  reference_types_enabled = other.reference_types_enabled;
  relaxed_simd_enabled = other.relaxed_simd_enabled;
  saturating_float_to_int_enabled = other.saturating_float_to_int_enabled;
  sign_extension_ops_enabled = other.sign_extension_ops_enabled;
  simd_enabled = other.simd_enabled;
  stack_switching_enabled = other.stack_switching_enabled;
  table_max_size_required = other.table_max_size_required;
  tail_call_enabled = other.tail_call_enabled;
  threads_enabled = other.threads_enabled;
  wide_arithmetic_enabled = other.wide_arithmetic_enabled;
}

-- the configuration with the minimums of another
abbrev pub with_minimums : Config → Config → Config
with_minimums c other = record c {
  min_types = other.min_types;
  min_imports = other.min_imports;
  min_tags = other.min_tags;
  min_funcs = other.min_funcs;
  min_globals = other.min_globals;
  min_exports = other.min_exports;
  min_element_segments = other.min_element_segments;
  min_elements = other.min_elements;
  min_data_segments = other.min_data_segments;
  min_tables = other.min_tables;
  min_memories = other.min_memories;
}

-- the configuration with the maximums of another
abbrev pub with_maximums : Config → Config → Config
with_maximums c other = record c {
  max_types = other.max_types;
  max_imports = other.max_imports;
  max_tags = other.max_tags;
  max_funcs = other.max_funcs;
  max_globals = other.max_globals;
  max_exports = other.max_exports;
  max_element_segments = other.max_element_segments;
  max_elements = other.max_elements;
  max_data_segments = other.max_data_segments;
  max_tables = other.max_tables;
  max_memories = other.max_memories;
  max_instructions = other.max_instructions;
  max_type_size = other.max_type_size;
  max_table_elements = other.max_table_elements;
  max_memory32_bytes = other.max_memory32_bytes;
  max_memory64_bytes = other.max_memory64_bytes;
}

-- the configuration with the shapes of another
abbrev pub with_shapes : Config → Config → Config
with_shapes c other = record c {
  module_shape = other.module_shape;
  available_imports = other.available_imports;
  exports = other.exports;
}
