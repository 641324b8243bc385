-- The configuration where nothing else is said.
use Rattle.std.specs.Prelude.{◌≡◌, ℕ, ◌^◌, Bool, true, false, List, [], ◌∷◌, None, replicate}
use Rattle.wasm_smith_config.specs.Instructions.{all_kinds}
use Rattle.wasm_smith_config.specs.Offsets.{default_choices}
use Rattle.wasm_smith_config.specs.declared.config.Config.{Config}

-- what is allowed
abbrev pub on_by_default : Config → List Bool
on_by_default c =
    c.allow_floats ∷ c.allow_start_export ∷ c.bulk_memory_enabled ∷ c.exceptions_enabled ∷ c.extended_const_enabled ∷ c.gc_enabled ∷
    c.memory64_enabled ∷ c.multi_value_enabled ∷ c.reference_types_enabled ∷ c.relaxed_simd_enabled ∷ c.saturating_float_to_int_enabled ∷
    c.sign_extension_ops_enabled ∷ c.simd_enabled ∷ c.tail_call_enabled ∷ []

-- what is neither allowed nor asked for
abbrev pub off_by_default : Config → List Bool
off_by_default c =
    c.allow_invalid_funcs ∷ c.canonicalize_nans ∷ c.compact_imports_enabled ∷ c.custom_page_sizes_enabled ∷ c.disallow_traps ∷
    c.export_everything ∷ c.generate_custom_sections ∷ c.memory_max_size_required ∷ c.stack_switching_enabled ∷
    c.table_max_size_required ∷ c.threads_enabled ∷ c.wide_arithmetic_enabled ∷ []

-- the least counts
abbrev pub least_counts : Config → List ℕ
least_counts c =
    c.min_types ∷ c.min_imports ∷ c.min_tags ∷ c.min_funcs ∷ c.min_globals ∷ c.min_exports ∷ c.min_element_segments ∷ c.min_elements ∷
    c.min_data_segments ∷ c.min_tables ∷ c.min_memories ∷ []

-- the largest counts of what a module may have many of
abbrev pub largest_counts : Config → List ℕ
largest_counts c =
    c.max_types ∷ c.max_imports ∷ c.max_tags ∷ c.max_funcs ∷ c.max_globals ∷ c.max_exports ∷ c.max_element_segments ∷ c.max_elements ∷
    c.max_data_segments ∷ c.max_instructions ∷ []

-- a configuration with the default of each field
pub record IsDefault (c : Config) : Type 0 where
  pub on : on_by_default c ≡ replicate 14 true
  pub off : off_by_default c ≡ replicate 12 false
  pub least : least_counts c ≡ replicate 11 0
  pub largest : largest_counts c ≡ replicate 10 100
  pub tables : c.max_tables ≡ 1
  pub memories : c.max_memories ≡ 1
  pub type_size : c.max_type_size ≡ 1000
  pub table_elements : c.max_table_elements ≡ 1000000
  pub memory32_bytes : c.max_memory32_bytes ≡ 2 ^ 32
  pub memory64_bytes : c.max_memory64_bytes ≡ 2 ^ 64
  pub instructions : c.allowed_instructions ≡ all_kinds
  pub offsets : c.memory_offset_choices ≡ default_choices
  pub no_module_shape : c.module_shape ≡ None
  pub no_available_imports : c.available_imports ≡ None
  pub no_exports : c.exports ≡ None
