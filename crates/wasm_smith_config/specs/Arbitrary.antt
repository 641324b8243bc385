-- Configurations that are drawn.
use Rattle.std.specs.Prelude.{ℕ, List, [], ◌∷◌}
use Rattle.wasm_smith_unstructured.specs.Draws.{IsDrawn, bool_at, int_at}
use Rattle.wasm_smith_config.specs.Config.{sanitized}
use Rattle.wasm_smith_config.specs.Defaults.{IsDefault}
use Rattle.wasm_smith_config.specs.declared.config.Config.{Config}

-- a configuration with each switch drawn that is on by default
unfoldable pub on_at : Config → List ℕ → Config × List ℕ
on_at c s =
    let allow_floats = bool_at s in
    let allow_start_export = bool_at allow_floats.1 in
    let bulk_memory_enabled = bool_at allow_start_export.1 in
    let exceptions_enabled = bool_at bulk_memory_enabled.1 in
    let extended_const_enabled = bool_at exceptions_enabled.1 in
    let gc_enabled = bool_at extended_const_enabled.1 in
    let memory64_enabled = bool_at gc_enabled.1 in
    let multi_value_enabled = bool_at memory64_enabled.1 in
    let reference_types_enabled = bool_at multi_value_enabled.1 in
    let relaxed_simd_enabled = bool_at reference_types_enabled.1 in
    let saturating_float_to_int_enabled = bool_at relaxed_simd_enabled.1 in
    let sign_extension_ops_enabled = bool_at saturating_float_to_int_enabled.1 in
    let simd_enabled = bool_at sign_extension_ops_enabled.1 in
    let tail_call_enabled = bool_at simd_enabled.1 in (
      record c {
        allow_floats = allow_floats.0;
        allow_start_export = allow_start_export.0;
        bulk_memory_enabled = bulk_memory_enabled.0;
        exceptions_enabled = exceptions_enabled.0;
        extended_const_enabled = extended_const_enabled.0;
        gc_enabled = gc_enabled.0;
        memory64_enabled = memory64_enabled.0;
        multi_value_enabled = multi_value_enabled.0;
        reference_types_enabled = reference_types_enabled.0;
        relaxed_simd_enabled = relaxed_simd_enabled.0;
        saturating_float_to_int_enabled = saturating_float_to_int_enabled.0;
        sign_extension_ops_enabled = sign_extension_ops_enabled.0;
        simd_enabled = simd_enabled.0;
        tail_call_enabled = tail_call_enabled.0;
      },
      tail_call_enabled.1,
    )

-- a configuration with each switch drawn that is off by default
unfoldable pub off_at : Config → List ℕ → Config × List ℕ
off_at c s =
    let allow_invalid_funcs = bool_at s in
    let canonicalize_nans = bool_at allow_invalid_funcs.1 in
    let compact_imports_enabled = bool_at canonicalize_nans.1 in
    let custom_page_sizes_enabled = bool_at compact_imports_enabled.1 in
    let disallow_traps = bool_at custom_page_sizes_enabled.1 in
    let export_everything = bool_at disallow_traps.1 in
    let generate_custom_sections = bool_at export_everything.1 in
    let memory_max_size_required = bool_at generate_custom_sections.1 in
    let table_max_size_required = bool_at memory_max_size_required.1 in
    let threads_enabled = bool_at table_max_size_required.1 in
    let wide_arithmetic_enabled = bool_at threads_enabled.1 in
    let stack_switching_enabled = bool_at wide_arithmetic_enabled.1 in (
      record c {
        allow_invalid_funcs = allow_invalid_funcs.0;
        canonicalize_nans = canonicalize_nans.0;
        compact_imports_enabled = compact_imports_enabled.0;
        custom_page_sizes_enabled = custom_page_sizes_enabled.0;
        disallow_traps = disallow_traps.0;
        export_everything = export_everything.0;
        generate_custom_sections = generate_custom_sections.0;
        memory_max_size_required = memory_max_size_required.0;
        table_max_size_required = table_max_size_required.0;
        threads_enabled = threads_enabled.0;
        wide_arithmetic_enabled = wide_arithmetic_enabled.0;
        stack_switching_enabled = stack_switching_enabled.0;
      },
      stack_switching_enabled.1,
    )

-- a configuration with each maximum drawn that has a minimum
unfoldable pub maximums_at : Config → List ℕ → Config × List ℕ
maximums_at c s =
    let max_types = int_at 0 100 s in
    let max_imports = int_at 0 100 max_types.1 in
    let max_tags = int_at 0 100 max_imports.1 in
    let max_funcs = int_at 0 100 max_tags.1 in
    let max_globals = int_at 0 100 max_funcs.1 in
    let max_exports = int_at 0 100 max_globals.1 in
    let max_element_segments = int_at 0 100 max_exports.1 in
    let max_elements = int_at 0 100 max_element_segments.1 in
    let max_data_segments = int_at 0 100 max_elements.1 in
    let max_tables = int_at 0 100 max_data_segments.1 in
    let max_memories = int_at 0 100 max_tables.1 in (
      record c {
        max_types = max_types.0;
        max_imports = max_imports.0;
        max_tags = max_tags.0;
        max_funcs = max_funcs.0;
        max_globals = max_globals.0;
        max_exports = max_exports.0;
        max_element_segments = max_element_segments.0;
        max_elements = max_elements.0;
        max_data_segments = max_data_segments.0;
        max_tables = max_tables.0;
        max_memories = max_memories.0;
      },
      max_memories.1,
    )

-- these maximums
abbrev pub maximums_of : Config → List ℕ
maximums_of c =
    c.max_types ∷ c.max_imports ∷ c.max_tags ∷ c.max_funcs ∷ c.max_globals ∷ c.max_exports ∷ c.max_element_segments ∷ c.max_elements ∷
    c.max_data_segments ∷ c.max_tables ∷ c.max_memories ∷ []

-- a configuration with all of these drawn, put in order
unfoldable pub arbitrary_at : Config → List ℕ → Config × List ℕ
arbitrary_at c s =
    let on = on_at c s in
    let off = off_at on.0 on.1 in
    let bounded = maximums_at off.0 off.1 in
    (sanitized bounded.0, bounded.1)

-- A configuration is drawn from bytes, all else being as in the default, and these bytes are left.
pub record IsArbitrary (s : List ℕ) (c : Config) (left : List ℕ) : Type 0 where
  pub default : Config
  pub is_default : IsDefault default
  pub drawn : IsDrawn (λ (c : Config). c) c left (arbitrary_at default s)
