-- The fields of a configuration that a table may give: each by its name, which is its key.
use Rattle.std.specs.Prelude.{ℕ, ◌-◌, ◌^◌, Bool, List, [], ◌∷◌, ◌++◌, Option, option_map, map, find, codes}
use Rattle.std.specs.List.{list_any}
use Rattle.std.specs.Str.{bytes_eq}
use Rattle.wasm_smith_config.specs.declared.config.Config.{Config}
use Rattle.wasm_smith_config.specs.declared.instruction_kinds.InstructionKinds.{InstructionKinds}
use Rattle.wasm_smith_config.specs.declared.memory_offset_choices.MemoryOffsetChoices.{MemoryOffsetChoices}
use Rattle.wasm_gen_config.specs.declared.bad_key.Takes.{Takes}
use Rattle.wasm_gen_config.specs.declared.bad_key.Takes.TheVariants.{Boolean, NumberTo, Kinds, Weights}

-- a field: its name, and its value in a configuration
pub record Field (V : Type 0) : Type 0 where
  pub name : List ℕ
  pub value : Config → V

abbrev pub field : {V : Type 0} → List ℕ → (Config → V) → Field V
field name value = record { name = name; value = value }

-- the switches
abbrev pub switches : List (Field Bool)
switches =
    field (codes "allow_floats") (λ c. c.allow_floats) ∷
    field (codes "allow_invalid_funcs") (λ c. c.allow_invalid_funcs) ∷
    field (codes "allow_start_export") (λ c. c.allow_start_export) ∷
    field (codes "bulk_memory_enabled") (λ c. c.bulk_memory_enabled) ∷
    field (codes "canonicalize_nans") (λ c. c.canonicalize_nans) ∷
    field (codes "compact_imports_enabled") (λ c. c.compact_imports_enabled) ∷
    field (codes "custom_page_sizes_enabled") (λ c. c.custom_page_sizes_enabled) ∷
    field (codes "disallow_traps") (λ c. c.disallow_traps) ∷
    field (codes "exceptions_enabled") (λ c. c.exceptions_enabled) ∷
    field (codes "export_everything") (λ c. c.export_everything) ∷
    field (codes "extended_const_enabled") (λ c. c.extended_const_enabled) ∷
    field (codes "gc_enabled") (λ c. c.gc_enabled) ∷
    field (codes "generate_custom_sections") (λ c. c.generate_custom_sections) ∷
    field (codes "memory64_enabled") (λ c. c.memory64_enabled) ∷
    field (codes "memory_max_size_required") (λ c. c.memory_max_size_required) ∷
    field (codes "multi_value_enabled") (λ c. c.multi_value_enabled) ∷
    field (codes "reference_types_enabled") (λ c. c.reference_types_enabled) ∷
    field (codes "relaxed_simd_enabled") (λ c. c.relaxed_simd_enabled) ∷
    field (codes "saturating_float_to_int_enabled") (λ c. c.saturating_float_to_int_enabled) ∷
    field (codes "sign_extension_ops_enabled") (λ c. c.sign_extension_ops_enabled) ∷
    field (codes "simd_enabled") (λ c. c.simd_enabled) ∷
    field (codes "stack_switching_enabled") (λ c. c.stack_switching_enabled) ∷
    field (codes "table_max_size_required") (λ c. c.table_max_size_required) ∷
    field (codes "tail_call_enabled") (λ c. c.tail_call_enabled) ∷
    field (codes "threads_enabled") (λ c. c.threads_enabled) ∷
    field (codes "wide_arithmetic_enabled") (λ c. c.wide_arithmetic_enabled) ∷ []

-- the numbers of 32 bits
abbrev pub counts : List (Field ℕ)
counts =
    field (codes "min_types") (λ c. c.min_types) ∷
    field (codes "max_types") (λ c. c.max_types) ∷
    field (codes "min_imports") (λ c. c.min_imports) ∷
    field (codes "max_imports") (λ c. c.max_imports) ∷
    field (codes "min_tags") (λ c. c.min_tags) ∷
    field (codes "max_tags") (λ c. c.max_tags) ∷
    field (codes "min_funcs") (λ c. c.min_funcs) ∷
    field (codes "max_funcs") (λ c. c.max_funcs) ∷
    field (codes "min_globals") (λ c. c.min_globals) ∷
    field (codes "max_globals") (λ c. c.max_globals) ∷
    field (codes "min_exports") (λ c. c.min_exports) ∷
    field (codes "max_exports") (λ c. c.max_exports) ∷
    field (codes "min_element_segments") (λ c. c.min_element_segments) ∷
    field (codes "max_element_segments") (λ c. c.max_element_segments) ∷
    field (codes "min_elements") (λ c. c.min_elements) ∷
    field (codes "max_elements") (λ c. c.max_elements) ∷
    field (codes "min_data_segments") (λ c. c.min_data_segments) ∷
    field (codes "max_data_segments") (λ c. c.max_data_segments) ∷
    field (codes "min_tables") (λ c. c.min_tables) ∷
    field (codes "max_tables") (λ c. c.max_tables) ∷
    field (codes "min_memories") (λ c. c.min_memories) ∷
    field (codes "max_memories") (λ c. c.max_memories) ∷
    field (codes "max_instructions") (λ c. c.max_instructions) ∷
    field (codes "max_type_size") (λ c. c.max_type_size) ∷ []

-- the numbers of 64 bits
abbrev pub sizes : List (Field ℕ)
sizes =
    field (codes "max_table_elements") (λ c. c.max_table_elements) ∷
    field (codes "max_memory32_bytes") (λ c. c.max_memory32_bytes) ∷ []

-- the number of 128 bits
abbrev pub wide_sizes : List (Field ℕ)
wide_sizes =
    field (codes "max_memory64_bytes") (λ c. c.max_memory64_bytes) ∷ []

-- the kinds of instructions
abbrev pub kinds : List (Field InstructionKinds)
kinds = field (codes "allowed_instructions") (λ c. c.allowed_instructions) ∷ []

-- the weights of offsets
abbrev pub weights : List (Field MemoryOffsetChoices)
weights = field (codes "memory_offset_choices") (λ c. c.memory_offset_choices) ∷ []

-- the largest number of so many bits
abbrev pub largest : ℕ → ℕ
largest bits = 2 ^ bits - 1

-- the names of fields
abbrev pub names : {V : Type 0} → List (Field V) → List (List ℕ)
names fields = map (λ f. f.name) fields

-- true if a key is among names
unfoldable pub is_in : List ℕ → List (List ℕ) → Bool
is_in key all = list_any (λ name. bytes_eq name key) all

-- names, each beside the values that a field of this name takes
abbrev pub each_takes : Takes → List (List ℕ) → List (List ℕ × Takes)
each_takes what all = map (λ name. (name, what)) all

-- each name that a key may be, beside the values that its field takes
unfoldable pub known : List (List ℕ × Takes)
known =
    each_takes Boolean (names switches) ++ (each_takes (NumberTo (largest 32)) (names counts) ++ (each_takes (NumberTo (largest 64)) (names sizes) ++
    (each_takes (NumberTo (largest 128)) (names wide_sizes) ++ (each_takes Kinds (names kinds) ++ each_takes Weights (names weights)))))

-- the values that the field of a key takes, if there is one
unfoldable pub takes : List ℕ → Option Takes
takes key = option_map (λ entry. entry.1) (find (λ entry. bytes_eq entry.0 key) known)
