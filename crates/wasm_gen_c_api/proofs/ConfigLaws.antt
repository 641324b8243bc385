-- The default configuration, and what follows of it.
use Rattle.std.proofs.Common.{◌≡◌, ◌^◌, ℕ, zero, suc, Bool, true, false, not, IsFalse, List, [], ◌∷◌, Option, None, replicate, refl, sym, ap, subst, ◌∙◌}
use Rattle.std.specs.List.{list_all}
use Rattle.std.proofs.lemmas.List.Sums.{AllPass-from_list_all}
use Rattle.wasm_spec.specs.Features.{MutableGlobal, SaturatingFloatToInt, SignExtension, ReferenceTypes, MultiValue, BulkMemory, Simd, RelaxedSimd, Threads, TailCall, Floats, MultiMemory, Exceptions, Memory64, ExtendedConst, FunctionReferences, Gc, GcTypes, CustomPageSizes, CompactImports, WideArithmetic, StackSwitching}
use Rattle.wasm_smith.specs.Config.{AreFeaturesOf, AreGood, Field, fields, sanitized}
use Rattle.wasm_smith.specs.Defaults.{IsDefault, least_counts, largest_counts, off_by_default, on_by_default}
use Rattle.wasm_smith.specs.Family.{IsAskable}
use Rattle.wasm_smith.specs.Instructions.{all_kinds}
use Rattle.wasm_smith.specs.Offsets.{default_choices}
use Rattle.wasm_smith.specs.Parts.{Config, InstructionKinds, MemoryOffsetChoices}
use Rattle.wasm_smith_shapes.specs.Shapes.{ShapeValue}
use Rattle.wasm_gen_c_api.specs.Generate.{generated_features}

-- the flag at a place
flag_at : List Bool → ℕ → Bool
flag_at [] place = false
flag_at (flag ∷ flags) zero = flag
flag_at (flag ∷ flags) (suc place) = flag_at flags place

-- the number at a place
number_at : List ℕ → ℕ → ℕ
number_at [] place = 0
number_at (number ∷ numbers) zero = number
number_at (number ∷ numbers) (suc place) = number_at numbers place

-- the configuration whose fields stand in these lists, in the order of the default's
config_of : (on off : List Bool) (least largest : List ℕ) (tables memories type_size table_elements memory32_bytes memory64_bytes : ℕ) (instructions : InstructionKinds) (offsets : MemoryOffsetChoices)
    (module_shape available_imports exports : Option ShapeValue) → Config
config_of on off least largest tables memories type_size table_elements memory32_bytes memory64_bytes instructions offsets module_shape available_imports exports = record {
  allow_floats = flag_at on 0;
  allow_start_export = flag_at on 1;
  bulk_memory_enabled = flag_at on 2;
  exceptions_enabled = flag_at on 3;
  extended_const_enabled = flag_at on 4;
  gc_enabled = flag_at on 5;
  memory64_enabled = flag_at on 6;
  multi_value_enabled = flag_at on 7;
  reference_types_enabled = flag_at on 8;
  relaxed_simd_enabled = flag_at on 9;
  saturating_float_to_int_enabled = flag_at on 10;
  sign_extension_ops_enabled = flag_at on 11;
  simd_enabled = flag_at on 12;
  tail_call_enabled = flag_at on 13;
  allow_invalid_funcs = flag_at off 0;
  canonicalize_nans = flag_at off 1;
  compact_imports_enabled = flag_at off 2;
  custom_page_sizes_enabled = flag_at off 3;
  disallow_traps = flag_at off 4;
  export_everything = flag_at off 5;
  generate_custom_sections = flag_at off 6;
  memory_max_size_required = flag_at off 7;
  stack_switching_enabled = flag_at off 8;
  table_max_size_required = flag_at off 9;
  threads_enabled = flag_at off 10;
  wide_arithmetic_enabled = flag_at off 11;
  min_types = number_at least 0;
  min_imports = number_at least 1;
  min_tags = number_at least 2;
  min_funcs = number_at least 3;
  min_globals = number_at least 4;
  min_exports = number_at least 5;
  min_element_segments = number_at least 6;
  min_elements = number_at least 7;
  min_data_segments = number_at least 8;
  min_tables = number_at least 9;
  min_memories = number_at least 10;
  max_types = number_at largest 0;
  max_imports = number_at largest 1;
  max_tags = number_at largest 2;
  max_funcs = number_at largest 3;
  max_globals = number_at largest 4;
  max_exports = number_at largest 5;
  max_element_segments = number_at largest 6;
  max_elements = number_at largest 7;
  max_data_segments = number_at largest 8;
  max_instructions = number_at largest 9;
  max_tables = tables;
  max_memories = memories;
  max_type_size = type_size;
  max_table_elements = table_elements;
  max_memory32_bytes = memory32_bytes;
  max_memory64_bytes = memory64_bytes;
  allowed_instructions = instructions;
  memory_offset_choices = offsets;
  module_shape = module_shape;
  available_imports = available_imports;
  exports = exports;
}

-- the default one
pub default : Config
default = config_of (replicate 14 true) (replicate 12 false) (replicate 11 0) (replicate 10 100) 1 1 1000 1000000 (2 ^ 32) (2 ^ 64) all_kinds default_choices None None None

is_told : (d : Config) → d ≡ config_of (on_by_default d) (off_by_default d) (least_counts d) (largest_counts d) d.max_tables d.max_memories d.max_type_size d.max_table_elements d.max_memory32_bytes d.max_memory64_bytes d.allowed_instructions d.memory_offset_choices d.module_shape d.available_imports d.exports
unfolding config_of flag_at number_at
is_told d = refl

pub is_default : (d : Config) → IsDefault d → d ≡ default
unfolding default
is_default d is = is_told d ∙ rw (is.on, is.off, is.least, is.largest, is.tables, is.memories, is.type_size, is.table_elements, is.memory32_bytes, is.memory64_bytes, is.instructions, is.offsets, is.no_module_shape, is.no_available_imports, is.no_exports) refl

-- the same put in order
made : Config
made = sanitized default

flags : AreFeaturesOf made generated_features
unfolding made default config_of flag_at number_at
flags MutableGlobal = refl
flags SaturatingFloatToInt = refl
flags SignExtension = refl
flags ReferenceTypes = refl
flags MultiValue = refl
flags BulkMemory = refl
flags Simd = refl
flags RelaxedSimd = refl
flags Threads = refl
flags TailCall = refl
flags Floats = refl
flags MultiMemory = refl
flags Exceptions = refl
flags Memory64 = refl
flags ExtendedConst = refl
flags FunctionReferences = refl
flags Gc = refl
flags GcTypes = refl
flags CustomPageSizes = refl
flags CompactImports = refl
flags WideArithmetic = refl
flags StackSwitching = refl

untrue : (b : Bool) → not b ≡ true → IsFalse b
untrue false is = refl
untrue true is = sym is

are_good : (table : List Field) → list_all (λ field. not field.is_bad) table ≡ true → AreGood table
are_good table is k d within = untrue _ (AllPass-from_list_all (λ (field : Field). not field.is_bad) table is k d within)

askable : IsAskable made
unfolding made default config_of flag_at number_at
askable = record {
  good = are_good (fields made) refl;
  nothing_owed = (refl, (refl, (refl, (refl, (refl, (refl, (refl, (refl, (refl, (refl, (refl, tt)))))))))));
  no_exports = refl;
  no_shapes = refl;
}

is_made : (c : Config) → IsDefault c → sanitized c ≡ made
unfolding made
is_made c is = ap sanitized (is_default c is)

-- these are the features under which its modules are valid
pub are_generated : (c : Config) → IsDefault c → AreFeaturesOf (sanitized c) generated_features
are_generated c is = subst (λ d. AreFeaturesOf d generated_features) (sym (is_made c is)) flags

-- lists of types and functions can be asked for with it
pub is_askable : (c : Config) → IsDefault c → IsAskable (sanitized c)
is_askable c is = subst IsAskable (sym (is_made c is)) askable
