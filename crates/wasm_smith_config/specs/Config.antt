-- Configurations: how they are put in order, which of them are allowed, and which features their modules may use.
use Rattle.std.specs.Prelude.{◌≡◌, ℕ, Bool, true, ◌&&◌, ◌||◌, ◌^◌, List, [], ◌∷◌, ◌++◌, All, Any, IsTrue, IsFalse, min, nat_lt, if◌then◌else◌, codes, is_some}
use Rattle.wasm_spec.specs.Features.{Features, Flag, MutableGlobal, SaturatingFloatToInt, SignExtension, ReferenceTypes, MultiValue, BulkMemory, Simd, RelaxedSimd, Threads, TailCall, Floats, MultiMemory, Exceptions, Memory64, ExtendedConst, FunctionReferences, Gc, GcTypes, CustomPageSizes, CompactImports, WideArithmetic, StackSwitching, has}
use Rattle.wasm_smith_config.specs.declared.config.Config.{Config}
use Rattle.wasm_smith_unstructured.specs.declared.error.Error.{Error}
use Rattle.wasm_smith_unstructured.specs.declared.error.Error.TheVariants.{IncorrectFormat, EmptyChoose, NotEnoughData, BadConfig, BadShape, TypeSize, Memory, TooLong}

-- A field that needs one that is off is off too: relaxed vectors without vectors, garbage collection and a second table without
-- reference types.
abbrev pub sanitized : Config → Config
sanitized c = record c {
  relaxed_simd_enabled = c.relaxed_simd_enabled && c.simd_enabled;
  gc_enabled = c.gc_enabled && c.reference_types_enabled;
  max_tables = if c.reference_types_enabled then c.max_tables else min c.max_tables 1;
}

-- what can be on or off
abbrev pub booleans : Config → List Bool
booleans c =
    c.allow_floats ∷ c.allow_invalid_funcs ∷ c.allow_start_export ∷ c.bulk_memory_enabled ∷ c.canonicalize_nans ∷ c.compact_imports_enabled ∷
    c.custom_page_sizes_enabled ∷ c.disallow_traps ∷ c.exceptions_enabled ∷ c.export_everything ∷ c.extended_const_enabled ∷ c.gc_enabled ∷
    c.generate_custom_sections ∷ c.memory64_enabled ∷ c.memory_max_size_required ∷ c.multi_value_enabled ∷ c.reference_types_enabled ∷
    c.relaxed_simd_enabled ∷ c.saturating_float_to_int_enabled ∷ c.sign_extension_ops_enabled ∷ c.simd_enabled ∷ c.stack_switching_enabled ∷
    c.table_max_size_required ∷ c.tail_call_enabled ∷ c.threads_enabled ∷ c.wide_arithmetic_enabled ∷ []

-- what something is at most
abbrev pub upper_limits : Config → List ℕ
upper_limits c =
    c.max_types ∷ c.max_imports ∷ c.max_tags ∷ c.max_funcs ∷ c.max_globals ∷ c.max_exports ∷ c.max_element_segments ∷ c.max_elements ∷
    c.max_data_segments ∷ c.max_tables ∷ c.max_memories ∷ c.max_instructions ∷ c.max_type_size ∷ c.max_table_elements ∷
    c.max_memory32_bytes ∷ c.max_memory64_bytes ∷ []

-- whether a flag is among the features of the modules that are made
abbrev pub is_on : Config → Flag → Bool
is_on c MutableGlobal = true
is_on c SaturatingFloatToInt = c.saturating_float_to_int_enabled
is_on c SignExtension = c.sign_extension_ops_enabled
is_on c ReferenceTypes = c.reference_types_enabled
is_on c MultiValue = c.multi_value_enabled
is_on c BulkMemory = c.bulk_memory_enabled
is_on c Simd = c.simd_enabled
is_on c RelaxedSimd = c.relaxed_simd_enabled
is_on c Threads = c.threads_enabled
is_on c TailCall = c.tail_call_enabled
is_on c Floats = true
is_on c MultiMemory = nat_lt 1 c.max_memories
is_on c Exceptions = c.exceptions_enabled
is_on c Memory64 = c.memory64_enabled
is_on c ExtendedConst = c.extended_const_enabled
is_on c FunctionReferences = c.gc_enabled
is_on c Gc = c.gc_enabled
is_on c GcTypes = true
is_on c CustomPageSizes = c.custom_page_sizes_enabled
is_on c CompactImports = c.compact_imports_enabled
is_on c WideArithmetic = c.wide_arithmetic_enabled
is_on c StackSwitching = c.stack_switching_enabled

-- these are the features of the modules that are made
abbrev pub AreFeaturesOf : Config → Features → Type 0
AreFeaturesOf c features = (flag : Flag) → has features flag ≡ is_on c flag

-- a field, and whether its value is not allowed
pub record Field : Type 0 where
  pub name : List ℕ
  pub is_bad : Bool

-- a minimum is at most its maximum
abbrev pub at_least : List ℕ → ℕ → ℕ → Field
at_least name minimum maximum = record { name = name; is_bad = nat_lt maximum minimum }

-- a number is at most so large
abbrev pub at_most : List ℕ → ℕ → ℕ → Field
at_most name most n = record { name = name; is_bad = nat_lt most n }

-- each minimum, beside its maximum
abbrev pub minimums : Config → List Field
minimums c =
    at_least (codes "min_types") c.min_types c.max_types ∷
    at_least (codes "min_imports") c.min_imports c.max_imports ∷
    at_least (codes "min_tags") c.min_tags c.max_tags ∷
    at_least (codes "min_funcs") c.min_funcs c.max_funcs ∷
    at_least (codes "min_globals") c.min_globals c.max_globals ∷
    at_least (codes "min_exports") c.min_exports c.max_exports ∷
    at_least (codes "min_element_segments") c.min_element_segments c.max_element_segments ∷
    at_least (codes "min_elements") c.min_elements c.max_elements ∷
    at_least (codes "min_data_segments") c.min_data_segments c.max_data_segments ∷
    at_least (codes "min_tables") c.min_tables c.max_tables ∷
    at_least (codes "min_memories") c.min_memories c.max_memories ∷ []

-- Each maximum, beside what it is at most. Of `max_table_elements` nothing is asked.
abbrev pub maximums : Config → List Field
maximums c =
    at_most (codes "max_types") (2 ^ 31) c.max_types ∷
    at_most (codes "max_imports") (2 ^ 31) c.max_imports ∷
    at_most (codes "max_tags") (2 ^ 31) c.max_tags ∷
    at_most (codes "max_funcs") (2 ^ 31) c.max_funcs ∷
    at_most (codes "max_globals") (2 ^ 31) c.max_globals ∷
    at_most (codes "max_exports") (2 ^ 31) c.max_exports ∷
    at_most (codes "max_element_segments") (2 ^ 31) c.max_element_segments ∷
    at_most (codes "max_elements") (2 ^ 31) c.max_elements ∷
    at_most (codes "max_data_segments") (2 ^ 31) c.max_data_segments ∷
    at_most (codes "max_tables") (2 ^ 31) c.max_tables ∷
    at_most (codes "max_memories") (2 ^ 31) c.max_memories ∷
    at_most (codes "max_instructions") (2 ^ 31) c.max_instructions ∷
    at_most (codes "max_type_size") (2 ^ 31) c.max_type_size ∷
    at_most (codes "max_memory32_bytes") (2 ^ 32) c.max_memory32_bytes ∷
    at_most (codes "max_memory64_bytes") (2 ^ 64) c.max_memory64_bytes ∷ []

-- the shape of a whole module stands alone
abbrev pub shapes : Config → List Field
shapes c = record { name = codes "module_shape"; is_bad = is_some c.module_shape && (is_some c.available_imports || is_some c.exports) } ∷ []

-- the fields of which something is asked, once for each thing that is asked
abbrev pub fields : Config → List Field
fields c = minimums c ++ (maximums c ++ shapes c)

-- no field of a table is bad
abbrev pub AreGood : List Field → Type 0
AreGood table = All (λ field. IsFalse field.is_bad) table

-- a field of this name is in a table, and is bad there
abbrev pub HasBad : List Field → List ℕ → Type 0
HasBad table name = Any (λ field. (field.name ≡ name) × IsTrue field.is_bad) table

-- a configuration from which modules are made: no field is bad
abbrev pub IsGood : Config → Type 0
IsGood c = AreGood (fields c)

-- a field of this name is bad
abbrev pub IsBadField : Config → List ℕ → Type 0
IsBadField c name = HasBad (fields c) name

-- an error that names a field which is bad in a table, and no other error
abbrev pub NamesBad : List Field → Error → Type 0
NamesBad table (BadConfig name) = HasBad table name.now
NamesBad table IncorrectFormat = ⊥
NamesBad table EmptyChoose = ⊥
NamesBad table NotEnoughData = ⊥
NamesBad table (BadShape name) = ⊥
NamesBad table TypeSize = ⊥
NamesBad table Memory = ⊥
NamesBad table TooLong = ⊥

-- an error that names a bad field of a configuration, and no other error
abbrev pub NamesBadField : Config → Error → Type 0
NamesBadField c e = NamesBad (fields c) e
