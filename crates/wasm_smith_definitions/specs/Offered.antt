-- The types of the items that are drawn for a configuration.
use Rattle.std.specs.Prelude.{◌≡◌, ℕ, ◌-◌, ◌/◌, ◌^◌, ◌≤◌, Bool, true, false, min, nat_eq, Option, Some, None, is_some, if◌then◌else◌}
use Rattle.wasm_spec.specs.Features.{Features}
use Rattle.wasm_spec.specs.Types.{ValType, Ref, RefType, TableType, MemoryType}
use Rattle.wasm_validity.specs.Rules.{value_of}
use Rattle.wasm_validity.specs.TypeRules.{is_page_size, is_funcref}
use Rattle.wasm_smith_config.specs.Config.{AreFeaturesOf}
use Rattle.wasm_smith_config.specs.declared.config.Config.{Config}
use Rattle.wasm_smith_types.specs.Drawing.{Offers}
use Rattle.wasm_smith_types.specs.Offering.{offers}
use Rattle.wasm_smith_types.specs.Permitted.{IsPermittedValue}
use Rattle.wasm_smith_definitions.specs.Constants.{has_plain}

-- a minimum and perhaps a maximum, at most this
pub record AreBoundsWithin (cap : ℕ) (minimum : ℕ) (maximum : Option ℕ) : Type 0 where
  pub ordered : minimum ≤ cap
  pub above : (m : ℕ) → maximum ≡ Some m → (minimum ≤ m) × (m ≤ cap)

-- ---- memories

-- pages of one byte, or else of 2 ^ 16
abbrev pub page_bytes : Option ℕ → ℕ
page_bytes None = 2 ^ 16
page_bytes (Some size) = if nat_eq size 0 then 1 else 2 ^ 16

-- the most pages that the bounds of a memory state
abbrev pub most_pages_for : Config → Bool → Option ℕ → ℕ
most_pages_for c is_64 size =
    if is_64 then min (c.max_memory64_bytes / page_bytes size) (2 ^ 64 - 1) else min (c.max_memory32_bytes / page_bytes size) (2 ^ 32 - 1)

-- The type of a memory has nothing that the configuration disables, and its size stays within the limits of bytes.
pub record IsOfferedMemory (c : Config) (type : MemoryType) : Type 0 where
  pub is_64 : type.is_64 ≡ true → c.memory64_enabled ≡ true
  pub shared : type.shared ≡ true → c.threads_enabled ≡ true
  pub shared_maximum : type.shared ≡ true → is_some type.maximum ≡ true
  pub sized : is_some type.page_size_log2 ≡ true → c.custom_page_sizes_enabled ≡ true
  pub size : is_page_size type.page_size_log2 ≡ true
  pub bounds : AreBoundsWithin (most_pages_for c type.is_64 type.page_size_log2) type.minimum type.maximum
  pub required : c.memory_max_size_required ≡ true → is_some type.maximum ≡ true

-- asked of a configuration: its limits of bytes are at most what memories can have
pub record HasByteLimits (c : Config) : Type 0 where
  pub bytes_32 : c.max_memory32_bytes ≤ 2 ^ 32
  pub bytes_64 : c.max_memory64_bytes ≤ 2 ^ 64

-- ---- value types

-- the offers are those of the configuration
abbrev pub AreOffersOf : Config → Offers → Type 0
AreOffersOf c o = o ≡ offers c

-- a value type is permitted under the features of a configuration, where there are so many types
abbrev pub IsPermittedFor : Config → ℕ → ValType ℕ → Type 0
IsPermittedFor c count type = (features : Features) → AreFeaturesOf c features → IsPermittedValue features count type

-- a reference may be null
abbrev pub with_null : ValType ℕ → ValType ℕ
with_null (Ref nullable heap) = Ref true heap
with_null type = type

-- The type of a global's value is permitted, and a reference may be null.
pub record IsOfferedValue (c : Config) (count : ℕ) (type : ValType ℕ) : Type 0 where
  pub permitted : IsPermittedFor c count type
  pub plain : has_plain type ≡ true

-- ---- tables

-- the most elements that the bounds of a table state
abbrev pub most_elements_for : Config → Bool → ℕ
most_elements_for c is_64 = if is_64 then min c.max_table_elements (2 ^ 64 - 1) else min c.max_table_elements (2 ^ 32 - 1)

-- The elements of a table are references that may be null: to functions alone where references are no values.
pub record IsOfferedElement (c : Config) (count : ℕ) (type : RefType ℕ) : Type 0 where
  pub nullable : type.nullable ≡ true
  pub permitted : c.reference_types_enabled ≡ true → IsPermittedFor c count (value_of type)
  pub only_functions : c.reference_types_enabled ≡ false → is_funcref type ≡ true

-- The type of a table has nothing that the configuration disables, and its size stays within the limit of elements.
pub record IsOfferedTable (c : Config) (count : ℕ) (type : TableType ℕ) : Type 0 where
  pub element : IsOfferedElement c count type.element_type
  pub is_64 : type.limits.is_64 ≡ true → c.memory64_enabled ≡ true
  pub bounds : AreBoundsWithin (most_elements_for c type.limits.is_64) type.limits.minimum type.limits.maximum
  pub required : c.table_max_size_required ≡ true → is_some type.limits.maximum ≡ true

-- asked of a configuration: several tables, and garbage collection, come with reference types
pub record HasFewTables (c : Config) : Type 0 where
  pub one : c.reference_types_enabled ≡ false → c.max_tables ≤ 1
  pub references : c.gc_enabled ≡ true → c.reference_types_enabled ≡ true
