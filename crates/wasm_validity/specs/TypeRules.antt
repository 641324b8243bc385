-- The rules on types of items. Core Specification 3.0, Validation, "Types". Each is asked under a set of features, which the standard doesn't have.
use Rattle.std.specs.Prelude.{◌-◌, ◌^◌, ℕ, Bool, true, false, length, ◌&&◌, ◌||◌, nat_eq, nat_lt, nat_le, Option, Some, None, is_some, if◌then◌else◌}
use Rattle.wasm_spec.specs.Features.{Features, has, Threads, Exceptions, Memory64, CustomPageSizes, StackSwitching}
use Rattle.wasm_spec.specs.Gates.{is_allowed}
use Rattle.wasm_spec.specs.Trees.{DefType}
use Rattle.wasm_spec.specs.Types.{Func, HeapType, Abstract, Concrete, RefType, ValType, Ref, FuncType, Limits, MemoryType, TableType}
use Rattle.wasm_validity.specs.Context.{Context}
use Rattle.wasm_validity.specs.DefinedTypes.{func_type_at}

abbrev pub implies : Bool → Bool → Bool
implies true b = b
implies false b = true

-- a heap type that is an index names a type of the module
abbrev pub is_named : Context → HeapType ℕ → Bool
is_named cx (Abstract heap) = true
is_named cx (Concrete index) = nat_lt index (length cx.types)

abbrev pub is_value : Features → Context → ValType ℕ → Bool
is_value features cx (Ref nullable heap) = is_allowed features (Ref nullable heap) && is_named cx heap
is_value features cx type = is_allowed features type

-- the bounds are in order, and at most this (Types, "Limits")
abbrev pub are_bounds : Limits → ℕ → Bool
are_bounds limits greatest = up_to limits.maximum
  where
    up_to : Option ℕ → Bool
    up_to None = nat_le limits.minimum greatest
    up_to (Some maximum) = nat_le limits.minimum maximum && nat_le maximum greatest

-- The most pages of a memory: together they have 2 ^ 32 bytes, or 2 ^ 64 where addresses have 64 bits, but there are no more than 2 ^ 64 - 1 of them.
abbrev pub most_pages : Bool → Option ℕ → ℕ
most_pages is_64 None = if is_64 then 2 ^ 48 else 2 ^ 16
most_pages is_64 (Some size) = if nat_eq size 0 then (if is_64 then 2 ^ 64 - 1 else 2 ^ 32) else (if is_64 then 2 ^ 48 else 2 ^ 16)

-- a page has 2 ^ 16 bytes, or with the proposal on them also one
abbrev pub is_page_size : Option ℕ → Bool
is_page_size None = true
is_page_size (Some size) = nat_eq size 0 || nat_eq size 16

-- (Types, "Memory Types")
abbrev pub is_memory_type : Features → MemoryType → Bool
is_memory_type features type =
    implies type.is_64 (has features Memory64)
    && (implies type.shared (has features Threads && is_some type.maximum)
    && (implies (is_some type.page_size_log2) (has features CustomPageSizes)
    && (is_page_size type.page_size_log2 && are_bounds type (most_pages type.is_64 type.page_size_log2))))

-- the nullable reference to any function
abbrev pub is_funcref : RefType ℕ → Bool
is_funcref type = type.nullable && is_func type.heap_type
  where
    is_func : HeapType ℕ → Bool
    is_func (Abstract Func) = true
    is_func _ = false

-- What a table holds: a type that is allowed, or references to any function, which are older than reference types.
abbrev pub is_element_type : Features → Context → RefType ℕ → Bool
is_element_type features cx type = (is_funcref type || is_allowed features (Ref type.nullable type.heap_type)) && is_named cx type.heap_type

-- (Types, "Table Types")
abbrev pub is_table_type : Features → Context → TableType ℕ → Bool
is_table_type features cx type =
    is_element_type features cx type.element_type
    && (implies type.limits.is_64 (has features Memory64) && are_bounds type.limits (if type.limits.is_64 then 2 ^ 64 - 1 else 2 ^ 32 - 1))

-- The type of a tag (Types, "Tag Types"): a function type, without results unless continuations are on.
abbrev pub is_tag_type : Features → Context → ℕ → Bool
is_tag_type features cx index = has features Exceptions && may_be_thrown (func_type_at cx.types index)
  where
    may_be_thrown : Option (FuncType DefType) → Bool
    may_be_thrown None = false
    may_be_thrown (Some type) = nat_eq (length type.results) 0 || has features StackSwitching
