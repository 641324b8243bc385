-- How large the types of exported items are.
use Rattle.std.specs.Prelude.{ℕ, List, slice_get}
use Rattle.std.specs.List.{sum_by}
use Rattle.std.specs.Option.{option_and_then}
use Rattle.wasm_spec.specs.Syntax.{Export}
use Rattle.wasm_spec.specs.Types.{SubType, ExternalKind, FuncKind, TableKind, MemoryKind, GlobalKind, TagKind}
use Rattle.wasm_smith_definitions.specs.FunctionTypes.{func_size}
use Rattle.wasm_smith_validity.specs.Spaces.{Spaces, functions_of, func_type_at}

-- the size of the type of an item, with the type indexes of all functions and tags
abbrev pub item_size : List (SubType ℕ) → List ℕ → List ℕ → ExternalKind → ℕ → ℕ
item_size types functions tags FuncKind index = func_size (option_and_then (func_type_at types) (slice_get functions index))
item_size types functions tags TableKind index = 1
item_size types functions tags MemoryKind index = 1
item_size types functions tags GlobalKind index = 1
item_size types functions tags TagKind index = func_size (option_and_then (func_type_at types) (slice_get tags index))

-- the size of the types of all exports
abbrev pub exports_size : Spaces → ℕ
exports_size k = sum_by (λ (export : Export). item_size k.types (functions_of k) k.tags export.kind export.index) k.exports
