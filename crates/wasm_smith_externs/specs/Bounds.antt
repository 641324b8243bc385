-- How many items imports may come to where they are drawn.
use Rattle.std.specs.Prelude.{ℕ, ◌+◌, ◌-◌, ◌≤◌, List, length}
use Rattle.std.specs.List.{sum_by}
use Rattle.wasm_spec.specs.Types.{SubType, ExternalKind, FuncKind, TableKind, MemoryKind, GlobalKind, TagKind}
use Rattle.wasm_smith_config.specs.declared.config.Config.{Config}
use Rattle.wasm_smith_definitions.specs.FunctionTypes.{func_size}
use Rattle.wasm_smith_definitions.specs.OwnItems.{OwnValue}
use Rattle.wasm_smith_validity.specs.Spaces.{func_type_at}
use Rattle.wasm_smith_externs.specs.declared.bounds.ImportBounds.{ImportBounds}

-- the most items of a kind that a configuration allows
abbrev pub most_of : Config → ExternalKind → ℕ
most_of c FuncKind = c.max_funcs
most_of c TableKind = c.max_tables
most_of c MemoryKind = c.max_memories
most_of c GlobalKind = c.max_globals
most_of c TagKind = c.max_tags

-- the most items of a kind that imports come to
abbrev pub most_in : ImportBounds → ExternalKind → ℕ
most_in b FuncKind = b.functions
most_in b TableKind = b.tables
most_in b MemoryKind = b.memories
most_in b GlobalKind = b.globals
most_in b TagKind = b.tags

-- the size of the types of functions or tags
abbrev pub types_size : List (SubType ℕ) → List ℕ → ℕ
types_size types indexes = sum_by (λ index. func_size (func_type_at types index)) indexes

-- the size of the types of items: that of a table, a memory or a global counts 1
abbrev pub own_size : List (SubType ℕ) → OwnValue → ℕ
own_size types own = types_size types own.functions + (types_size types own.tags + (length own.tables + (length own.memories + length own.globals)))

-- what the configuration allows beside such items of the module's own
abbrev pub beside : Config → List (SubType ℕ) → OwnValue → ImportBounds
beside c types own = record {
  functions = c.max_funcs - length own.functions;
  tables = c.max_tables - length own.tables;
  memories = c.max_memories - length own.memories;
  globals = c.max_globals - length own.globals;
  tags = c.max_tags - length own.tags;
  type_size = c.max_type_size - own_size types own;
}

-- The bounds are at most the configuration's.
pub record AreWithin (c : Config) (b : ImportBounds) : Type 0 where
  pub items : (kind : ExternalKind) → most_in b kind ≤ most_of c kind
  pub size : b.type_size ≤ c.max_type_size
