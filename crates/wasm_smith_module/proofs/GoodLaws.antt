-- Properties of a good configuration.
use Rattle.std.proofs.Common.{◌≤◌, ◌^◌, [], arith}
use Rattle.std.proofs.lemmas.Bool.{ltb-false}
use Rattle.wasm_smith_config.specs.Config.{IsGood, at_least}
use Rattle.wasm_smith_config.specs.declared.config.Config.{Config}
use Rattle.wasm_smith_definitions.specs.Offered.{HasByteLimits}
use Rattle.wasm_smith_externs.specs.Bounds.{most_of}
use Rattle.wasm_spec.specs.Types.{ExternalKind, FuncKind, TableKind, MemoryKind, GlobalKind, TagKind}

pub types_fine : (c : Config) → IsGood c → c.min_types ≤ c.max_types
types_fine c good = ltb-false c.max_types c.min_types (good 0 (at_least [] 0 0) (omega arith))

pub imports_fine : (c : Config) → IsGood c → c.min_imports ≤ c.max_imports
imports_fine c good = ltb-false c.max_imports c.min_imports (good 1 (at_least [] 0 0) (omega arith))

pub tags_fine : (c : Config) → IsGood c → c.min_tags ≤ c.max_tags
tags_fine c good = ltb-false c.max_tags c.min_tags (good 2 (at_least [] 0 0) (omega arith))

pub funcs_fine : (c : Config) → IsGood c → c.min_funcs ≤ c.max_funcs
funcs_fine c good = ltb-false c.max_funcs c.min_funcs (good 3 (at_least [] 0 0) (omega arith))

pub globals_fine : (c : Config) → IsGood c → c.min_globals ≤ c.max_globals
globals_fine c good = ltb-false c.max_globals c.min_globals (good 4 (at_least [] 0 0) (omega arith))

pub exports_fine : (c : Config) → IsGood c → c.min_exports ≤ c.max_exports
exports_fine c good = ltb-false c.max_exports c.min_exports (good 5 (at_least [] 0 0) (omega arith))

pub element_segments_fine : (c : Config) → IsGood c → c.min_element_segments ≤ c.max_element_segments
element_segments_fine c good = ltb-false c.max_element_segments c.min_element_segments (good 6 (at_least [] 0 0) (omega arith))

pub elements_fine : (c : Config) → IsGood c → c.min_elements ≤ c.max_elements
elements_fine c good = ltb-false c.max_elements c.min_elements (good 7 (at_least [] 0 0) (omega arith))

pub data_segments_fine : (c : Config) → IsGood c → c.min_data_segments ≤ c.max_data_segments
data_segments_fine c good = ltb-false c.max_data_segments c.min_data_segments (good 8 (at_least [] 0 0) (omega arith))

pub tables_fine : (c : Config) → IsGood c → c.min_tables ≤ c.max_tables
tables_fine c good = ltb-false c.max_tables c.min_tables (good 9 (at_least [] 0 0) (omega arith))

pub memories_fine : (c : Config) → IsGood c → c.min_memories ≤ c.max_memories
memories_fine c good = ltb-false c.max_memories c.min_memories (good 10 (at_least [] 0 0) (omega arith))

pub types_small : (c : Config) → IsGood c → c.max_types ≤ 2 ^ 31
types_small c good = ltb-false (2 ^ 31) c.max_types (good 11 (at_least [] 0 0) (omega arith))

pub tags_small : (c : Config) → IsGood c → c.max_tags ≤ 2 ^ 31
tags_small c good = ltb-false (2 ^ 31) c.max_tags (good 13 (at_least [] 0 0) (omega arith))

pub funcs_small : (c : Config) → IsGood c → c.max_funcs ≤ 2 ^ 31
funcs_small c good = ltb-false (2 ^ 31) c.max_funcs (good 14 (at_least [] 0 0) (omega arith))

-- the most items of each kind
pub most_small : (c : Config) → IsGood c → (kind : ExternalKind) → most_of c kind ≤ 2 ^ 31
most_small c good FuncKind = funcs_small c good
most_small c good TableKind = ltb-false (2 ^ 31) c.max_tables (good 20 (at_least [] 0 0) (omega arith))
most_small c good MemoryKind = ltb-false (2 ^ 31) c.max_memories (good 21 (at_least [] 0 0) (omega arith))
most_small c good GlobalKind = ltb-false (2 ^ 31) c.max_globals (good 15 (at_least [] 0 0) (omega arith))
most_small c good TagKind = tags_small c good

pub byte_limits : (c : Config) → IsGood c → HasByteLimits c
byte_limits c good = record {
  bytes_32 = ltb-false (2 ^ 32) c.max_memory32_bytes (good 24 (at_least [] 0 0) (omega arith));
  bytes_64 = ltb-false (2 ^ 64) c.max_memory64_bytes (good 25 (at_least [] 0 0) (omega arith));
}
