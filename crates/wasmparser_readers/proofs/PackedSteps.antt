-- Forms with packed indexes that their first byte announces.
use Rattle.std.proofs.Common.{◌≡◌, ℕ, List, Some, None}
use Rattle.wasm_core_read.specs.Reading.{byte_at}
use Rattle.wasmparser_readers.specs.PackedItems.{packed_table_from, packed_table_at, packed_external_from, packed_external_at}
use Rattle.wasmparser_readers.proofs.ItemSteps.{no_code, after}

pub no_table : (bytes : List ℕ) → byte_at bytes ≡ None → packed_table_at bytes ≡ None
unfolding packed_table_at
no_table bytes e = no_code _ bytes e

pub table_after : (bytes : List ℕ) (b : ℕ) (rest : List ℕ) → byte_at bytes ≡ Some (b, rest) → packed_table_at bytes ≡ packed_table_from b rest
unfolding packed_table_at
table_after bytes b rest e = after _ bytes b rest e

pub ruleset table_steps = (no_table, table_after)

pub no_external : (bytes : List ℕ) → byte_at bytes ≡ None → packed_external_at bytes ≡ None
unfolding packed_external_at
no_external bytes e = no_code _ bytes e

pub external_after : (bytes : List ℕ) (b : ℕ) (rest : List ℕ) → byte_at bytes ≡ Some (b, rest) → packed_external_at bytes ≡ packed_external_from b rest
unfolding packed_external_at
external_after bytes b rest e = after _ bytes b rest e

pub ruleset external_steps = (no_external, external_after)
