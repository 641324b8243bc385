-- Entries that their first byte announces.
use Rattle.std.proofs.Common.{◌≡◌, ℕ, List, Some, None}
use Rattle.wasm_core_read.specs.PartReading.{kind_and_items_at}
use Rattle.wasm_core_read.specs.Reading.{byte_at}
use Rattle.wasmparser_entries.specs.PackedEntries.{initialised_from, initialised_at, packed_entry_from, packed_entry_at, marked_from}
use Rattle.wasmparser_readers.proofs.ItemSteps.{no_code, after}

pub none_initialised : (bytes : List ℕ) → byte_at bytes ≡ None → initialised_at bytes ≡ None
unfolding initialised_at
none_initialised bytes e = no_code _ bytes e

pub initialised_after : (bytes : List ℕ) (b : ℕ) (rest : List ℕ) → byte_at bytes ≡ Some (b, rest) → initialised_at bytes ≡ initialised_from b rest
unfolding initialised_at
initialised_after bytes b rest e = after _ bytes b rest e

pub ruleset initialised_steps = (none_initialised, initialised_after)

pub no_table : (bytes : List ℕ) → byte_at bytes ≡ None → packed_entry_at bytes ≡ None
unfolding packed_entry_at
no_table bytes e = no_code _ bytes e

pub table_after : (bytes : List ℕ) (b : ℕ) (rest : List ℕ) → byte_at bytes ≡ Some (b, rest) → packed_entry_at bytes ≡ packed_entry_from b rest
unfolding packed_entry_at
table_after bytes b rest e = after _ bytes b rest e

pub ruleset table_steps = (no_table, table_after)

pub no_kind : (bytes : List ℕ) → byte_at bytes ≡ None → kind_and_items_at bytes ≡ None
no_kind bytes e = no_code marked_from bytes e

pub kind_after : (bytes : List ℕ) (b : ℕ) (rest : List ℕ) → byte_at bytes ≡ Some (b, rest) → kind_and_items_at bytes ≡ marked_from b rest
kind_after bytes b rest e = after marked_from bytes b rest e

pub ruleset marked_steps = (no_kind, kind_after)
