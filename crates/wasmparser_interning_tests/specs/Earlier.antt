-- Types that are below nothing, or below one earlier type of their own kind, as far as they were tested.
use Rattle.std.specs.Prelude.{◌≡◌, ℕ, ◌<◌, slice_get, Some}
use Rattle.wasm_spec.specs.Types.{SubType}
use Rattle.wasmparser_types.specs.Index.{Index}
use Rattle.wasmparser_type_relations.specs.Chains.{IsBelowEarlier}
use Rattle.wasmparser_type_list.specs.TypeTables.{TypeTables, sub_types}

-- the type with this id, if it is known, is so
abbrev pub IsBelowEarlierAt : TypeTables → ℕ → Type 0
IsBelowEarlierAt tables n = (type : SubType Index) → slice_get (sub_types tables) n ≡ Some type → IsBelowEarlier (slice_get (sub_types tables)) n type

-- those with ids below this number are
abbrev pub AreBelowEarlierTo : TypeTables → ℕ → Type 0
AreBelowEarlierTo tables to = (n : ℕ) → n < to → IsBelowEarlierAt tables n
