-- A list of types that counts how often it lent a chain.
use Rattle.std.specs.Prelude.{ℕ}
use Rattle.wasmparser_type_list.specs.TypeTables.{TypeTables}

pub record CountedReads : Type 0 where
  pub tables : TypeTables
  pub reads : ℕ
