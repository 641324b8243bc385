-- What is known of a type section whose calls test what they ask for.
use Rattle.std.specs.Prelude.{ℕ, List, IsSome, slice_get}
use Rattle.wasmparser_type_relations.specs.Chains.{AreBelowEarlier}
use Rattle.wasmparser_type_list.specs.TypeTables.{TablesAgree, TypeTables, sub_types}
use Rattle.wasmparser_rec_groups.specs.Interning.{AreKnown}

-- a list that grows on, whose tables agree and whose types are below earlier ones, knows the ids of the section's types
pub record IsChecked (tables : TypeTables) (ids : List ℕ) : Type 0 where
  pub agree : TablesAgree tables
  pub grows : IsSome tables.known
  pub earlier : AreBelowEarlier (slice_get (sub_types tables))
  pub known : AreKnown tables ids
