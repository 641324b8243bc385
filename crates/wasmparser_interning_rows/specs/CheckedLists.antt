-- What is known of a list whose calls test what they ask for.
use Rattle.std.specs.Prelude.{◌≡◌, Bool, true, IsSome}
use Rattle.wasmparser_type_list.specs.TypeTables.{TablesAgree, TypeTables}

-- its tables agree, and it grows on where it says so
pub record IsChecked (tables : TypeTables) (grows : Bool) : Type 0 where
  pub agree : TablesAgree tables
  pub grows_on : grows ≡ true → IsSome tables.known
