-- When the steps of imports and of tags draw a bool for a first item, where there are these types alone and no item is owed. Nothing is drawn where no item can
-- be made, or where there is no room for one.
use Rattle.std.specs.Prelude.{ℕ, Bool, ◌&&◌, nat_lt, List}
use Rattle.wasm_spec.specs.Types.{SubType}
use Rattle.wasm_smith_config.specs.declared.config.Config.{Config}
use Rattle.wasm_smith_externs.specs.Wanted.{wanted_tags}
use Rattle.wasm_smith_externs.specs.Candidates.{can_import_some}
use Rattle.wasm_smith_externs.specs.declared.bounds.ImportBounds.{ImportBounds}
use Rattle.wasm_smith_validity.specs.Spaces.{spaces_of_types}

-- the bounds on imports, where no shape asks for items of the module's own
abbrev pub full_bounds : Config → ImportBounds
full_bounds c = record {
  functions = c.max_funcs;
  tables = c.max_tables;
  memories = c.max_memories;
  globals = c.max_globals;
  tags = c.max_tags;
  type_size = c.max_type_size;
}

abbrev pub asks_for_import : Config → List (SubType ℕ) → Bool
asks_for_import c types = can_import_some c (full_bounds c) (spaces_of_types types) && nat_lt 0 c.max_imports

abbrev pub asks_for_tag : Config → List (SubType ℕ) → Bool
asks_for_tag c types = (wanted_tags c).can (spaces_of_types types) && nat_lt 0 c.max_tags
