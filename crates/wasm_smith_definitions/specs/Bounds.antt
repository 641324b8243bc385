-- The bounds on items of a kind that later items are told of.
use Rattle.std.specs.Prelude.{◌≡◌, true, is_some}
use Rattle.wasm_spec.specs.Syntax.{Table}
use Rattle.wasm_smith_config.specs.declared.config.Config.{Config}
use Rattle.wasm_smith_definitions.specs.Offered.{AreBoundsWithin, most_elements_for}

-- A table of the module's own: its elements may be null, and its size stays within the configuration's limits.
pub record IsBoundedTable (c : Config) (table : Table) : Type 0 where
  pub nullable : table.type.element_type.nullable ≡ true
  pub bounds : AreBoundsWithin (most_elements_for c table.type.limits.is_64) table.type.limits.minimum table.type.limits.maximum
  pub required : c.table_max_size_required ≡ true → is_some table.type.limits.maximum ≡ true
