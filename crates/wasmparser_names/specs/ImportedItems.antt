-- Items that are imported by the same names.
use Rattle.std.specs.Prelude.{List, [], Option, Some, None}
use Rattle.std.specs.Global.{Box, Vec}
use Rattle.wasmparser_names.specs.declared.imported_items.ImportedItem.{ImportedItem}

-- those after the first
abbrev pub others_in : Option (Box (Vec ImportedItem)) → List ImportedItem
others_in None = []
others_in (Some items) = items.value.items
