-- What the imports of a module are.
use Rattle.std.specs.Prelude.{◌≡◌, true, is_some}
use Rattle.wasm_validity.specs.Context.{Context, item_at}
use Rattle.wasm_validity.specs.ImportedItems.{Imported}

-- the item that an import says is there
abbrev pub IsThere : Context → Imported → Type 0
IsThere cx import = is_some (item_at cx import.kind import.index) ≡ true
