-- Imports by their names.
use Rattle.std.specs.Prelude.{ℕ, List, [], ◌∷◌, ◌++◌, ◌≢◌, ◌<◌, length, map, slice_get, unwrap_or}
use Rattle.std.specs.List.{AllByRecursion}
use Rattle.wasm_validity.specs.ImportedItems.{Imported}
use Rattle.wasmparser_readers.specs.Exports.{external_kind}
use Rattle.wasmparser_names.specs.declared.import_key.ImportKey.{ImportKey}
use Rattle.wasmparser_names.specs.declared.name_hasher.NameHasher.{NameHasher}
use Rattle.wasmparser_names.specs.declared.named_import.NamedImport.{NamedImport}
use Rattle.wasmparser_names.specs.declared.imported_items.ImportedItem.{ImportedItem}

-- an item that is imported by these names
abbrev pub imported : List ℕ → List ℕ → ImportedItem → Imported
imported origin name item = record { origin = origin; name = name; kind = external_kind item.kind; index = item.index }

abbrev pub named_import : NamedImport → Imported
named_import import = imported import.module.now import.name.now import.item

-- the names of modules, which have numbers, the imports, and what the names of modules are hashed by
pub record Kept : Type 0 where
  pub modules : List (List ℕ)
  pub imports : List Imported
  pub hasher : NameHasher

-- the name of the module with this number
abbrev pub module_at : List (List ℕ) → ℕ → List ℕ
module_at modules number = unwrap_or (slice_get modules number) []

-- two names, and what is imported by them
abbrev pub NamedItems : Type 0
NamedItems = ImportKey × List ImportedItem

module _ (modules : List (List ℕ)) where
  -- the imports of two names
  abbrev pub imports_of : NamedItems → List Imported
  imports_of entry = map (imported (module_at modules entry.0.origin) entry.0.name.now) entry.1

  -- those of all names
  abbrev pub imports_in : List NamedItems → List Imported
  imports_in [] = []
  imports_in (entry ∷ entries) = imports_of entry ++ imports_in entries

  -- all names are of modules that are known, and have imports
  abbrev pub AreKept : List NamedItems → Type 0
  AreKept entries = AllByRecursion (λ entry. (entry.0.origin < length modules) × (entry.1 ≢ [])) entries

  -- the imports that are still to come
  abbrev pub imports_left : List ℕ → List ℕ → List ImportedItem → List NamedItems → List Imported
  imports_left origin name items entries = map (imported origin name) items ++ imports_in entries
