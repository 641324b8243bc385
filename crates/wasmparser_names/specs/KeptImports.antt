-- Imports as they are kept, in the order in which they came.
use Rattle.std.specs.Prelude.{ℕ, List, ◌<◌, length, map}
use Rattle.std.specs.List.{AllByRecursion}
use Rattle.wasm_validity.specs.ImportedItems.{Imported}
use Rattle.wasmparser_names.specs.ImportNames.{imported, module_at}
use Rattle.wasmparser_names.specs.declared.import_names.KeptImport.{KeptImport}

module _ (modules : List (List ℕ)) where
  -- imports with the names of their modules in place of the numbers
  abbrev pub kept_imports : List KeptImport → List Imported
  kept_imports = map (λ import. imported (module_at modules import.origin) import.name import.item)

  -- all are from modules that are known
  abbrev pub AreOfModules : List KeptImport → Type 0
  AreOfModules imports = AllByRecursion (λ import. import.origin < length modules) imports
