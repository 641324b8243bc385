-- The index spaces of a made module: imported items first, in the order of the imports, and then its own.
use Rattle.std.specs.Prelude.{ℕ, List, [], ◌∷◌, ◌++◌, map}
use Rattle.std.specs.List.{flat_map}
use Rattle.wasm_smith_validity.specs.Made.{Made}
use Rattle.wasm_spec.specs.Syntax.{imported_by}
use Rattle.wasm_spec.specs.Trees.{section_types}
use Rattle.wasm_spec.specs.Types.{MemoryType, TableType, GlobalType, ExternalType, FuncExternal, TableExternal, MemoryExternal, GlobalExternal, TagExternal}
use Rattle.wasm_validity.specs.Context.{element_type}
use Rattle.wasm_validity.specs.IndexSpaces.{Spaces}

-- ---- the items of one kind among some items

abbrev pub functions_among : {R : Type 0} → List (ExternalType R) → List R
functions_among [] = []
functions_among (FuncExternal function ∷ types) = function ∷ functions_among types
functions_among (type ∷ types) = functions_among types

abbrev pub tables_among : {R : Type 0} → List (ExternalType R) → List (TableType R)
tables_among [] = []
tables_among (TableExternal type ∷ types) = type ∷ tables_among types
tables_among (type ∷ types) = tables_among types

abbrev pub memories_among : {R : Type 0} → List (ExternalType R) → List MemoryType
memories_among [] = []
memories_among (MemoryExternal type ∷ types) = type ∷ memories_among types
memories_among (type ∷ types) = memories_among types

abbrev pub globals_among : {R : Type 0} → List (ExternalType R) → List (GlobalType R)
globals_among [] = []
globals_among (GlobalExternal type ∷ types) = type ∷ globals_among types
globals_among (type ∷ types) = globals_among types

abbrev pub tags_among : {R : Type 0} → List (ExternalType R) → List R
tags_among [] = []
tags_among (TagExternal function ∷ types) = function ∷ tags_among types
tags_among (type ∷ types) = tags_among types

-- ---- the spaces

abbrev pub imported_types : Made → List (ExternalType ℕ)
imported_types m = flat_map imported_by m.imports

-- Imports by their names aren't given: views don't show them.
abbrev pub made_spaces : Made → Spaces
made_spaces m = record {
  types = section_types m.groups;
  functions = functions_among (imported_types m) ++ m.funcs;
  tables = tables_among (imported_types m) ++ map (λ table. table.type) m.tables;
  memories = memories_among (imported_types m) ++ m.memories;
  globals = globals_among (imported_types m) ++ map (λ global. global.type) m.globals;
  tags = tags_among (imported_types m) ++ m.tags;
  elements = map (λ segment. element_type segment.items) m.elems;
  imported = [];
  exports = m.exports;
}
