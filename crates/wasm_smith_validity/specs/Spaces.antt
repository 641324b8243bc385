-- The index spaces of a module, as plain lists. A type is its index. Core Specification 3.0, Structure, Modules, "Indices", and Validation, "Conventions".
use Rattle.std.specs.Prelude.{ℕ, suc, Bool, true, nat_lt, ◌&&◌, List, [], ◌∷◌, ◌++◌, length, slice_get, Option}
use Rattle.std.specs.Option.{option_and_then}
use Rattle.wasm_spec.specs.Features.{Features}
use Rattle.wasm_spec.specs.Gates.{is_allowed}
use Rattle.wasm_spec.specs.Syntax.{Export, imported_by, members}
use Rattle.wasm_spec.specs.Types.{HeapType, Abstract, Concrete, ValType, Ref, FuncType, SubType, MemoryType, TableType, GlobalType, ExternalType, FuncExternal, TableExternal, MemoryExternal, GlobalExternal, TagExternal}
use Rattle.wasm_validity.specs.DefinedTypes.{func_in}
use Rattle.wasm_validity.specs.Entries.{Entry, OfType, OfImport, OfFunction, OfTable, OfMemory, OfTag, OfGlobal, OfExport, OfElement, OfData}

-- Imported items stand first in each space. Constant expressions tell imported globals from the module's own, and a function section lists own functions
-- alone, so these two have a list for each. The numbers of segments bound no rule; they count what is made.
pub record Spaces : Type 0 where
  pub types : List (SubType ℕ)
  -- the type index of each function
  pub imported_functions : List ℕ
  pub own_functions : List ℕ
  pub tables : List (TableType ℕ)
  pub memories : List MemoryType
  -- the type index of each tag
  pub tags : List ℕ
  pub imported_globals : List (GlobalType ℕ)
  pub own_globals : List (GlobalType ℕ)
  pub exports : List Export
  -- how many segments there are
  pub element_segments : ℕ
  pub data_segments : ℕ

-- the spaces where there are types alone
abbrev pub spaces_of_types : List (SubType ℕ) → Spaces
spaces_of_types types = record {
  types = types;
  imported_functions = [];
  own_functions = [];
  tables = [];
  memories = [];
  tags = [];
  imported_globals = [];
  own_globals = [];
  exports = [];
  element_segments = 0;
  data_segments = 0;
}

abbrev pub functions_of : Spaces → List ℕ
functions_of spaces = spaces.imported_functions ++ spaces.own_functions

abbrev pub globals_of : Spaces → List (GlobalType ℕ)
globals_of spaces = spaces.imported_globals ++ spaces.own_globals

-- the function type that an index names, if it names one
abbrev pub func_type_at : List (SubType ℕ) → ℕ → Option (FuncType ℕ)
func_type_at types index = option_and_then (λ type. func_in type.composite_type) (slice_get types index)

-- a heap type that is an index names a type
abbrev pub is_named : List (SubType ℕ) → HeapType ℕ → Bool
is_named types (Abstract heap) = true
is_named types (Concrete index) = nat_lt index (length types)

-- a value type that the module may write
abbrev pub is_value : Features → List (SubType ℕ) → ValType ℕ → Bool
is_value features types (Ref nullable heap) = is_allowed features (Ref nullable heap) && is_named types heap
is_value features types type = is_allowed features type

-- ---- with one entry more

abbrev pub with_item : Spaces → ExternalType ℕ → Spaces
with_item spaces (FuncExternal function) = record spaces { imported_functions = spaces.imported_functions ++ function ∷ [] }
with_item spaces (TableExternal type) = record spaces { tables = spaces.tables ++ type ∷ [] }
with_item spaces (MemoryExternal type) = record spaces { memories = spaces.memories ++ type ∷ [] }
with_item spaces (GlobalExternal type) = record spaces { imported_globals = spaces.imported_globals ++ type ∷ [] }
with_item spaces (TagExternal function) = record spaces { tags = spaces.tags ++ function ∷ [] }

abbrev pub with_items : Spaces → List (ExternalType ℕ) → Spaces
with_items spaces [] = spaces
with_items spaces (type ∷ types) = with_items (with_item spaces type) types

-- the spaces after an entry that keeps its rule
abbrev pub spaces_after : Spaces → Entry → Spaces
spaces_after spaces (OfType group) = record spaces { types = spaces.types ++ members group }
spaces_after spaces (OfImport entry) = with_items spaces (imported_by entry)
spaces_after spaces (OfFunction index) = record spaces { own_functions = spaces.own_functions ++ index ∷ [] }
spaces_after spaces (OfTable table) = record spaces { tables = spaces.tables ++ table.type ∷ [] }
spaces_after spaces (OfMemory type) = record spaces { memories = spaces.memories ++ type ∷ [] }
spaces_after spaces (OfTag index) = record spaces { tags = spaces.tags ++ index ∷ [] }
spaces_after spaces (OfGlobal global) = record spaces { own_globals = spaces.own_globals ++ global.type ∷ [] }
spaces_after spaces (OfExport export) = record spaces { exports = spaces.exports ++ export ∷ [] }
spaces_after spaces (OfElement segment) = record spaces { element_segments = suc spaces.element_segments }
spaces_after spaces (OfData segment) = record spaces { data_segments = suc spaces.data_segments }
spaces_after spaces _ = spaces

abbrev pub spaces_after_all : Spaces → List Entry → Spaces
spaces_after_all spaces [] = spaces
spaces_after_all spaces (entry ∷ entries) = spaces_after_all (spaces_after spaces entry) entries
