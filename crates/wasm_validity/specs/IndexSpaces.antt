-- What is shown of a module: its index spaces, those of data segments, locals, labels and fields aside, its imports by their names, and its exports. Core Specification 3.0,
-- Structure, Modules, "Indices", and Validation, "Modules". Types of items are kept as they are written, over type indexes.
use Rattle.std.specs.Prelude.{ℕ, List, length}
use Rattle.wasm_spec.specs.Spaces.{Sizes}
use Rattle.wasm_spec.specs.Syntax.{Export, Section}
use Rattle.wasm_spec.specs.Trees.{DefType}
use Rattle.wasm_spec.specs.Types.{GlobalType, MemoryType, RefType, TableType}
use Rattle.wasm_validity.specs.Context.{Context, functions_in, globals_in}
use Rattle.wasm_validity.specs.ImportedItems.{Imported}
use Rattle.wasm_validity.specs.Validity.{context_of}

-- each space in order, imported items first
pub record Spaces : Type 0 where
  pub types : List DefType
  -- the type index of each function
  pub functions : List ℕ
  pub tables : List (TableType ℕ)
  pub memories : List MemoryType
  pub globals : List (GlobalType ℕ)
  -- the type index of each tag
  pub tags : List ℕ
  -- the type of each element segment
  pub elements : List (RefType ℕ)
  pub imported : List Imported
  pub exports : List Export

abbrev pub spaces_in : Context → Spaces
spaces_in cx = record {
  types = cx.types;
  functions = functions_in cx;
  tables = cx.tables;
  memories = cx.memories;
  globals = globals_in cx;
  tags = cx.tags;
  elements = cx.elements;
  imported = cx.imported;
  exports = cx.exports;
}

-- those of a module
abbrev pub spaces_of : List Section → Spaces
spaces_of sections = spaces_in (context_of sections)

-- how many items each space has
abbrev pub sizes_in : Spaces → Sizes
sizes_in spaces = record {
  types = length spaces.types;
  functions = length spaces.functions;
  tables = length spaces.tables;
  memories = length spaces.memories;
  globals = length spaces.globals;
  tags = length spaces.tags;
  elements = length spaces.elements;
  exports = length spaces.exports;
}
