-- What is known after some entries of a module. Core Specification 3.0, Validation, "Conventions" (contexts) and "Modules". Types of items are
-- kept as they are written, over type indexes; what an index stands for is in the context too.
use Rattle.std.specs.Prelude.{ℕ, suc, Bool, false, ◌+◌, ◌||◌, List, [], ◌∷◌, ◌++◌, length, Option, Some, None, map, nat_eq, slice_get}
use Rattle.std.specs.List.{flat_map, list_any}
use Rattle.wasm_spec.specs.Constants.{ConstantOperator, RefFunc, ConstantExpression}
use Rattle.wasm_spec.specs.Syntax.{Export, ElementItems, FunctionItems, ExpressionItems, ElementMode, ActiveElement, PassiveElement, DeclaredElement, ElementSegment, DataMode, ActiveData, PassiveData, ImportEntry, Import, CompactItems, CompactNames, imported_by}
use Rattle.wasm_spec.specs.Trees.{DefType, types_after}
use Rattle.wasm_spec.specs.Types.{Func, Abstract, RefType, MemoryType, TableType, GlobalType, ExternalType, FuncExternal, TableExternal, MemoryExternal, GlobalExternal, TagExternal, ExternalKind, FuncKind, TableKind, MemoryKind, GlobalKind, TagKind, FuncType, kind_of}
use Rattle.wasm_validity.specs.DefinedTypes.{func_type_at}
use Rattle.wasm_validity.specs.Entries.{Entry, OfCustom, OfType, OfImport, OfFunction, OfTable, OfMemory, OfTags, OfTag, OfGlobal, OfExport, OfStart, OfElement, OfDataCount, OfBody, OfData}
use Rattle.wasm_validity.specs.ImportedItems.{Imported, with_imports}

-- The index spaces, in which imported items stand first, the imports by their names, the exports, which functions are declared, the data count, and what
-- else limits count: the entries of type and import sections, data segments, and the size of the types of all imports and exports.
pub record Context : Type 0 where
  pub types : List DefType
  pub groups : ℕ
  pub imports : ℕ
  pub imported : List Imported
  -- the type index of each function, of the imported ones and of the module's own
  pub imported_functions : List ℕ
  pub own_functions : List ℕ
  pub tables : List (TableType ℕ)
  pub memories : List MemoryType
  -- the type index of each tag
  pub tags : List ℕ
  pub imported_globals : List (GlobalType ℕ)
  pub own_globals : List (GlobalType ℕ)
  pub exports : List Export
  -- the type of each element segment
  pub elements : List (RefType ℕ)
  -- whether a function is declared outside of bodies, which may name it as a reference then
  pub declared : ℕ → Bool
  -- how many data segments a data count section says there are
  pub data_count : Option ℕ
  pub segments : ℕ
  pub type_size : ℕ

abbrev pub at_first : Context
at_first = record {
  types = [];
  groups = 0;
  imports = 0;
  imported = [];
  imported_functions = [];
  own_functions = [];
  tables = [];
  memories = [];
  tags = [];
  imported_globals = [];
  own_globals = [];
  exports = [];
  elements = [];
  declared = λ function. false;
  data_count = None;
  segments = 0;
  type_size = 1;
}

-- the index spaces of functions and globals
abbrev pub functions_in : Context → List ℕ
functions_in cx = cx.imported_functions ++ cx.own_functions

abbrev pub globals_in : Context → List (GlobalType ℕ)
globals_in cx = cx.imported_globals ++ cx.own_globals

-- ---- sizes of types

-- how large a function type counts, which isn't there where the index names none
abbrev pub size_of_func : Option (FuncType DefType) → ℕ
size_of_func None = 0
size_of_func (Some type) = 2 + (length type.params + length type.results)

-- how large the type of an item counts
abbrev pub size_of : Context → ExternalType ℕ → ℕ
size_of cx (FuncExternal function) = size_of_func (func_type_at cx.types function)
size_of cx (TableExternal type) = 1
size_of cx (MemoryExternal type) = 1
size_of cx (GlobalExternal type) = 1
size_of cx (TagExternal function) = size_of_func (func_type_at cx.types function)

-- what the items of a segment are: functions as references that aren't null
abbrev pub element_type : ElementItems → RefType ℕ
element_type (FunctionItems functions) = record { nullable = false; heap_type = Abstract Func }
element_type (ExpressionItems type expressions) = type

-- ---- what is exported

abbrev pub names_of : List Export → List (List ℕ)
names_of exports = map (λ export. export.name) exports

-- the item of a kind with an index, if there is one
abbrev pub item_at : Context → ExternalKind → ℕ → Option (ExternalType ℕ)
item_at cx FuncKind index = slice_get (map (λ x. FuncExternal x) (functions_in cx)) index
item_at cx TableKind index = slice_get (map (λ x. TableExternal x) cx.tables) index
item_at cx MemoryKind index = slice_get (map (λ x. MemoryExternal x) cx.memories) index
item_at cx GlobalKind index = slice_get (map (λ x. GlobalExternal x) (globals_in cx)) index
item_at cx TagKind index = slice_get (map (λ x. TagExternal x) cx.tags) index

abbrev pub size_of_export : Context → Option (ExternalType ℕ) → ℕ
size_of_export cx None = 0
size_of_export cx (Some type) = size_of cx type

-- ---- functions that are declared (the references of a context, which are what the module names outside of bodies and of the start function)

-- the functions that an expression names
abbrev pub named_by : ConstantOperator → List ℕ
named_by (RefFunc function) = function ∷ []
named_by operator = []

abbrev pub named_in : ConstantExpression → List ℕ
named_in expression = flat_map named_by expression

abbrev pub named_if : Option ConstantExpression → List ℕ
named_if None = []
named_if (Some expression) = named_in expression

-- those that segments name, whatever their mode
abbrev pub named_in_items : ElementItems → List ℕ
named_in_items (FunctionItems functions) = functions
named_in_items (ExpressionItems type expressions) = flat_map named_in expressions

abbrev pub named_at_element : ElementMode → List ℕ
named_at_element (ActiveElement table offset) = named_in offset
named_at_element PassiveElement = []
named_at_element DeclaredElement = []

abbrev pub named_in_element : ElementSegment → List ℕ
named_in_element segment = named_in_items segment.items ++ named_at_element segment.mode

abbrev pub named_in_data : DataMode → List ℕ
named_in_data (ActiveData memory offset) = named_in offset
named_in_data PassiveData = []

-- a function that is exported
abbrev pub exported_function : ExternalKind → ℕ → List ℕ
exported_function FuncKind index = index ∷ []
exported_function kind index = []

-- what is declared once these functions are too
abbrev pub with_functions : (ℕ → Bool) → List ℕ → ℕ → Bool
with_functions declared functions = λ function. list_any (nat_eq function) functions || declared function

-- ---- one entry more

-- an imported item
abbrev pub with_item : Context → ExternalType ℕ → Context
with_item cx (FuncExternal function) = record cx { imported_functions = cx.imported_functions ++ function ∷ [] }
with_item cx (TableExternal type) = record cx { tables = cx.tables ++ type ∷ [] }
with_item cx (MemoryExternal type) = record cx { memories = cx.memories ++ type ∷ [] }
with_item cx (GlobalExternal type) = record cx { imported_globals = cx.imported_globals ++ type ∷ [] }
with_item cx (TagExternal function) = record cx { tags = cx.tags ++ function ∷ [] }

-- its type counts too
abbrev pub after_item : Context → ExternalType ℕ → Context
after_item cx type = record (with_item cx type) { type_size = cx.type_size + size_of cx type }

abbrev pub after_items : Context → List (ExternalType ℕ) → Context
after_items cx [] = cx
after_items cx (type ∷ types) = after_items (after_item cx type) types

-- ---- imports by their names

-- The index that the next imported item of a kind has. Imported tables, memories and tags are kept in one list with the module's own, which come after all
-- imports; imported functions and globals have lists of their own.
abbrev pub next_index : Context → ExternalKind → ℕ
next_index cx FuncKind = length cx.imported_functions
next_index cx TableKind = length cx.tables
next_index cx MemoryKind = length cx.memories
next_index cx GlobalKind = length cx.imported_globals
next_index cx TagKind = length cx.tags

-- an import of these two names, which is the next item of its kind
abbrev pub next_import : Context → List ℕ → List ℕ → ExternalType ℕ → Imported
next_import cx origin name type = record { origin = origin; name = name; kind = kind_of type; index = next_index cx (kind_of type) }

-- items by their names, each after those before it
abbrev pub next_imports : Context → List ℕ → List (List ℕ) → List (ExternalType ℕ) → List Imported
next_imports cx origin (name ∷ names) (type ∷ types) = next_import cx origin name type ∷ next_imports (after_item cx type) origin names types
next_imports cx origin names types = []

-- the name of the module that an entry imports from, and the names of what it imports
abbrev pub origin_of : ImportEntry → List ℕ
origin_of (Import origin name type) = origin
origin_of (CompactItems origin items) = origin
origin_of (CompactNames origin type names) = origin

abbrev pub item_names : ImportEntry → List (List ℕ)
item_names (Import origin name type) = name ∷ []
item_names (CompactItems origin items) = map (λ item. item.name) items
item_names (CompactNames origin type names) = names

-- the imports of an entry
abbrev pub imports_of : Context → ImportEntry → List Imported
imports_of cx entry = next_imports cx (origin_of entry) (item_names entry) (imported_by entry)

-- What is known after an entry that keeps its rule.
abbrev pub after : Context → Entry → Context
after cx (OfCustom name) = cx
after cx (OfType group) = record cx { types = types_after cx.types group; groups = suc cx.groups }
after cx (OfImport entry) = record (after_items (record cx { imports = suc cx.imports }) (imported_by entry)) { imported = with_imports cx.imported (imports_of cx entry) }
after cx (OfFunction index) = record cx { own_functions = cx.own_functions ++ index ∷ [] }
after cx (OfTable table) = record cx { tables = cx.tables ++ table.type ∷ []; declared = with_functions cx.declared (named_if table.initialiser) }
after cx (OfMemory type) = record cx { memories = cx.memories ++ type ∷ [] }
after cx OfTags = cx
after cx (OfTag index) = record cx { tags = cx.tags ++ index ∷ [] }
after cx (OfGlobal global) = record cx { own_globals = cx.own_globals ++ global.type ∷ []; declared = with_functions cx.declared (named_in global.initialiser) }
after cx (OfExport export) = record cx {
  exports = cx.exports ++ export ∷ [];
  type_size = cx.type_size + size_of_export cx (item_at cx export.kind export.index);
  declared = with_functions cx.declared (exported_function export.kind export.index);
}
after cx (OfStart function) = cx
after cx (OfElement segment) = record cx { elements = cx.elements ++ element_type segment.items ∷ []; declared = with_functions cx.declared (named_in_element segment) }
after cx (OfDataCount count) = record cx { data_count = Some count }
after cx (OfBody body) = cx
after cx (OfData segment) = record cx { segments = suc cx.segments; declared = with_functions cx.declared (named_in_data segment.mode) }

abbrev pub after_all : Context → List Entry → Context
after_all cx [] = cx
after_all cx (entry ∷ entries) = after_all (after cx entry) entries
