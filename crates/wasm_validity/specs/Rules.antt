-- The rules on what sections say: for each entry, in the context of those before it. Core Specification 3.0, Validation, "Modules", and appendix
-- "Implementation Limitations" for what is measured. Each rule is asked under a set of features, which the standard doesn't have.
use Rattle.std.specs.Prelude.{◌≡◌, ◌⊎◌, ⊤, ℕ, suc, ◌+◌, ◌<◌, Bool, true, false, bytes_eq, not, ◌&&◌, ◌||◌, List, [], ◌∷◌, ◌++◌, length, map, nat_eq, nat_lt, Option, Some, None, is_some, if◌then◌else◌}
use Rattle.std.specs.List.{AllByRecursion, list_all, list_any, slice_get}
use Rattle.std.specs.Option.{unwrap_or}
use Rattle.wasm_spec.specs.Constants.{ConstantExpression}
use Rattle.wasm_spec.specs.Features.{Features, has, MutableGlobal, ReferenceTypes, BulkMemory, MultiMemory, Exceptions, FunctionReferences}
use Rattle.wasm_spec.specs.Groups.{KeepsGroupRules}
use Rattle.wasm_spec.specs.Limits.{Limit, Types, Groups, Imports, Functions, Globals, Tags, Exports, Tables, Memories, ElementSegments, DataSegments, SegmentEntries, BodySize, Name, TypeSize, most, total_of_types}
use Rattle.wasm_spec.specs.Subtyping.{ValBelow}
use Rattle.wasm_spec.specs.Syntax.{ImportEntry, Import, CompactItems, CompactNames, Table, Global, Export, ElementMode, ActiveElement, PassiveElement, DeclaredElement, ElementItems, FunctionItems, ExpressionItems, ElementSegment, DataMode, ActiveData, PassiveData, imported_by}
use Rattle.wasm_spec.specs.Trees.{DefType, types_after, unrolled}
use Rattle.wasm_spec.specs.TypeReferences.{global_refs, group_refs, table_refs}
use Rattle.wasm_spec.specs.Types.{RefType, ValType, I32, I64, Ref, FuncType, MemoryType, TableType, GlobalType, ExternalType, FuncExternal, TableExternal, MemoryExternal, GlobalExternal, TagExternal, RecGroup}
use Rattle.wasm_validity.specs.ConstantTyping.{IsConstantFor, IsConstantOf, meant}
use Rattle.wasm_validity.specs.Context.{Context, functions_in, after, size_of, after_item, element_type, item_at, names_of, size_of_export}
use Rattle.wasm_validity.specs.DefinedTypes.{func_type_at, PassesGroupLimit}
use Rattle.wasm_validity.specs.Entries.{Entry, OfCustom, OfType, OfImport, OfFunction, OfTable, OfMemory, OfTags, OfTag, OfGlobal, OfExport, OfStart, OfElement, OfDataCount, OfBody, OfData}
use Rattle.wasm_validity.specs.TypeRules.{implies, is_value, is_memory_type, is_table_type, is_tag_type}

-- ---- items, imported or the module's own

-- one table, or several with a feature
abbrev pub keeps_table : Features → Context → TableType ℕ → Bool
keeps_table features cx type = is_table_type features cx type && (nat_eq (length cx.tables) 0 || has features ReferenceTypes)

abbrev pub keeps_memory : Features → Context → MemoryType → Bool
keeps_memory features cx type = is_memory_type features type && (nat_eq (length cx.memories) 0 || has features MultiMemory)

-- a global that crosses the module's border may be written to only with a feature
abbrev pub may_cross : Features → GlobalType ℕ → Bool
may_cross features type = implies type.mutable (has features MutableGlobal)

-- (Modules, "Imports")
abbrev pub keeps_item : Features → Context → ExternalType ℕ → Bool
keeps_item features cx (FuncExternal function) = is_some (func_type_at cx.types function)
keeps_item features cx (TableExternal type) = keeps_table features cx type
keeps_item features cx (MemoryExternal type) = keeps_memory features cx type
keeps_item features cx (GlobalExternal type) = is_value features cx type.value_type && may_cross features type
keeps_item features cx (TagExternal function) = is_tag_type features cx function

-- each in the context of those before it
abbrev pub keep_items : Features → Context → List (ExternalType ℕ) → Bool
keep_items features cx [] = true
keep_items features cx (type ∷ types) = keeps_item features cx type && keep_items features (after_item cx type) types

-- A heap type that is an index is one for which there is room. Of an item that keeps its rule, that asks no more where no limit is passed.
abbrev pub has_small_index : ExternalType ℕ → Bool
has_small_index (TableExternal type) = list_all (λ index. nat_lt index total_of_types) (table_refs type)
has_small_index (GlobalExternal type) = list_all (λ index. nat_lt index total_of_types) (global_refs type)
has_small_index type = true

-- Imports that share a type write it also where there are none of them.
abbrev pub shares_small_index : ImportEntry → Bool
shares_small_index (CompactNames origin type names) = has_small_index type
shares_small_index entry = true

-- ---- constants

-- a reference type as a value type
abbrev pub value_of : RefType ℕ → ValType ℕ
value_of type = Ref type.nullable type.heap_type

-- an initialiser, where there is one, gives a value of the type
abbrev pub IsInitialised : Features → Context → ValType ℕ → Option ConstantExpression → Type 0
IsInitialised features cx type None = ⊤
IsInitialised features cx type (Some initialiser) = IsConstantFor features cx type initialiser

-- A table of the module's own (Modules, "Tables"): its items are null at first, where they may be, or what an initialiser gives. Initialisers came with references that
-- can't be null, and see no globals but imported ones.
pub record KeepsOwnTable (features : Features) (cx : Context) (table : Table) : Type 0 where
  pub type : keeps_table features cx table.type ≡ true
  pub filled : (if is_some table.initialiser then has features FunctionReferences else table.type.element_type.nullable) ≡ true
  pub initialiser : IsInitialised features (record cx { own_globals = [] }) (value_of table.type.element_type) table.initialiser

-- (Modules, "Globals")
pub record KeepsGlobal (features : Features) (cx : Context) (global : Global) : Type 0 where
  pub type : is_value features cx global.type.value_type ≡ true
  pub initialiser : IsConstantFor features cx global.type.value_type global.initialiser

-- the type of indexes of a table, and of addresses of a memory (Types, "Address Types")
abbrev pub index_type : Bool → ValType DefType
index_type is_64 = if is_64 then I64 else I32

-- ---- segments

-- one type is below another, both written with type indexes that name types
abbrev pub IsBelow : Context → ValType ℕ → ValType ℕ → Type 0
IsBelow cx a b = below (meant cx a) (meant cx b)
  where
    below : Option (ValType DefType) → Option (ValType DefType) → Type 0
    below (Some c) (Some d) = ValBelow unrolled c d
    below _ _ = ⊥

-- the functions are there, or the type may be written and the expressions give values of it
abbrev pub KeepsItems : Features → Context → ElementItems → Type 0
KeepsItems features cx (FunctionItems functions) = AllByRecursion (λ function. function < length (functions_in cx)) functions
KeepsItems features cx (ExpressionItems type expressions) =
    (is_value features cx (value_of type) ≡ true) × AllByRecursion (IsConstantFor features cx (value_of type)) expressions

-- a segment of such items may be put into a table of this type from the start on, if there is one
abbrev pub FitsTable : Features → Context → ValType ℕ → ConstantExpression → Option (TableType ℕ) → Type 0
FitsTable features cx type offset None = ⊥
FitsTable features cx type offset (Some table) =
    IsBelow cx type (value_of table.element_type) × IsConstantOf features cx (index_type table.limits.is_64) offset

abbrev pub KeepsElementMode : Features → Context → ValType ℕ → ElementMode → Type 0
KeepsElementMode features cx type (ActiveElement table offset) = FitsTable features cx type offset (slice_get cx.tables (unwrap_or table 0))
KeepsElementMode features cx type PassiveElement = has features BulkMemory ≡ true
KeepsElementMode features cx type DeclaredElement = has features BulkMemory ≡ true

-- (Modules, "Element Segments")
pub record KeepsElement (features : Features) (cx : Context) (segment : ElementSegment) : Type 0 where
  pub items : KeepsItems features cx segment.items
  pub mode : KeepsElementMode features cx (value_of (element_type segment.items)) segment.mode

-- a segment may be put into a memory of this type from the start on, if there is one
abbrev pub FitsMemory : Features → Context → ConstantExpression → Option MemoryType → Type 0
FitsMemory features cx offset None = ⊥
FitsMemory features cx offset (Some memory) = IsConstantOf features cx (index_type memory.is_64) offset

-- (Modules, "Data Segments")
abbrev pub KeepsData : Features → Context → DataMode → Type 0
KeepsData features cx (ActiveData memory offset) = FitsMemory features cx offset (slice_get cx.memories (unwrap_or memory 0))
KeepsData features cx PassiveData = has features BulkMemory ≡ true

-- ---- exports and the start function

abbrev pub may_leave : Features → Option (ExternalType ℕ) → Bool
may_leave features None = false
may_leave features (Some (GlobalExternal type)) = may_cross features type
may_leave features (Some _) = true

-- (Modules, "Exports"): names are distinct
abbrev pub keeps_export : Features → Context → Export → Bool
keeps_export features cx export = may_leave features (item_at cx export.kind export.index) && not (list_any (bytes_eq export.name) (names_of cx.exports))

-- a function type that takes nothing and gives nothing, if there is one
abbrev pub is_unit : Option (FuncType DefType) → Bool
is_unit None = false
is_unit (Some type) = nat_eq (length type.params) 0 && nat_eq (length type.results) 0

-- (Modules, "Start Function")
abbrev pub keeps_start : Context → ℕ → Bool
keeps_start cx function = starts (slice_get (functions_in cx) function)
  where
    starts : Option ℕ → Bool
    starts None = false
    starts (Some index) = is_unit (func_type_at cx.types index)

-- ---- types

-- A group keeps the rules on groups, and names types by indexes for which there is room. Where no limit is passed that is no more than the former.
pub record KeepsTypeRules (features : Features) (cx : Context) (group : RecGroup ℕ) : Type 0 where
  pub rules : KeepsGroupRules features cx.types group
  pub small : AllByRecursion (λ index. index < total_of_types) (group_refs group)

-- ---- entries

-- What an entry has to keep. What bodies have to keep isn't said here.
abbrev pub Keeps : Features → Context → Entry → Type 0
Keeps features cx (OfCustom name) = ⊤
Keeps features cx (OfType group) = KeepsTypeRules features cx group
Keeps features cx (OfImport entry) = (shares_small_index entry && keep_items features cx (imported_by entry)) ≡ true
Keeps features cx (OfFunction index) = is_some (func_type_at cx.types index) ≡ true
Keeps features cx (OfTable table) = KeepsOwnTable features cx table
Keeps features cx (OfMemory type) = keeps_memory features cx type ≡ true
Keeps features cx OfTags = has features Exceptions ≡ true
Keeps features cx (OfTag index) = is_tag_type features cx index ≡ true
Keeps features cx (OfGlobal global) = KeepsGlobal features cx global
Keeps features cx (OfExport export) = keeps_export features cx export ≡ true
Keeps features cx (OfStart function) = keeps_start cx function ≡ true
Keeps features cx (OfElement segment) = KeepsElement features cx segment
Keeps features cx (OfDataCount count) = has features BulkMemory ≡ true
Keeps features cx (OfBody body) = ⊤
Keeps features cx (OfData segment) = KeepsData features cx segment.mode

-- ---- limits

abbrev pub is_past : Limit → ℕ → Bool
is_past limit n = nat_lt (most limit) n

-- the names that an entry of an import section writes
abbrev pub import_names : ImportEntry → List (List ℕ)
import_names (Import origin name type) = origin ∷ name ∷ []
import_names (CompactItems origin items) = origin ∷ map (λ item. item.name) items
import_names (CompactNames origin type names) = origin ∷ names

abbrev pub name_measures : List (List ℕ) → List (Limit × ℕ)
name_measures names = map (λ name. (Name, length name)) names

-- the number of items of its kind with an imported one, and the size of all types with its own
abbrev pub item_measures : Context → ExternalType ℕ → List (Limit × ℕ)
item_measures cx (FuncExternal function) = (Functions, suc (length cx.imported_functions + length cx.own_functions)) ∷ (TypeSize, cx.type_size + size_of cx (FuncExternal function)) ∷ []
item_measures cx (TableExternal type) = (Tables, suc (length cx.tables)) ∷ (TypeSize, cx.type_size + 1) ∷ []
item_measures cx (MemoryExternal type) = (Memories, suc (length cx.memories)) ∷ (TypeSize, cx.type_size + 1) ∷ []
item_measures cx (GlobalExternal type) = (Globals, suc (length cx.imported_globals + length cx.own_globals)) ∷ (TypeSize, cx.type_size + 1) ∷ []
item_measures cx (TagExternal function) = (Tags, suc (length cx.tags)) ∷ (TypeSize, cx.type_size + size_of cx (TagExternal function)) ∷ []

abbrev pub items_measures : Context → List (ExternalType ℕ) → List (Limit × ℕ)
items_measures cx [] = []
items_measures cx (type ∷ types) = item_measures cx type ++ items_measures (after_item cx type) types

-- how many items a segment has
abbrev pub count_of : ElementItems → ℕ
count_of (FunctionItems functions) = length functions
count_of (ExpressionItems type expressions) = length expressions

-- The numbers with an entry that limits bound, those of its types aside.
abbrev pub measures : Context → Entry → List (Limit × ℕ)
measures cx (OfCustom name) = (Name, length name) ∷ []
measures cx (OfType group) = (Groups, suc cx.groups) ∷ (Types, length (types_after cx.types group)) ∷ []
measures cx (OfImport entry) =
    (Imports, suc cx.imports) ∷ (name_measures (import_names entry) ++ items_measures (record cx { imports = suc cx.imports }) (imported_by entry))
measures cx (OfFunction index) = (Functions, suc (length cx.imported_functions + length cx.own_functions)) ∷ []
measures cx (OfTable table) = (Tables, suc (length cx.tables)) ∷ []
measures cx (OfMemory type) = (Memories, suc (length cx.memories)) ∷ []
measures cx OfTags = []
measures cx (OfTag index) = (Tags, suc (length cx.tags)) ∷ []
measures cx (OfGlobal global) = (Globals, suc (length cx.imported_globals + length cx.own_globals)) ∷ []
measures cx (OfExport export) =
    (Exports, suc (length cx.exports)) ∷ (Name, length export.name) ∷ (TypeSize, cx.type_size + size_of_export cx (item_at cx export.kind export.index)) ∷ []
measures cx (OfStart function) = []
measures cx (OfElement segment) = (ElementSegments, suc (length cx.elements)) ∷ (SegmentEntries, count_of segment.items) ∷ []
measures cx (OfDataCount count) = []
measures cx (OfBody body) = (BodySize, length body) ∷ []
measures cx (OfData segment) = (DataSegments, suc cx.segments) ∷ []

-- a limit that one of these numbers passes
abbrev pub Passes : Limit → List (Limit × ℕ) → Type 0
Passes limit [] = ⊥
Passes limit (m ∷ ms) = ((m.0 ≡ limit) × (is_past m.0 m.1 ≡ true)) ⊎ Passes limit ms

-- no number passes its limit
abbrev pub are_within : List (Limit × ℕ) → Bool
are_within measured = list_all (λ m. not (is_past m.0 m.1)) measured

-- the types of an entry pass a limit
abbrev pub PassesByTypes : Limit → Context → Entry → Type 0
PassesByTypes limit cx (OfType group) = PassesGroupLimit cx.types group limit
PassesByTypes limit cx _ = ⊥

-- ---- lists of entries

-- each keeps its rule after those before it
abbrev pub KeepRules : Features → Context → List Entry → Type 0
KeepRules features cx [] = ⊤
KeepRules features cx (entry ∷ entries) = Keeps features cx entry × KeepRules features (after cx entry) entries

-- an entry passes no limit
pub record IsWithin (cx : Context) (entry : Entry) : Type 0 where
  pub numbers : are_within (measures cx entry) ≡ true
  pub types : (limit : Limit) → ¬ (PassesByTypes limit cx entry)

abbrev pub KeepLimits : Context → List Entry → Type 0
KeepLimits cx [] = ⊤
KeepLimits cx (entry ∷ entries) = IsWithin cx entry × KeepLimits (after cx entry) entries

-- a limit that some entry passes
abbrev pub PassLimit : Limit → Context → List Entry → Type 0
PassLimit limit cx [] = ⊥
PassLimit limit cx (entry ∷ entries) = Passes limit (measures cx entry) ⊎ PassesByTypes limit cx entry ⊎ PassLimit limit (after cx entry) entries
