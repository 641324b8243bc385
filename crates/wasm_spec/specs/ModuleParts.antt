-- The grammar of what stands in sections: imports, tables, globals, exports, segments and bodies. Core Specification 3.0, Binary Format, "Modules".
use Rattle.std.specs.Prelude.{◌≡◌, ℕ, Bool, true, List, Option, Some, None}
use Rattle.wasm_spec.specs.Bytes.{IsBytes, IsU32, IsPair, IsMarked, IsNumbered, IsList, IsFramed, IsName}
use Rattle.wasm_spec.specs.ConstantGrammar.{IsConstantExpression}
use Rattle.wasm_spec.specs.Constants.{ConstantExpression}
use Rattle.wasm_spec.specs.Syntax.{ImportItem, ImportEntry, Import, CompactItems, CompactNames, Table, Global, Export, ElementMode, ActiveElement, PassiveElement, DeclaredElement, ElementItems, FunctionItems, ExpressionItems, ElementSegment, DataMode, ActiveData, PassiveData, DataSegment}
use Rattle.wasm_spec.specs.TypeGrammar.{IsRefType, IsTableType, IsGlobalType, IsExternalKind, IsExternalType}
use Rattle.wasm_spec.specs.Types.{TableType, funcref}

-- ---- imports and exports

abbrev pub IsImportItem : List ℕ → ImportItem → Type 0
IsImportItem bytes item = IsPair IsName IsExternalType bytes (item.name, item.type)

-- An import: the module's name, its own name, and its type (Modules, "Import Section"). Only where compact imports are on, any number may share
-- the module's name, or that and the type: after that name stand a byte 00, where the own name would begin, and a code that is no kind.
abbrev pub IsImport : Bool → List ℕ → ImportEntry → Type 0
IsImport compact bytes (Import origin name type) = IsPair IsName (IsPair IsName IsExternalType) bytes (origin, (name, type))
IsImport compact bytes (CompactItems origin items) =
    (compact ≡ true) × IsPair IsName (IsMarked 0x00 (IsMarked 0x7f (IsList IsImportItem))) bytes (origin, items)
IsImport compact bytes (CompactNames origin type names) =
    (compact ≡ true) × IsPair IsName (IsMarked 0x00 (IsMarked 0x7e (IsPair IsExternalType (IsList IsName)))) bytes (origin, (type, names))

-- (Modules, "Export Section")
abbrev pub IsExport : List ℕ → Export → Type 0
IsExport bytes export = IsPair IsName (IsPair IsExternalKind IsU32) bytes (export.name, (export.kind, export.index))

-- ---- tables and globals

-- a table's type alone, or after two bytes the type and an initialiser (Modules, "Table Section")
abbrev pub IsTableWith : Option ConstantExpression → List ℕ → TableType ℕ → Type 0
IsTableWith None bytes type = IsTableType bytes type
IsTableWith (Some initialiser) bytes type = IsMarked 0x40 (IsMarked 0x00 (IsPair IsTableType IsConstantExpression)) bytes (type, initialiser)

abbrev pub IsTable : List ℕ → Table → Type 0
IsTable bytes table = IsTableWith table.initialiser bytes table.type

-- (Modules, "Global Section")
abbrev pub IsGlobal : List ℕ → Global → Type 0
IsGlobal bytes global = IsPair IsGlobalType IsConstantExpression bytes (global.type, global.initialiser)

-- ---- segments

abbrev pub IsFunctionItems : List ℕ → List ℕ → Type 0
IsFunctionItems bytes functions = IsList IsU32 bytes functions

-- after the kind of element, which says that functions follow
abbrev pub IsKindAndItems : List ℕ → List ℕ → Type 0
IsKindAndItems bytes functions = IsMarked 0x00 IsFunctionItems bytes functions

abbrev pub IsExpressionItems : List ℕ → List ConstantExpression → Type 0
IsExpressionItems bytes expressions = IsList IsConstantExpression bytes expressions

-- The eight forms of element segments (Modules, "Element Section"). Where an active one doesn't write its table, the type of its expressions isn't
-- written either, and is that of references to any function; with another type the table is written, also where it is table 0.
abbrev pub IsElementOf : ElementMode → List ℕ → ElementItems → Type 0
IsElementOf (ActiveElement None offset) bytes (FunctionItems functions) =
    IsNumbered 0 (IsPair IsConstantExpression IsFunctionItems) bytes (offset, functions)
IsElementOf PassiveElement bytes (FunctionItems functions) =
    IsNumbered 1 IsKindAndItems bytes functions
IsElementOf (ActiveElement (Some table) offset) bytes (FunctionItems functions) =
    IsNumbered 2 (IsPair IsU32 (IsPair IsConstantExpression IsKindAndItems)) bytes (table, (offset, functions))
IsElementOf DeclaredElement bytes (FunctionItems functions) =
    IsNumbered 3 IsKindAndItems bytes functions
IsElementOf (ActiveElement None offset) bytes (ExpressionItems type expressions) =
    (type ≡ funcref) × IsNumbered 4 (IsPair IsConstantExpression IsExpressionItems) bytes (offset, expressions)
IsElementOf PassiveElement bytes (ExpressionItems type expressions) =
    IsNumbered 5 (IsPair IsRefType IsExpressionItems) bytes (type, expressions)
IsElementOf (ActiveElement (Some table) offset) bytes (ExpressionItems type expressions) =
    IsNumbered 6 (IsPair IsU32 (IsPair IsConstantExpression (IsPair IsRefType IsExpressionItems))) bytes (table, (offset, (type, expressions)))
IsElementOf DeclaredElement bytes (ExpressionItems type expressions) =
    IsNumbered 7 (IsPair IsRefType IsExpressionItems) bytes (type, expressions)

abbrev pub IsElementSegment : List ℕ → ElementSegment → Type 0
IsElementSegment bytes segment = IsElementOf segment.mode bytes segment.items

-- the bytes of a data segment: how many, and they themselves
abbrev pub IsContents : List ℕ → List ℕ → Type 0
IsContents bytes contents = IsFramed IsBytes bytes contents

-- the three forms of data segments (Modules, "Data Section")
abbrev pub IsDataOf : DataMode → List ℕ → List ℕ → Type 0
IsDataOf (ActiveData None offset) bytes contents = IsNumbered 0 (IsPair IsConstantExpression IsContents) bytes (offset, contents)
IsDataOf PassiveData bytes contents = IsNumbered 1 IsContents bytes contents
IsDataOf (ActiveData (Some memory) offset) bytes contents =
    IsNumbered 2 (IsPair IsU32 (IsPair IsConstantExpression IsContents)) bytes (memory, (offset, contents))

abbrev pub IsDataSegment : List ℕ → DataSegment → Type 0
IsDataSegment bytes segment = IsDataOf segment.mode bytes segment.contents

-- ---- bodies

-- A function's body is the bytes of its frame; what they say is asked where bodies are typed. (In the standard it is part of the grammar
-- of modules: Modules, "Code Section".)
abbrev pub IsBody : List ℕ → List ℕ → Type 0
IsBody bytes body = IsFramed IsBytes bytes body
