-- The encodings of constant expressions, of the entries of sections and of sections are bytes.
use Rattle.std.proofs.Common.{◌<◌, ℕ, Bool, List, [], ◌∷◌, Option, Some, None, arith}
use Rattle.wasm_spec.specs.Bytes.{AreBytes, IsBytes, IsBytesOf, IsU32, IsS32, IsS64, IsF32, IsF64, IsPair, IsMarked, IsNumbered, IsList, IsFramed, IsName}
use Rattle.wasm_spec.specs.ConstantGrammar.{end_code, IsConstantOperator, IsConstantExpression}
use Rattle.wasm_spec.specs.Constants.{I32Const, I64Const, F32Const, F64Const, V128Const, RefNull, RefFunc, GlobalGet, I32Add, I32Sub, I32Mul, I64Add, I64Sub, I64Mul, StructNew, StructNewDefault, ArrayNew, ArrayNewDefault, ArrayNewFixed, AnyConvertExtern, ExternConvertAny, RefI31, ConstantExpression}
use Rattle.wasm_spec.specs.Grammar.{section_id, IsContent, IsSection}
use Rattle.wasm_spec.specs.ModuleParts.{IsImportItem, IsImport, IsExport, IsTableWith, IsTable, IsGlobal, IsFunctionItems, IsKindAndItems, IsExpressionItems, IsElementOf, IsElementSegment, IsContents, IsDataOf, IsDataSegment, IsBody}
use Rattle.wasm_spec.specs.Syntax.{Import, CompactItems, CompactNames, ElementMode, ActiveElement, PassiveElement, DeclaredElement, ElementItems, FunctionItems, ExpressionItems, DataMode, ActiveData, PassiveData, Section, Custom, TypeSection, ImportSection, FunctionSection, TableSection, MemorySection, TagSection, GlobalSection, ExportSection, StartSection, ElementSection, DataCountSection, CodeSection, DataSection}
use Rattle.wasm_spec.specs.TypeGrammar.{IsHeapType, IsRefType, IsRecGroup, IsMemoryType, IsTableType, IsGlobalType, IsTagType, IsExternalKind, IsExternalType}
use Rattle.wasm_spec.proofs.EncodingBytes.{HasBytes, parted, one_byte, of_bytes, of_bytes_of, of_u32, of_s32, of_s64, of_float, of_pair, of_marked, of_numbered, of_items, of_list, of_framed, of_name}
use Rattle.wasm_spec.proofs.TypeBytes.{of_heap_type, of_ref_type, of_group, of_limits, of_table_type, of_global_type, of_tag_type, of_kind, of_external}

-- ---- constant expressions

of_aggregate : {A : Type 0} (code : ℕ) (IsA : List ℕ → A → Type 0) → HasBytes IsA → HasBytes (IsMarked 0xfb (IsNumbered code IsA))
of_aggregate code IsA of_a = of_marked 0xfb (IsNumbered code IsA) (omega arith) (of_numbered code IsA of_a)

of_operator : HasBytes IsConstantOperator
of_operator encoding (I32Const n) h = of_marked 0x41 IsS32 (omega arith) of_s32 encoding n h
of_operator encoding (I64Const n) h = of_marked 0x42 IsS64 (omega arith) of_s64 encoding n h
of_operator encoding (F32Const bits) h = of_marked 0x43 IsF32 (omega arith) (of_float 4) encoding bits h
of_operator encoding (F64Const bits) h = of_marked 0x44 IsF64 (omega arith) (of_float 8) encoding bits h
of_operator encoding (V128Const bytes) h = of_marked 0xfd (IsNumbered 12 (IsBytesOf 16)) (omega arith) (of_numbered 12 (IsBytesOf 16) (of_bytes_of 16)) encoding bytes h
of_operator encoding (RefNull heap) h = of_marked 0xd0 IsHeapType (omega arith) of_heap_type encoding heap h
of_operator encoding (RefFunc function) h = of_marked 0xd2 IsU32 (omega arith) of_u32 encoding function h
of_operator encoding (GlobalGet global) h = of_marked 0x23 IsU32 (omega arith) of_u32 encoding global h
of_operator encoding I32Add h = one_byte encoding 0x6a h (omega arith)
of_operator encoding I32Sub h = one_byte encoding 0x6b h (omega arith)
of_operator encoding I32Mul h = one_byte encoding 0x6c h (omega arith)
of_operator encoding I64Add h = one_byte encoding 0x7c h (omega arith)
of_operator encoding I64Sub h = one_byte encoding 0x7d h (omega arith)
of_operator encoding I64Mul h = one_byte encoding 0x7e h (omega arith)
of_operator encoding (StructNew type) h = of_aggregate 0 IsU32 of_u32 encoding type h
of_operator encoding (StructNewDefault type) h = of_aggregate 1 IsU32 of_u32 encoding type h
of_operator encoding (ArrayNew type) h = of_aggregate 6 IsU32 of_u32 encoding type h
of_operator encoding (ArrayNewDefault type) h = of_aggregate 7 IsU32 of_u32 encoding type h
of_operator encoding (ArrayNewFixed type count) h = of_aggregate 8 (IsPair IsU32 IsU32) (of_pair IsU32 IsU32 of_u32 of_u32) encoding _ h
of_operator encoding AnyConvertExtern h = of_marked 0xfb IsU32 (omega arith) of_u32 encoding 26 h
of_operator encoding ExternConvertAny h = of_marked 0xfb IsU32 (omega arith) of_u32 encoding 27 h
of_operator encoding RefI31 h = of_marked 0xfb IsU32 (omega arith) of_u32 encoding 28 h

of_constant : HasBytes IsConstantExpression
of_constant bytes operators h = parted bytes h.0 (end_code ∷ []) h.1 (of_items IsConstantOperator of_operator h.0 operators h.2) (omega arith, tt)

-- ---- entries

of_item : HasBytes IsImportItem
of_item bytes item h = of_pair IsName IsExternalType of_name of_external bytes _ h

of_import : (compact : Bool) → HasBytes (IsImport compact)
of_import compact bytes (Import origin name type) h = of_pair IsName (IsPair IsName IsExternalType) of_name (of_pair IsName IsExternalType of_name of_external) bytes _ h
of_import compact bytes (CompactItems origin items) h =
    of_pair IsName (IsMarked 0x00 (IsMarked 0x7f (IsList IsImportItem))) of_name
    (of_marked 0x00 (IsMarked 0x7f (IsList IsImportItem)) (omega arith) (of_marked 0x7f (IsList IsImportItem) (omega arith) (of_list IsImportItem of_item))) bytes _ h.1
of_import compact bytes (CompactNames origin type names) h =
    of_pair IsName (IsMarked 0x00 (IsMarked 0x7e (IsPair IsExternalType (IsList IsName)))) of_name
    (of_marked 0x00 (IsMarked 0x7e (IsPair IsExternalType (IsList IsName))) (omega arith)
    (of_marked 0x7e (IsPair IsExternalType (IsList IsName)) (omega arith) (of_pair IsExternalType (IsList IsName) of_external (of_list IsName of_name)))) bytes _ h.1

of_export : HasBytes IsExport
of_export bytes export h = of_pair IsName (IsPair IsExternalKind IsU32) of_name (of_pair IsExternalKind IsU32 of_kind of_u32) bytes _ h

of_table_with : (initialiser : Option ConstantExpression) → HasBytes (IsTableWith initialiser)
of_table_with None bytes type h = of_table_type bytes type h
of_table_with (Some initialiser) bytes type h =
    of_marked 0x40 (IsMarked 0x00 (IsPair IsTableType IsConstantExpression)) (omega arith)
    (of_marked 0x00 (IsPair IsTableType IsConstantExpression) (omega arith) (of_pair IsTableType IsConstantExpression of_table_type of_constant)) bytes _ h

of_table : HasBytes IsTable
of_table bytes table h = of_table_with table.initialiser bytes table.type h

of_global : HasBytes IsGlobal
of_global bytes global h = of_pair IsGlobalType IsConstantExpression of_global_type of_constant bytes _ h

of_functions : HasBytes IsFunctionItems
of_functions bytes functions h = of_list IsU32 of_u32 bytes functions h

of_kind_and_items : HasBytes IsKindAndItems
of_kind_and_items bytes functions h = of_marked 0x00 IsFunctionItems (omega arith) of_functions bytes functions h

of_expressions : HasBytes IsExpressionItems
of_expressions bytes expressions h = of_list IsConstantExpression of_constant bytes expressions h

of_typed : HasBytes (IsPair IsRefType IsExpressionItems)
of_typed = of_pair IsRefType IsExpressionItems of_ref_type of_expressions

of_element : (mode : ElementMode) (items : ElementItems) (bytes : List ℕ) → IsElementOf mode bytes items → AreBytes bytes
of_element (ActiveElement None offset) (FunctionItems functions) bytes h =
    of_numbered 0 (IsPair IsConstantExpression IsFunctionItems) (of_pair IsConstantExpression IsFunctionItems of_constant of_functions) bytes _ h
of_element PassiveElement (FunctionItems functions) bytes h = of_numbered 1 IsKindAndItems of_kind_and_items bytes functions h
of_element (ActiveElement (Some table) offset) (FunctionItems functions) bytes h =
    of_numbered 2 (IsPair IsU32 (IsPair IsConstantExpression IsKindAndItems))
    (of_pair IsU32 (IsPair IsConstantExpression IsKindAndItems) of_u32 (of_pair IsConstantExpression IsKindAndItems of_constant of_kind_and_items)) bytes _ h
of_element DeclaredElement (FunctionItems functions) bytes h = of_numbered 3 IsKindAndItems of_kind_and_items bytes functions h
of_element (ActiveElement None offset) (ExpressionItems type expressions) bytes h =
    of_numbered 4 (IsPair IsConstantExpression IsExpressionItems) (of_pair IsConstantExpression IsExpressionItems of_constant of_expressions) bytes _ h.1
of_element PassiveElement (ExpressionItems type expressions) bytes h = of_numbered 5 (IsPair IsRefType IsExpressionItems) of_typed bytes _ h
of_element (ActiveElement (Some table) offset) (ExpressionItems type expressions) bytes h =
    of_numbered 6 (IsPair IsU32 (IsPair IsConstantExpression (IsPair IsRefType IsExpressionItems)))
    (of_pair IsU32 (IsPair IsConstantExpression (IsPair IsRefType IsExpressionItems)) of_u32
    (of_pair IsConstantExpression (IsPair IsRefType IsExpressionItems) of_constant of_typed)) bytes _ h
of_element DeclaredElement (ExpressionItems type expressions) bytes h = of_numbered 7 (IsPair IsRefType IsExpressionItems) of_typed bytes _ h

of_segment : HasBytes IsElementSegment
of_segment bytes segment h = of_element segment.mode segment.items bytes h

of_contents : HasBytes IsContents
of_contents bytes contents h = of_framed IsBytes of_bytes bytes contents h

of_data_of : (mode : DataMode) → HasBytes (IsDataOf mode)
of_data_of (ActiveData None offset) bytes contents h =
    of_numbered 0 (IsPair IsConstantExpression IsContents) (of_pair IsConstantExpression IsContents of_constant of_contents) bytes _ h
of_data_of PassiveData bytes contents h = of_numbered 1 IsContents of_contents bytes contents h
of_data_of (ActiveData (Some memory) offset) bytes contents h =
    of_numbered 2 (IsPair IsU32 (IsPair IsConstantExpression IsContents))
    (of_pair IsU32 (IsPair IsConstantExpression IsContents) of_u32 (of_pair IsConstantExpression IsContents of_constant of_contents)) bytes _ h

of_data : HasBytes IsDataSegment
of_data bytes segment h = of_data_of segment.mode bytes segment.contents h

of_body : HasBytes IsBody
of_body bytes body h = of_framed IsBytes of_bytes bytes body h

-- ---- sections

of_content : (compact : Bool) → HasBytes (IsContent compact)
of_content compact bytes (Custom name contents) h = of_pair IsName IsBytes of_name of_bytes bytes _ h
of_content compact bytes (TypeSection groups) h = of_list IsRecGroup of_group bytes groups h
of_content compact bytes (ImportSection imports) h = of_list (IsImport compact) (of_import compact) bytes imports h
of_content compact bytes (FunctionSection indexes) h = of_list IsU32 of_u32 bytes indexes h
of_content compact bytes (TableSection tables) h = of_list IsTable of_table bytes tables h
of_content compact bytes (MemorySection types) h = of_list IsMemoryType of_limits bytes types h
of_content compact bytes (TagSection indexes) h = of_list IsTagType of_tag_type bytes indexes h
of_content compact bytes (GlobalSection globals) h = of_list IsGlobal of_global bytes globals h
of_content compact bytes (ExportSection exports) h = of_list IsExport of_export bytes exports h
of_content compact bytes (StartSection function) h = of_u32 bytes function h
of_content compact bytes (ElementSection segments) h = of_list IsElementSegment of_segment bytes segments h
of_content compact bytes (DataCountSection count) h = of_u32 bytes count h
of_content compact bytes (CodeSection bodies) h = of_list IsBody of_body bytes bodies h
of_content compact bytes (DataSection segments) h = of_list IsDataSegment of_data bytes segments h

id_byte : (section : Section) → section_id section < 256
id_byte (Custom name contents) = omega arith
id_byte (TypeSection groups) = omega arith
id_byte (ImportSection imports) = omega arith
id_byte (FunctionSection indexes) = omega arith
id_byte (TableSection tables) = omega arith
id_byte (MemorySection types) = omega arith
id_byte (TagSection indexes) = omega arith
id_byte (GlobalSection globals) = omega arith
id_byte (ExportSection exports) = omega arith
id_byte (StartSection function) = omega arith
id_byte (ElementSection segments) = omega arith
id_byte (DataCountSection count) = omega arith
id_byte (CodeSection bodies) = omega arith
id_byte (DataSection segments) = omega arith

pub of_section : (compact : Bool) → HasBytes (IsSection compact)
of_section compact bytes section h =
    of_marked (section_id section) (IsFramed (IsContent compact)) (id_byte section) (of_framed (IsContent compact) (of_content compact)) bytes section h
