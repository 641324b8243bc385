-- What is written in the frames of sections is their shortest encoding, and sections read.
use Rattle.std.proofs.Common.{ℕ, ◌^◌, ◌<◌, Bool, List, [], ◌∷◌, length, map, sym, subst, arith, length-append}
use Rattle.std.specs.List.{AllByRecursion}
use Rattle.std.proofs.lemmas.List.{length-map}
use Rattle.wasm_spec.specs.Bytes.{IsU32, IsItems, IsShortest}
use Rattle.wasm_spec.specs.Grammar.{section_id, IsContent, IsSection}
use Rattle.wasm_spec.specs.ModuleParts.{IsTable, IsImport, IsExport}
use Rattle.wasm_spec.specs.Shortest.{unsigned_encoding, list_encoding, framed_encoding, section_encoding}
use Rattle.wasm_spec.specs.SmallIndexes.{IsSmallIndex}
use Rattle.wasm_spec.specs.Syntax.{Section, ImportEntry, Export, ImportSection, FunctionSection, TableSection, MemorySection, TagSection, ExportSection, StartSection, DataCountSection}
use Rattle.wasm_spec.specs.TypeGrammar.{IsMemoryType, IsTagType, IsTableType}
use Rattle.wasm_spec.specs.Types.{Limits, TableType}
use Rattle.wasm_spec.specs.TypeEncodings.{ref_encoding}
use Rattle.wasm_spec.proofs.Encodings.{section}
use Rattle.wasm_spec.proofs.NumberLaws.{unsigned_spelled, shortest_unsigned}
use Rattle.wasm_spec.proofs.ShortestForms.{list, HasSome}
use Rattle.wasm_spec.proofs.UnsignedEncodings.{some_bytes}
use Rattle.wasm_encoder_sections.specs.ItemEncodings.{bare_table, limits_encoding, table_type_encoding, tag_type_encoding, export_encoding, import_encoding}
use Rattle.wasm_encoder_sections.specs.SmallItems.{IsSmallLimits, IsSmallTable, IsSmallExport, IsSmallImport}
use Rattle.wasm_encoder_sections.proofs.ShortestEntities.{memory, table, tag}
use Rattle.wasm_encoder_sections.proofs.ShortestImports.{export, some_export, entry, some_entry}

some_limits : HasSome limits_encoding
unfolding limits_encoding
some_limits type = omega arith

some_tag : HasSome tag_type_encoding
unfolding tag_type_encoding
some_tag function = omega arith

some_table : HasSome table_type_encoding
unfolding table_type_encoding
some_table type = omega (arith, some_limits type.limits, length-append (ref_encoding type.element_type.nullable type.element_type.heap_type) (limits_encoding type.limits))

bare_items : (types : List (TableType ℕ)) (bytes : List ℕ) → IsItems IsTableType bytes types → IsItems IsTable bytes (map bare_table types)
bare_items [] bytes h = h
bare_items (type ∷ types) bytes h = (h.0, h.1, h.2, h.3, bare_items types h.1 h.4)

types_of_bare : (types : List (TableType ℕ)) (bytes : List ℕ) → IsItems IsTable bytes (map bare_table types) → IsItems IsTableType bytes types
types_of_bare [] bytes h = h
types_of_bare (type ∷ types) bytes h = (h.0, h.1, h.2, h.3, types_of_bare types h.1 h.4)

pub tables : (compact : Bool) (types : List (TableType ℕ)) → AllByRecursion IsSmallTable types → length (list_encoding table_type_encoding types) < 2 ^ 32
    → IsShortest (IsContent compact) (list_encoding table_type_encoding types) (TableSection (map bare_table types))
tables compact types small short =
    let s = list IsTableType table_type_encoding IsSmallTable some_table (λ type h fits. table type h) types small short in
    let e = s.encodes in let n = length-map types bare_table in
    record {
      encodes = (e.0, e.1, e.2, subst (IsU32 e.0) (sym n) e.3, bare_items types e.1 e.4);
      shortest = λ other h. s.shortest other (h.0, h.1, h.2, subst (IsU32 h.0) n h.3, types_of_bare types h.1 h.4);
    }

pub functions : (compact : Bool) (indexes : List ℕ) → AllByRecursion IsSmallIndex indexes → length (list_encoding unsigned_encoding indexes) < 2 ^ 32
    → IsShortest (IsContent compact) (list_encoding unsigned_encoding indexes) (FunctionSection indexes)
functions compact indexes small short =
    let s = list IsU32 unsigned_encoding IsSmallIndex some_bytes (λ n h fits. shortest_unsigned 32 n h) indexes small short in
    record { encodes = s.encodes; shortest = λ other h. s.shortest other h }

pub memories : (compact : Bool) (types : List Limits) → AllByRecursion IsSmallLimits types → length (list_encoding limits_encoding types) < 2 ^ 32
    → IsShortest (IsContent compact) (list_encoding limits_encoding types) (MemorySection types)
memories compact types small short =
    let s = list IsMemoryType limits_encoding IsSmallLimits some_limits (λ type h fits. memory type h) types small short in
    record { encodes = s.encodes; shortest = λ other h. s.shortest other h }

pub tags : (compact : Bool) (indexes : List ℕ) → AllByRecursion IsSmallIndex indexes → length (list_encoding tag_type_encoding indexes) < 2 ^ 32
    → IsShortest (IsContent compact) (list_encoding tag_type_encoding indexes) (TagSection indexes)
tags compact indexes small short =
    let s = list IsTagType tag_type_encoding IsSmallIndex some_tag (λ n h fits. tag n h) indexes small short in
    record { encodes = s.encodes; shortest = λ other h. s.shortest other h }

pub exports : (compact : Bool) (items : List Export) → AllByRecursion IsSmallExport items → length (list_encoding export_encoding items) < 2 ^ 32
    → IsShortest (IsContent compact) (list_encoding export_encoding items) (ExportSection items)
exports compact items small short =
    let s = list IsExport export_encoding IsSmallExport some_export export items small short in
    record { encodes = s.encodes; shortest = λ other h. s.shortest other h }

pub imports : (compact : Bool) (entries : List ImportEntry) → AllByRecursion (IsSmallImport compact) entries → length (list_encoding import_encoding entries) < 2 ^ 32
    → IsShortest (IsContent compact) (list_encoding import_encoding entries) (ImportSection entries)
imports compact entries small short =
    let s = list (IsImport compact) import_encoding (IsSmallImport compact) some_entry (entry compact) entries small short in
    record { encodes = s.encodes; shortest = λ other h. s.shortest other h }

pub start : (compact : Bool) (function : ℕ) → IsSmallIndex function → IsShortest (IsContent compact) (unsigned_encoding function) (StartSection function)
start compact function small = let s = shortest_unsigned 32 function small in record { encodes = s.encodes; shortest = λ other h. s.shortest other h }

pub data_count : (compact : Bool) (count : ℕ) → IsSmallIndex count → IsShortest (IsContent compact) (unsigned_encoding count) (DataCountSection count)
data_count compact count small = let s = shortest_unsigned 32 count small in record { encodes = s.encodes; shortest = λ other h. s.shortest other h }

-- a section, from its content
pub reads : (compact : Bool) (content : List ℕ) (s : Section) → IsContent compact content s → length content < 2 ^ 32 → IsSection compact (section_encoding (section_id s) content) s
unfolding section_encoding framed_encoding
reads compact content s h short = section compact (unsigned_encoding (length content)) content s (unsigned_spelled 32 (length content) short) h
