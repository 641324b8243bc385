-- The limit on types is kept by each entry that passes no limit.
use Rattle.std.proofs.Common.{◌≡◌, ◌≤◌, ℕ, true, List, [], ◌∷◌, length, Option, Some, None, refl, arith, rules}
use Rattle.std.specs.Prelude.{not, suc}
use Rattle.std.proofs.lemmas.Bool.{and_parts}
use Rattle.wasm_spec.specs.Limits.{Types, most}
use Rattle.wasm_spec.specs.Syntax.{imported_by}
use Rattle.wasm_spec.specs.Trees.{DefType, types_after}
use Rattle.wasm_spec.specs.Types.{RecGroup, ExternalType, FuncExternal, TableExternal, MemoryExternal, GlobalExternal, TagExternal}
use Rattle.wasm_validity.specs.Context.{Context, after, after_item, after_items}
use Rattle.wasm_validity.specs.Entries.{Entry, OfCustom, OfType, OfImport, OfFunction, OfTable, OfMemory, OfTags, OfTag, OfGlobal, OfExport, OfStart, OfElement, OfDataCount, OfBody, OfData}
use Rattle.wasm_validity.specs.Rules.{IsWithin, is_past}
use Rattle.wasmparser_module_state.specs.History.{group_in}

items_add_no_type : (cx : Context) (types : List (ExternalType ℕ)) → (after_items cx types).types ≡ cx.types
items_add_no_type cx [] = refl
items_add_no_type cx (FuncExternal function ∷ types) = items_add_no_type (after_item cx (FuncExternal function)) types
items_add_no_type cx (TableExternal type ∷ types) = items_add_no_type (after_item cx (TableExternal type)) types
items_add_no_type cx (MemoryExternal type ∷ types) = items_add_no_type (after_item cx (MemoryExternal type)) types
items_add_no_type cx (GlobalExternal type ∷ types) = items_add_no_type (after_item cx (GlobalExternal type)) types
items_add_no_type cx (TagExternal function ∷ types) = items_add_no_type (after_item cx (TagExternal function)) types

not_past : (n : ℕ) → not (is_past Types n) ≡ true → n ≤ most Types
not_past n e = search (rules, arith)

pub types_within : (cx : Context) (entry : Entry) → IsWithin cx entry → length cx.types ≤ most Types → length (after cx entry).types ≤ most Types
types_within cx (OfType group) within few = not_past _ (and_parts _ _ (and_parts _ _ within.numbers).1).0
types_within cx (OfImport entry) within few = rw (items_add_no_type (record cx { imports = suc cx.imports }) (imported_by entry)) few
types_within cx (OfCustom name) within few = few
types_within cx (OfFunction index) within few = few
types_within cx (OfTable table) within few = few
types_within cx (OfMemory type) within few = few
types_within cx OfTags within few = few
types_within cx (OfTag index) within few = few
types_within cx (OfGlobal global) within few = few
types_within cx (OfExport export) within few = few
types_within cx (OfStart function) within few = few
types_within cx (OfElement segment) within few = few
types_within cx (OfDataCount count) within few = few
types_within cx (OfBody body) within few = few
types_within cx (OfData segment) within few = few

-- the types of a module with those of a group, where there is one
abbrev pub types_with : List DefType → Option (RecGroup ℕ) → List DefType
types_with before (Some group) = types_after before group
types_with before None = before

pub types_after_entry : (cx : Context) (entry : Entry) → (after cx entry).types ≡ types_with cx.types (group_in entry)
types_after_entry cx (OfType group) = refl
types_after_entry cx (OfImport entry) = items_add_no_type (record cx { imports = suc cx.imports }) (imported_by entry)
types_after_entry cx (OfCustom name) = refl
types_after_entry cx (OfFunction index) = refl
types_after_entry cx (OfTable table) = refl
types_after_entry cx (OfMemory type) = refl
types_after_entry cx OfTags = refl
types_after_entry cx (OfTag index) = refl
types_after_entry cx (OfGlobal global) = refl
types_after_entry cx (OfExport export) = refl
types_after_entry cx (OfStart function) = refl
types_after_entry cx (OfElement segment) = refl
types_after_entry cx (OfDataCount count) = refl
types_after_entry cx (OfBody body) = refl
types_after_entry cx (OfData segment) = refl
