-- The index spaces of a context, a type being its index.
use Rattle.std.specs.Prelude.{⊤}
use Rattle.std.proofs.Common.{◌≡◌, ℕ, suc, List, [], ◌∷◌, ◌++◌, length, refl, ap, ◌∙◌, arith, length-append}
use Rattle.wasm_spec.specs.Syntax.{imported_by}
use Rattle.wasm_spec.specs.Types.{SubType, ExternalType, FuncExternal, TableExternal, MemoryExternal, GlobalExternal, TagExternal}
use Rattle.wasm_validity.specs.Context.{Context, after, after_item, after_items}
use Rattle.wasm_validity.specs.Entries.{Entry, OfCustom, OfType, OfImport, OfFunction, OfTable, OfMemory, OfTags, OfTag, OfGlobal, OfExport, OfStart, OfElement, OfDataCount, OfBody, OfData}
use Rattle.wasm_smith_validity.specs.Spaces.{Spaces, spaces_after, with_item, with_items}

-- the index spaces of a context whose types are these
abbrev pub by_index : List (SubType ℕ) → Context → Spaces
by_index types cx = record {
  types = types;
  imported_functions = cx.imported_functions;
  own_functions = cx.own_functions;
  tables = cx.tables;
  memories = cx.memories;
  tags = cx.tags;
  imported_globals = cx.imported_globals;
  own_globals = cx.own_globals;
  exports = cx.exports;
  element_segments = length cx.elements;
  data_segments = cx.segments;
}

-- ---- imported items

pub item_after : (types : List (SubType ℕ)) (cx : Context) (type : ExternalType ℕ) → by_index types (after_item cx type) ≡ with_item (by_index types cx) type
item_after types cx (FuncExternal function) = refl
item_after types cx (TableExternal type) = refl
item_after types cx (MemoryExternal type) = refl
item_after types cx (GlobalExternal type) = refl
item_after types cx (TagExternal function) = refl

items_after : (types : List (SubType ℕ)) (cx : Context) (items : List (ExternalType ℕ)) → by_index types (after_items cx items) ≡ with_items (by_index types cx) items
items_after types cx [] = refl
items_after types cx (type ∷ items) = items_after types (after_item cx type) items ∙ ap (λ k. with_items k items) (item_after types cx type)

-- imports add no types
pub item_types : (cx : Context) (type : ExternalType ℕ) → (after_item cx type).types ≡ cx.types
item_types cx (FuncExternal function) = refl
item_types cx (TableExternal type) = refl
item_types cx (MemoryExternal type) = refl
item_types cx (GlobalExternal type) = refl
item_types cx (TagExternal function) = refl

pub items_types : (cx : Context) (items : List (ExternalType ℕ)) → (after_items cx items).types ≡ cx.types
items_types cx [] = refl
items_types cx (type ∷ items) = items_types (after_item cx type) items ∙ item_types cx type

-- ---- entries

one_more : {A : Type 0} (xs : List A) (x : A) → length (xs ++ x ∷ []) ≡ suc (length xs)
one_more xs x = omega (arith, length-append xs (x ∷ []))

-- an entry behind the types
abbrev pub IsBehind : Entry → Type 0
IsBehind (OfType group) = ⊥
IsBehind _ = ⊤

pub entry_after : (types : List (SubType ℕ)) (cx : Context) (entry : Entry) → IsBehind entry → by_index types (after cx entry) ≡ spaces_after (by_index types cx) entry
entry_after types cx (OfCustom name) h = refl
entry_after types cx (OfType group) h = absurd h
entry_after types cx (OfImport entry) h = items_after types (record cx { imports = suc cx.imports }) (imported_by entry)
entry_after types cx (OfFunction index) h = refl
entry_after types cx (OfTable table) h = refl
entry_after types cx (OfMemory type) h = refl
entry_after types cx OfTags h = refl
entry_after types cx (OfTag index) h = refl
entry_after types cx (OfGlobal global) h = refl
entry_after types cx (OfExport export) h = refl
entry_after types cx (OfStart function) h = refl
entry_after types cx (OfElement segment) h = ap (λ n. record (by_index types cx) { element_segments = n }) (one_more cx.elements _)
entry_after types cx (OfDataCount count) h = refl
entry_after types cx (OfBody body) h = refl
entry_after types cx (OfData segment) h = refl
