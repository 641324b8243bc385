-- The index spaces of the sections that a made module is written as.
use Rattle.std.proofs.Common.{◌≡◌, ◌↔◌, ℕ, suc, Bool, List, [], ◌∷◌, ◌++◌, map, refl, sym, ap, subst, ◌∙◌, append_assoc, if◌then◌else◌}
use Rattle.std.specs.List.{flat_map}
use Rattle.std.specs.Option.{option_to_list}
use Rattle.std.proofs.lemmas.List.{append-nil}
use Rattle.wasm_spec.specs.Syntax.{DataSegment, ElementSegment, Export as WrittenExport, Global, ImportEntry, Table, imported_by}
use Rattle.wasm_spec.specs.Trees.{DefType, section_types, types_after, types_from}
use Rattle.wasm_spec.specs.Types.{RecGroup, RefType, MemoryType, TableType, GlobalType, ExternalType, FuncExternal, TableExternal, MemoryExternal, GlobalExternal, TagExternal, ExternalKind, FuncKind, TableKind, MemoryKind, GlobalKind, TagKind}
use Rattle.wasm_validity.specs.Context.{Context, after, after_all, after_item, after_items, at_first, element_type}
use Rattle.wasm_validity.specs.Entries.{Entry, OfType, OfImport, OfFunction, OfTable, OfMemory, OfTag, OfGlobal, OfExport, OfStart, OfElement, OfBody, OfData, entries_of}
use Rattle.wasm_validity.specs.ImportedItems.{Imported}
use Rattle.wasm_validity.specs.IndexSpaces.{Spaces, spaces_of}
use Rattle.wasm_smith_validity.specs.Made.{Made}
use Rattle.wasm_smith_validity.specs.Sections.{kinds_with, sections_with}
use Rattle.wasm_smith_validity.proofs.CustomSections.{after_between}
use Rattle.wasm_smith_validity.proofs.MadeGroups.{of_groups}
use Rattle.wasm_smith_validity.proofs.MadeSections.{behind_types_said, of_count, of_tags, sections_say}
use Rattle.wasm_gen_view.specs.MadeSpaces.{functions_among, globals_among, imported_types, made_spaces, memories_among, tables_among, tags_among}
use Rattle.wasm_gen_view.specs.Views.{HasTypes, IsViewOf, exports_of, item_in}
use Rattle.wasm_gen_view.specs.declared.view.View.{View}

-- ---- the spaces of a context

-- imported functions and globals apart from the module's own, as contexts have them
record Lists : Type 0 where
  types : List DefType
  imported_functions : List ℕ
  own_functions : List ℕ
  tables : List (TableType ℕ)
  memories : List MemoryType
  imported_globals : List (GlobalType ℕ)
  own_globals : List (GlobalType ℕ)
  tags : List ℕ
  elements : List (RefType ℕ)
  exports : List WrittenExport

abbrev lists_in : Context → Lists
lists_in cx = record {
  types = cx.types;
  imported_functions = cx.imported_functions;
  own_functions = cx.own_functions;
  tables = cx.tables;
  memories = cx.memories;
  imported_globals = cx.imported_globals;
  own_globals = cx.own_globals;
  tags = cx.tags;
  elements = cx.elements;
  exports = cx.exports;
}

abbrev spaces_with : Lists → List Imported → Spaces
spaces_with l imported = record {
  types = l.types;
  functions = l.imported_functions ++ l.own_functions;
  tables = l.tables;
  memories = l.memories;
  globals = l.imported_globals ++ l.own_globals;
  tags = l.tags;
  elements = l.elements;
  imported = imported;
  exports = l.exports;
}

abbrev with_item : Lists → ExternalType ℕ → Lists
with_item l (FuncExternal function) = record l { imported_functions = l.imported_functions ++ function ∷ [] }
with_item l (TableExternal type) = record l { tables = l.tables ++ type ∷ [] }
with_item l (MemoryExternal type) = record l { memories = l.memories ++ type ∷ [] }
with_item l (GlobalExternal type) = record l { imported_globals = l.imported_globals ++ type ∷ [] }
with_item l (TagExternal function) = record l { tags = l.tags ++ function ∷ [] }

abbrev with_items : Lists → List (ExternalType ℕ) → Lists
with_items l [] = l
with_items l (type ∷ types) = with_items (with_item l type) types

abbrev with_entry : Lists → Entry → Lists
with_entry l (OfType group) = record l { types = types_after l.types group }
with_entry l (OfImport entry) = with_items l (imported_by entry)
with_entry l (OfFunction index) = record l { own_functions = l.own_functions ++ index ∷ [] }
with_entry l (OfTable table) = record l { tables = l.tables ++ table.type ∷ [] }
with_entry l (OfMemory type) = record l { memories = l.memories ++ type ∷ [] }
with_entry l (OfTag index) = record l { tags = l.tags ++ index ∷ [] }
with_entry l (OfGlobal global) = record l { own_globals = l.own_globals ++ global.type ∷ [] }
with_entry l (OfExport export) = record l { exports = l.exports ++ export ∷ [] }
with_entry l (OfElement segment) = record l { elements = l.elements ++ element_type segment.items ∷ [] }
with_entry l _ = l

with_entries : Lists → List Entry → Lists
with_entries l [] = l
with_entries l (entry ∷ entries) = with_entries (with_entry l entry) entries

item_after : (cx : Context) (type : ExternalType ℕ) → lists_in (after_item cx type) ≡ with_item (lists_in cx) type
item_after cx (FuncExternal function) = refl
item_after cx (TableExternal type) = refl
item_after cx (MemoryExternal type) = refl
item_after cx (GlobalExternal type) = refl
item_after cx (TagExternal function) = refl

items_after : (cx : Context) (types : List (ExternalType ℕ)) → lists_in (after_items cx types) ≡ with_items (lists_in cx) types
items_after cx [] = refl
items_after cx (type ∷ types) = items_after (after_item cx type) types ∙ ap (λ l. with_items l types) (item_after cx type)

entry_after : (cx : Context) (entry : Entry) → lists_in (after cx entry) ≡ with_entry (lists_in cx) entry
entry_after cx (OfImport entry) = items_after (record cx { imports = suc cx.imports }) (imported_by entry)
entry_after cx _ = refl

entries_after : (cx : Context) (entries : List Entry) → lists_in (after_all cx entries) ≡ with_entries (lists_in cx) entries
unfolding with_entries
entries_after cx [] = refl
entries_after cx (entry ∷ entries) = entries_after (after cx entry) entries ∙ ap (λ l. with_entries l entries) (entry_after cx entry)

-- ---- entries of one kind, before others

same_items : {A : Type 0} (xs : List A) → map (λ x. x) xs ≡ xs
same_items [] = refl
same_items (x ∷ xs) = ap (λ ys. x ∷ ys) (same_items xs)

-- they lengthen one list
each_after : {A B : Type 0} (entry : A → Entry) (view : A → B) (put : List B → Lists) → ((xs : List B) (item : A) → with_entry (put xs) (entry item) ≡ put (xs ++ view item ∷ []))
    → (xs : List B) (items : List A) (rest : List Entry) → with_entries (put xs) (map entry items ++ rest) ≡ with_entries (put (xs ++ map view items)) rest
unfolding with_entries
each_after entry view put one xs [] rest = ap (λ ys. with_entries (put ys) rest) (sym (append-nil xs))
each_after entry view put one xs (item ∷ items) rest =
    ap (λ l. with_entries l (map entry items ++ rest)) (one xs item)
    ∙ each_after entry view put one (xs ++ view item ∷ []) items rest
    ∙ ap (λ ys. with_entries (put ys) rest) (append_assoc xs (view item ∷ []) (map view items))

all_after : {A : Type 0} (entry : A → Entry) (put : List A → Lists) → ((xs : List A) (item : A) → with_entry (put xs) (entry item) ≡ put (xs ++ item ∷ []))
    → (xs items : List A) (rest : List Entry) → with_entries (put xs) (map entry items ++ rest) ≡ with_entries (put (xs ++ items)) rest
all_after entry put one xs items rest = each_after entry (λ x. x) put one xs items rest ∙ ap (λ ys. with_entries (put (xs ++ ys)) rest) (same_items items)

-- or leave all as it is
none_after : {A : Type 0} (entry : A → Entry) → ((l : Lists) (item : A) → with_entry l (entry item) ≡ l) → (l : Lists) (items : List A) (rest : List Entry)
    → with_entries l (map entry items ++ rest) ≡ with_entries l rest
unfolding with_entries
none_after entry none l [] rest = refl
none_after entry none l (item ∷ items) rest = ap (λ k. with_entries k (map entry items ++ rest)) (none l item) ∙ none_after entry none l items rest

groups_after : (l : Lists) (groups : List (RecGroup ℕ)) (rest : List Entry) → with_entries l (of_groups groups ++ rest) ≡ with_entries (record l { types = types_from l.types groups }) rest
unfolding with_entries
groups_after l [] rest = refl
groups_after l (group ∷ groups) rest = groups_after (with_entry l (OfType group)) groups rest

functions_after : (l : Lists) (indexes : List ℕ) (rest : List Entry)
    → with_entries l (map (λ x. OfFunction x) indexes ++ rest) ≡ with_entries (record l { own_functions = l.own_functions ++ indexes }) rest
functions_after l indexes rest = all_after (λ x. OfFunction x) (λ xs. record l { own_functions = xs }) (λ xs x. refl) l.own_functions indexes rest

tables_after : (l : Lists) (tables : List Table) (rest : List Entry)
    → with_entries l (map (λ x. OfTable x) tables ++ rest) ≡ with_entries (record l { tables = l.tables ++ map (λ table. table.type) tables }) rest
tables_after l tables rest = each_after (λ x. OfTable x) (λ table. table.type) (λ xs. record l { tables = xs }) (λ xs x. refl) l.tables tables rest

memories_after : (l : Lists) (types : List MemoryType) (rest : List Entry)
    → with_entries l (map (λ x. OfMemory x) types ++ rest) ≡ with_entries (record l { memories = l.memories ++ types }) rest
memories_after l types rest = all_after (λ x. OfMemory x) (λ xs. record l { memories = xs }) (λ xs x. refl) l.memories types rest

tags_after : (l : Lists) (indexes : List ℕ) (rest : List Entry) → with_entries l (of_tags indexes ++ rest) ≡ with_entries (record l { tags = l.tags ++ indexes }) rest
unfolding with_entries
tags_after l [] rest = ap (λ xs. with_entries (record l { tags = xs }) rest) (sym (append-nil l.tags))
tags_after l (index ∷ indexes) rest = all_after (λ x. OfTag x) (λ xs. record l { tags = xs }) (λ xs x. refl) l.tags (index ∷ indexes) rest

globals_after : (l : Lists) (globals : List Global) (rest : List Entry)
    → with_entries l (map (λ x. OfGlobal x) globals ++ rest) ≡ with_entries (record l { own_globals = l.own_globals ++ map (λ global. global.type) globals }) rest
globals_after l globals rest = each_after (λ x. OfGlobal x) (λ global. global.type) (λ xs. record l { own_globals = xs }) (λ xs x. refl) l.own_globals globals rest

exports_after : (l : Lists) (exports : List WrittenExport) (rest : List Entry)
    → with_entries l (map (λ x. OfExport x) exports ++ rest) ≡ with_entries (record l { exports = l.exports ++ exports }) rest
exports_after l exports rest = all_after (λ x. OfExport x) (λ xs. record l { exports = xs }) (λ xs x. refl) l.exports exports rest

elements_after : (l : Lists) (segments : List ElementSegment) (rest : List Entry)
    → with_entries l (map (λ x. OfElement x) segments ++ rest) ≡ with_entries (record l { elements = l.elements ++ map (λ segment. element_type segment.items) segments }) rest
elements_after l segments rest = each_after (λ x. OfElement x) (λ segment. element_type segment.items) (λ xs. record l { elements = xs }) (λ xs x. refl) l.elements segments rest

count_after : (l : Lists) (segments : List DataSegment) (rest : List Entry) → with_entries l (of_count segments ++ rest) ≡ with_entries l rest
unfolding with_entries
count_after l [] rest = refl
count_after l (segment ∷ segments) rest = refl

data_after : (l : Lists) (segments : List DataSegment) → with_entries l (map (λ x. OfData x) segments) ≡ l
unfolding with_entries
data_after l [] = refl
data_after l (segment ∷ segments) = data_after l segments

-- ---- imports

abbrev with_among : Lists → List (ExternalType ℕ) → Lists
with_among l types = record l {
  imported_functions = l.imported_functions ++ functions_among types;
  tables = l.tables ++ tables_among types;
  memories = l.memories ++ memories_among types;
  imported_globals = l.imported_globals ++ globals_among types;
  tags = l.tags ++ tags_among types;
}

items_among : (l : Lists) (types : List (ExternalType ℕ)) → with_items l types ≡ with_among l types
items_among l [] = rw (append-nil l.imported_functions, append-nil l.tables, append-nil l.memories, append-nil l.imported_globals, append-nil l.tags) refl
items_among l (FuncExternal function ∷ types) =
    items_among (with_item l (FuncExternal function)) types
    ∙ ap (λ xs. record (with_among l types) { imported_functions = xs }) (append_assoc l.imported_functions (function ∷ []) (functions_among types))
items_among l (TableExternal type ∷ types) =
    items_among (with_item l (TableExternal type)) types ∙ ap (λ xs. record (with_among l types) { tables = xs }) (append_assoc l.tables (type ∷ []) (tables_among types))
items_among l (MemoryExternal type ∷ types) =
    items_among (with_item l (MemoryExternal type)) types ∙ ap (λ xs. record (with_among l types) { memories = xs }) (append_assoc l.memories (type ∷ []) (memories_among types))
items_among l (GlobalExternal type ∷ types) =
    items_among (with_item l (GlobalExternal type)) types
    ∙ ap (λ xs. record (with_among l types) { imported_globals = xs }) (append_assoc l.imported_globals (type ∷ []) (globals_among types))
items_among l (TagExternal function ∷ types) =
    items_among (with_item l (TagExternal function)) types ∙ ap (λ xs. record (with_among l types) { tags = xs }) (append_assoc l.tags (function ∷ []) (tags_among types))

items_append : (l : Lists) (xs ys : List (ExternalType ℕ)) → with_items (with_items l xs) ys ≡ with_items l (xs ++ ys)
items_append l [] ys = refl
items_append l (x ∷ xs) ys = items_append (with_item l x) xs ys

items_said : (l : Lists) (imports : List ImportEntry) (rest : List Entry)
    → with_entries l (map (λ x. OfImport x) imports ++ rest) ≡ with_entries (with_items l (flat_map imported_by imports)) rest
unfolding with_entries
items_said l [] rest = refl
items_said l (entry ∷ imports) rest =
    items_said (with_items l (imported_by entry)) imports rest ∙ ap (λ k. with_entries k rest) (items_append l (imported_by entry) (flat_map imported_by imports))

imports_after : (l : Lists) (imports : List ImportEntry) (rest : List Entry)
    → with_entries l (map (λ x. OfImport x) imports ++ rest) ≡ with_entries (with_among l (flat_map imported_by imports)) rest
imports_after l imports rest = items_said l imports rest ∙ ap (λ k. with_entries k rest) (items_among l (flat_map imported_by imports))

-- ---- all sections

abbrev made_lists : Made → Lists
made_lists m = record {
  types = section_types m.groups;
  imported_functions = functions_among (imported_types m);
  own_functions = m.funcs;
  tables = tables_among (imported_types m) ++ map (λ table. table.type) m.tables;
  memories = memories_among (imported_types m) ++ m.memories;
  imported_globals = globals_among (imported_types m);
  own_globals = map (λ global. global.type) m.globals;
  tags = tags_among (imported_types m) ++ m.tags;
  elements = map (λ segment. element_type segment.items) m.elems;
  exports = m.exports;
}

lists_said : (counted : Bool) (bodies : List (List ℕ)) (m : Made) → with_entries (lists_in at_first) (of_groups m.groups ++ behind_types_said counted bodies m) ≡ made_lists m
lists_said counted bodies m =
    groups_after _ m.groups _
    ∙ imports_after _ m.imports _
    ∙ functions_after _ m.funcs _
    ∙ tables_after _ m.tables _
    ∙ memories_after _ m.memories _
    ∙ tags_after _ m.tags _
    ∙ globals_after _ m.globals _
    ∙ exports_after _ m.exports _
    ∙ none_after (λ x. OfStart x) (λ l x. refl) _ (option_to_list m.start) _
    ∙ elements_after _ m.elems _
    ∙ count_after _ (if counted then m.data_segments else []) _
    ∙ none_after (λ x. OfBody x) (λ l x. refl) _ bodies _
    ∙ data_after _ m.data_segments

lists_written : (counted : Bool) (bodies : List (List ℕ)) (m : Made) → lists_in (after_all at_first (entries_of (sections_with counted bodies m))) ≡ made_lists m
lists_written counted bodies m =
    ap lists_in (after_between 0 m.customs (kinds_with counted bodies m) at_first)
    ∙ ap (λ entries. lists_in (after_all at_first entries)) (sections_say counted bodies m)
    ∙ entries_after at_first (of_groups m.groups ++ behind_types_said counted bodies m)
    ∙ lists_said counted bodies m

pub spaces_written : (m : Made) (counted : Bool) (bodies : List (List ℕ))
    → spaces_of (sections_with counted bodies m) ≡ record (made_spaces m) { imported = (spaces_of (sections_with counted bodies m)).imported }
spaces_written m counted bodies = ap (λ l. spaces_with l (spaces_of (sections_with counted bodies m)).imported) (lists_written counted bodies m)

-- ---- views

module _ (s : Spaces) (imported : List Imported) where
  abbrev others : Spaces
  others = record s { imported = imported }

  item_same : (kind : ExternalKind) (index : ℕ) → item_in s kind index ≡ item_in others kind index
  item_same FuncKind index = refl
  item_same TableKind index = refl
  item_same MemoryKind index = refl
  item_same GlobalKind index = refl
  item_same TagKind index = refl

  exports_same : (exports : List WrittenExport) → exports_of s exports ≡ exports_of others exports
  exports_same [] = refl
  exports_same (export ∷ exports) = rw (item_same export.kind export.index, exports_same exports) refl

  pub types_same : HasTypes others → HasTypes s
  types_same has = record { functions = has.functions; tables = has.tables; globals = has.globals; tags = has.tags; elements = has.elements }

  -- they don't show imports by their names
  view_same : (v : View) → IsViewOf s v → IsViewOf others v
  view_same v it = record {
    trees = it.trees;
    first = it.first;
    groups = it.groups;
    types = it.types;
    functions = it.functions;
    tables = it.tables;
    memories = it.memories;
    globals = it.globals;
    tags = it.tags;
    elements = it.elements;
    exports = it.exports ∙ exports_same s.exports;
    numbered = λ has. it.numbered (types_same has);
  }

pub views_written : (m : Made) (counted : Bool) (bodies : List (List ℕ)) (v : View) → IsViewOf (made_spaces m) v ↔ IsViewOf (spaces_of (sections_with counted bodies m)) v
views_written m counted bodies v =
    let imported = (spaces_of (sections_with counted bodies m)).imported in
    let written = spaces_written m counted bodies in (
      λ it. subst (λ s. IsViewOf s v) (sym written) (view_same (made_spaces m) imported v it),
      λ it. view_same (record (made_spaces m) { imported = imported }) [] v (subst (λ s. IsViewOf s v) written it),
    )
