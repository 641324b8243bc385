-- The counts after all entries of a made module, by its lists.
use Rattle.std.proofs.Common.{◌≡◌, ℕ, suc, ◌+◌, Bool, List, [], ◌∷◌, ◌++◌, length, map, refl, ap, sym, ◌∙◌, subst, arith, append_assoc, if◌then◌else◌, Option, Some, None}
use Rattle.std.specs.List.{AllByRecursion, flat_map, sum_by}
use Rattle.std.specs.Option.{option_to_list}
use Rattle.std.proofs.lemmas.List.{append-nil, map-append, length-map}
use Rattle.std.proofs.lemmas.List.Sums.{sum_by-append, sum_by-cons}
use Rattle.std.proofs.lemmas.Grind.{flat_map-append}
use Rattle.wasm_spec.specs.Limits.{Limit, Types, Groups, Imports, Functions, Globals, Tags, Exports, Tables, Memories, ElementSegments, DataSegments, SegmentEntries, BodySize, Name, TypeSize}
use Rattle.wasm_spec.specs.Syntax.{ImportEntry, Table, Global, Export, ElementSegment, DataSegment, imported_by}
use Rattle.wasm_spec.specs.Trees.{type_at, types_from}
use Rattle.wasm_spec.specs.TypeReferences.{val_map}
use Rattle.wasm_spec.specs.Types.{FuncType, MemoryType, SubType, ExternalType, FuncExternal, TableExternal, MemoryExternal, GlobalExternal, TagExternal, ExternalKind, FuncKind, TableKind, MemoryKind, GlobalKind, TagKind, RecGroup}
use Rattle.wasm_spec.proofs.GroupTrees.{Stand}
use Rattle.wasm_validity.specs.Context as contexts
use Rattle.wasm_validity.specs.Context.{Context, after, after_all, after_item, after_items, at_first, names_of}
use Rattle.wasm_validity.specs.DefinedTypes.{func_type_at as defined_at}
use Rattle.wasm_validity.specs.Entries.{Entry, OfCustom, OfType, OfImport, OfFunction, OfTable, OfMemory, OfTags, OfTag, OfGlobal, OfExport, OfStart, OfElement, OfDataCount, OfBody, OfData}
use Rattle.wasm_validity.specs.Rules.{PassesByTypes, count_of, import_names, name_measures}
use Rattle.wasm_smith_validity.specs.ValidGroups.{types_of}
use Rattle.wasm_smith_validity.specs.Made.{Made}
use Rattle.wasm_smith_validity.specs.Rules.{item_at}
use Rattle.wasm_smith_validity.specs.Spaces.{Spaces, func_type_at, functions_of, globals_of, spaces_after, spaces_of_types, with_item, with_items}
use Rattle.wasm_smith_validity.proofs.IndexedContext.{IsBehind, by_index, entry_after, item_types, items_types}
use Rattle.wasm_smith_validity.proofs.MadeGroups.{of_groups, typed}
use Rattle.wasm_smith_validity.proofs.MadeSections.{of_bodies, of_count, of_tags, behind_types_said, said_behind}
use Rattle.wasm_smith_validity.proofs.MeantTypes.{func_meant}
use Rattle.wasm_smith_module.specs.Measures.{counts_of, imported_items, lengths_of, size_of, size_of_export, size_of_func, size_of_item, spaces_of, type_size}
use Rattle.wasm_smith_module.proofs.EntryNumbers.{Counts, HaveNoTypes, counts, items_add_none, number, own_numbers}

-- ---- sizes by index

func_size : (ts : List (SubType ℕ)) (cx : Context) → Stand ts cx.types → (index : ℕ) (o : Option (FuncType ℕ)) → func_type_at ts index ≡ o
    → contexts.size_of_func (defined_at cx.types index) ≡ size_of_func (func_type_at ts index)
func_size ts cx stand index None e = rw (func_meant ts cx.types stand index, e) refl
func_size ts cx stand index (Some type) e =
    rw (func_meant ts cx.types stand index, e, length-map type.params (val_map (type_at cx.types)), length-map type.results (val_map (type_at cx.types))) refl

size_is : (ts : List (SubType ℕ)) (cx : Context) → Stand ts cx.types → (type : ExternalType ℕ) → contexts.size_of cx type ≡ size_of ts type
size_is ts cx stand (FuncExternal function) = func_size ts cx stand function (func_type_at ts function) refl
size_is ts cx stand (TableExternal type) = refl
size_is ts cx stand (MemoryExternal type) = refl
size_is ts cx stand (GlobalExternal type) = refl
size_is ts cx stand (TagExternal function) = func_size ts cx stand function (func_type_at ts function) refl

items_size : (ts : List (SubType ℕ)) (cx : Context) → Stand ts cx.types → (types : List (ExternalType ℕ))
    → (after_items cx types).type_size ≡ cx.type_size + sum_by (size_of ts) types
items_size ts cx stand [] = omega arith
items_size ts cx stand (type ∷ types) =
    let others = items_size ts (after_item cx type) (subst (Stand ts) (sym (item_types cx type)) stand) types in
    omega (arith, others, size_is ts cx stand type, sum_by-cons (size_of ts) type types)

item_is : (ts : List (SubType ℕ)) (cx : Context) (kind : ExternalKind) (index : ℕ) → contexts.item_at cx kind index ≡ item_at (by_index ts cx) kind index
item_is ts cx FuncKind index = refl
item_is ts cx TableKind index = refl
item_is ts cx MemoryKind index = refl
item_is ts cx GlobalKind index = refl
item_is ts cx TagKind index = refl

export_size : (ts : List (SubType ℕ)) (cx : Context) → Stand ts cx.types → (export : Export)
    → contexts.size_of_export cx (contexts.item_at cx export.kind export.index) ≡ size_of_export (by_index ts cx) export
export_size ts cx stand export =
    ap (λ o. contexts.size_of_export cx o) (item_is ts cx export.kind export.index) ∙ some_size (item_at (by_index ts cx) export.kind export.index)
  where
    some_size : (o : Option (ExternalType ℕ)) → contexts.size_of_export cx o ≡ size_of_item ts o
    some_size None = refl
    some_size (Some type) = size_is ts cx stand type

-- ---- what is seen of a context

-- its index spaces by index, the number of imports, and the size of types
pub record Seen : Type 0 where
  pub spaces : Spaces
  pub imports : ℕ
  pub size : ℕ

abbrev pub seen : List (SubType ℕ) → Context → Seen
seen types cx = record { spaces = by_index types cx; imports = cx.imports; size = cx.type_size }

abbrev pub with_entry : Seen → Entry → Seen
with_entry s (OfImport entry) = record {
  spaces = with_items s.spaces (imported_by entry);
  imports = suc s.imports;
  size = s.size + sum_by (size_of s.spaces.types) (imported_by entry);
}
with_entry s (OfExport export) = record {
  spaces = spaces_after s.spaces (OfExport export);
  imports = s.imports;
  size = s.size + size_of_export s.spaces export;
}
with_entry s entry = record { spaces = spaces_after s.spaces entry; imports = s.imports; size = s.size }

abbrev pub with_entries : Seen → List Entry → Seen
with_entries s [] = s
with_entries s (entry ∷ entries) = with_entries (with_entry s entry) entries

abbrev see : Spaces → ℕ → ℕ → Seen
see k imports size = record { spaces = k; imports = imports; size = size }

same_seen : (k l : Spaces) (i j n o : ℕ) → k ≡ l → i ≡ j → n ≡ o → see k i n ≡ see l j o
same_seen k l i j n o e f g = ap (λ k. see k i n) e ∙ (ap (λ i. see l i n) f ∙ ap (λ n. see l j n) g)

no_more : (n : ℕ) → n + 0 ≡ n
no_more n = omega arith

entry_seen : (ts : List (SubType ℕ)) (cx : Context) → Stand ts cx.types → (entry : Entry) → IsBehind entry → seen ts (after cx entry) ≡ with_entry (seen ts cx) entry
entry_seen ts cx stand (OfCustom name) h = refl
entry_seen ts cx stand (OfType group) h = absurd h
entry_seen ts cx stand (OfImport entry) h =
    let cx_entered = record cx { imports = suc cx.imports } in
    let all = after_items cx_entered (imported_by entry) in
    same_seen (by_index ts (after cx (OfImport entry))) (with_items (by_index ts cx) (imported_by entry)) all.imports (suc cx.imports) all.type_size
    (cx.type_size + sum_by (size_of ts) (imported_by entry)) (entry_after ts cx (OfImport entry) tt) (items_add_none cx_entered (imported_by entry)).1
    (items_size ts cx_entered stand (imported_by entry))
entry_seen ts cx stand (OfFunction index) h = refl
entry_seen ts cx stand (OfTable table) h = refl
entry_seen ts cx stand (OfMemory type) h = refl
entry_seen ts cx stand OfTags h = refl
entry_seen ts cx stand (OfTag index) h = refl
entry_seen ts cx stand (OfGlobal global) h = refl
entry_seen ts cx stand (OfExport export) h =
    ap (λ n. see (spaces_after (by_index ts cx) (OfExport export)) cx.imports (cx.type_size + n)) (export_size ts cx stand export)
entry_seen ts cx stand (OfStart function) h = refl
entry_seen ts cx stand (OfElement segment) h = ap (λ k. see k cx.imports cx.type_size) (entry_after ts cx (OfElement segment) tt)
entry_seen ts cx stand (OfDataCount count) h = refl
entry_seen ts cx stand (OfBody body) h = refl
entry_seen ts cx stand (OfData segment) h = refl

-- no entry behind the types adds types or groups
adds_no_types : (cx : Context) (entry : Entry) → IsBehind entry → ((after cx entry).types ≡ cx.types) × ((after cx entry).groups ≡ cx.groups)
adds_no_types cx (OfCustom name) h = (refl, refl)
adds_no_types cx (OfType group) h = absurd h
adds_no_types cx (OfImport entry) h =
    let cx_entered = record cx { imports = suc cx.imports } in
    (items_types cx_entered (imported_by entry), (items_add_none cx_entered (imported_by entry)).0)
adds_no_types cx (OfFunction index) h = (refl, refl)
adds_no_types cx (OfTable table) h = (refl, refl)
adds_no_types cx (OfMemory type) h = (refl, refl)
adds_no_types cx OfTags h = (refl, refl)
adds_no_types cx (OfTag index) h = (refl, refl)
adds_no_types cx (OfGlobal global) h = (refl, refl)
adds_no_types cx (OfExport export) h = (refl, refl)
adds_no_types cx (OfStart function) h = (refl, refl)
adds_no_types cx (OfElement segment) h = (refl, refl)
adds_no_types cx (OfDataCount count) h = (refl, refl)
adds_no_types cx (OfBody body) h = (refl, refl)
adds_no_types cx (OfData segment) h = (refl, refl)

pub add_no_types : (cx : Context) (entries : List Entry) → AllByRecursion IsBehind entries → ((after_all cx entries).types ≡ cx.types) × ((after_all cx entries).groups ≡ cx.groups)
add_no_types cx [] h = (refl, refl)
add_no_types cx (entry ∷ entries) h =
    let first = adds_no_types cx entry h.0 in
    let others = add_no_types (after cx entry) entries h.1 in
    (others.0 ∙ first.0, others.1 ∙ first.1)

pub all_seen : (ts : List (SubType ℕ)) (cx : Context) → Stand ts cx.types → (entries : List Entry) → AllByRecursion IsBehind entries
    → seen ts (after_all cx entries) ≡ with_entries (seen ts cx) entries
all_seen ts cx stand [] h = refl
all_seen ts cx stand (entry ∷ entries) h =
    all_seen ts (after cx entry) (subst (Stand ts) (sym (adds_no_types cx entry h.0).0) stand) entries h.1
    ∙ ap (λ s. with_entries s entries) (entry_seen ts cx stand entry h.0)

has_no_types : (cx : Context) (entry : Entry) → IsBehind entry → (limit : Limit) → PassesByTypes limit cx entry → ⊥
has_no_types cx (OfCustom name) h limit p = p
has_no_types cx (OfType group) h limit p = h
has_no_types cx (OfImport entry) h limit p = p
has_no_types cx (OfFunction index) h limit p = p
has_no_types cx (OfTable table) h limit p = p
has_no_types cx (OfMemory type) h limit p = p
has_no_types cx OfTags h limit p = p
has_no_types cx (OfTag index) h limit p = p
has_no_types cx (OfGlobal global) h limit p = p
has_no_types cx (OfExport export) h limit p = p
has_no_types cx (OfStart function) h limit p = p
has_no_types cx (OfElement segment) h limit p = p
has_no_types cx (OfDataCount count) h limit p = p
has_no_types cx (OfBody body) h limit p = p
has_no_types cx (OfData segment) h limit p = p

pub have_no_types : (cx : Context) (entries : List Entry) → AllByRecursion IsBehind entries → HaveNoTypes cx entries
have_no_types cx [] h = tt
have_no_types cx (entry ∷ entries) h = (has_no_types cx entry h.0, have_no_types (after cx entry) entries h.1)

-- ---- section by section

entries_append : (s : Seen) (xs ys : List Entry) → with_entries s (xs ++ ys) ≡ with_entries (with_entries s xs) ys
entries_append s [] ys = refl
entries_append s (x ∷ xs) ys = entries_append (with_entry s x) xs ys

-- entries of one kind, and how they are put together
of_kind : {A : Type 0} (entry : A → Entry) (put : Seen → List A → Seen) → ((s : Seen) → put s [] ≡ s)
    → ((s : Seen) (x : A) (xs : List A) → put (with_entry s (entry x)) xs ≡ put s (x ∷ xs)) → (s : Seen) (xs : List A) → with_entries s (map entry xs) ≡ put s xs
of_kind entry put none more s [] = sym (none s)
of_kind entry put none more s (x ∷ xs) = of_kind entry put none more (with_entry s (entry x)) xs ∙ more s x xs

-- entries that change nothing
silent : {A : Type 0} (entry : A → Entry) → ((s : Seen) (x : A) → with_entry s (entry x) ≡ s) → (s : Seen) (xs : List A) → with_entries s (map entry xs) ≡ s
silent entry one s [] = refl
silent entry one s (x ∷ xs) = ap (λ t. with_entries t (map entry xs)) (one s x) ∙ silent entry one s xs

-- the spaces change alone
abbrev in_spaces : Seen → Spaces → Seen
in_spaces s k = see k s.imports s.size

pub items_append : (k : Spaces) (xs ys : List (ExternalType ℕ)) → with_items k (xs ++ ys) ≡ with_items (with_items k xs) ys
items_append k [] ys = refl
items_append k (x ∷ xs) ys = items_append (with_item k x) xs ys

item_keeps_types : (k : Spaces) (type : ExternalType ℕ) → (with_item k type).types ≡ k.types
item_keeps_types k (FuncExternal function) = refl
item_keeps_types k (TableExternal type) = refl
item_keeps_types k (MemoryExternal type) = refl
item_keeps_types k (GlobalExternal type) = refl
item_keeps_types k (TagExternal function) = refl

pub items_keep_types : (k : Spaces) (types : List (ExternalType ℕ)) → (with_items k types).types ≡ k.types
items_keep_types k [] = refl
items_keep_types k (type ∷ types) = items_keep_types (with_item k type) types ∙ item_keeps_types k type

abbrev put_imports : Seen → List ImportEntry → Seen
put_imports s entries = record {
  spaces = with_items s.spaces (flat_map imported_by entries);
  imports = s.imports + length entries;
  size = s.size + sum_by (size_of s.spaces.types) (flat_map imported_by entries);
}

imports_put : (s : Seen) (entries : List ImportEntry) → with_entries s (map (λ x. OfImport x) entries) ≡ put_imports s entries
imports_put = of_kind (λ x. OfImport x) put_imports none more
  where
    none : (s : Seen) → put_imports s [] ≡ s
    none s = same_seen s.spaces s.spaces (s.imports + 0) s.imports (s.size + 0) s.size refl (no_more s.imports) (no_more s.size)

    more : (s : Seen) (entry : ImportEntry) (entries : List ImportEntry) → put_imports (with_entry s (OfImport entry)) entries ≡ put_imports s (entry ∷ entries)
    more s entry entries =
        let first = imported_by entry in
        let others = flat_map imported_by entries in
        let same : sum_by (size_of (with_items s.spaces first).types) others ≡ sum_by (size_of s.spaces.types) others =
        ap (λ types. sum_by (size_of types) others) (items_keep_types s.spaces first) in
        same_seen (with_items (with_items s.spaces first) others) (with_items s.spaces (first ++ others)) (suc s.imports + length entries) (s.imports + length (entry ∷ entries))
        (s.size + sum_by (size_of s.spaces.types) first + sum_by (size_of (with_items s.spaces first).types) others) (s.size + sum_by (size_of s.spaces.types) (first ++ others))
        (sym (items_append s.spaces first others)) (omega arith) (omega (arith, same, sum_by-append (size_of s.spaces.types) first others))

abbrev put_functions : Seen → List ℕ → Seen
put_functions s xs = in_spaces s (record s.spaces { own_functions = s.spaces.own_functions ++ xs })

functions_put : (s : Seen) (xs : List ℕ) → with_entries s (map (λ x. OfFunction x) xs) ≡ put_functions s xs
functions_put =
    of_kind (λ x. OfFunction x) put_functions (λ s. ap (λ l. in_spaces s (record s.spaces { own_functions = l })) (append-nil s.spaces.own_functions))
    (λ s x xs. ap (λ l. in_spaces s (record s.spaces { own_functions = l })) (append_assoc s.spaces.own_functions (x ∷ []) xs))

abbrev put_tables : Seen → List Table → Seen
put_tables s xs = in_spaces s (record s.spaces { tables = s.spaces.tables ++ map (λ table. table.type) xs })

tables_put : (s : Seen) (xs : List Table) → with_entries s (map (λ x. OfTable x) xs) ≡ put_tables s xs
tables_put =
    of_kind (λ x. OfTable x) put_tables (λ s. ap (λ l. in_spaces s (record s.spaces { tables = l })) (append-nil s.spaces.tables))
    (λ s x xs. ap (λ l. in_spaces s (record s.spaces { tables = l })) (append_assoc s.spaces.tables (x.type ∷ []) (map (λ table. table.type) xs)))

abbrev put_memories : Seen → List MemoryType → Seen
put_memories s xs = in_spaces s (record s.spaces { memories = s.spaces.memories ++ xs })

memories_put : (s : Seen) (xs : List MemoryType) → with_entries s (map (λ x. OfMemory x) xs) ≡ put_memories s xs
memories_put =
    of_kind (λ x. OfMemory x) put_memories (λ s. ap (λ l. in_spaces s (record s.spaces { memories = l })) (append-nil s.spaces.memories))
    (λ s x xs. ap (λ l. in_spaces s (record s.spaces { memories = l })) (append_assoc s.spaces.memories (x ∷ []) xs))

abbrev put_tags : Seen → List ℕ → Seen
put_tags s xs = in_spaces s (record s.spaces { tags = s.spaces.tags ++ xs })

each_tag_put : (s : Seen) (xs : List ℕ) → with_entries s (map (λ x. OfTag x) xs) ≡ put_tags s xs
each_tag_put =
    of_kind (λ x. OfTag x) put_tags (λ s. ap (λ l. in_spaces s (record s.spaces { tags = l })) (append-nil s.spaces.tags))
    (λ s x xs. ap (λ l. in_spaces s (record s.spaces { tags = l })) (append_assoc s.spaces.tags (x ∷ []) xs))

tags_put : (s : Seen) (xs : List ℕ) → with_entries s (of_tags xs) ≡ put_tags s xs
tags_put s [] = each_tag_put s []
tags_put s (x ∷ xs) = each_tag_put s (x ∷ xs)

abbrev put_globals : Seen → List Global → Seen
put_globals s xs = in_spaces s (record s.spaces { own_globals = s.spaces.own_globals ++ map (λ global. global.type) xs })

globals_put : (s : Seen) (xs : List Global) → with_entries s (map (λ x. OfGlobal x) xs) ≡ put_globals s xs
globals_put =
    of_kind (λ x. OfGlobal x) put_globals (λ s. ap (λ l. in_spaces s (record s.spaces { own_globals = l })) (append-nil s.spaces.own_globals))
    (λ s x xs. ap (λ l. in_spaces s (record s.spaces { own_globals = l })) (append_assoc s.spaces.own_globals (x.type ∷ []) (map (λ global. global.type) xs)))

-- exports have their size by spaces that they don't change
abbrev put_exports : (Export → ℕ) → Seen → List Export → Seen
put_exports size s xs = record {
  spaces = record s.spaces { exports = s.spaces.exports ++ xs };
  imports = s.imports;
  size = s.size + sum_by size xs;
}

exports_put : (size : Export → ℕ) (s : Seen) → ((before : List Export) (x : Export) → size_of_export (record s.spaces { exports = before }) x ≡ size x) → (xs : List Export)
    → with_entries s (map (λ x. OfExport x) xs) ≡ put_exports size s xs
exports_put size s sizes [] =
    sym (same_seen (record s.spaces { exports = s.spaces.exports ++ [] }) s.spaces s.imports s.imports (s.size + 0) s.size
    (ap (λ l. record s.spaces { exports = l }) (append-nil s.spaces.exports)) refl (no_more s.size))
exports_put size s sizes (x ∷ xs) =
    exports_put size (with_entry s (OfExport x)) sizes xs
    ∙ same_seen (record s.spaces { exports = (s.spaces.exports ++ x ∷ []) ++ xs }) (record s.spaces { exports = s.spaces.exports ++ (x ∷ xs) }) s.imports s.imports
    (s.size + size_of_export s.spaces x + sum_by size xs) (s.size + sum_by size (x ∷ xs))
    (ap (λ l. record s.spaces { exports = l }) (append_assoc s.spaces.exports (x ∷ []) xs)) refl
    (let own : size_of_export s.spaces x ≡ size x = sizes s.spaces.exports x in omega (arith, own, sum_by-cons size x xs))

abbrev put_elements : Seen → List ElementSegment → Seen
put_elements s xs = in_spaces s (record s.spaces { element_segments = s.spaces.element_segments + length xs })

elements_put : (s : Seen) (xs : List ElementSegment) → with_entries s (map (λ x. OfElement x) xs) ≡ put_elements s xs
elements_put =
    of_kind (λ x. OfElement x) put_elements (λ s. ap (λ n. in_spaces s (record s.spaces { element_segments = n })) (no_more s.spaces.element_segments))
    (λ s x xs. let e : suc s.spaces.element_segments + length xs ≡ s.spaces.element_segments + suc (length xs) = omega arith in
    ap (λ n. in_spaces s (record s.spaces { element_segments = n })) e)

abbrev put_data : Seen → List DataSegment → Seen
put_data s xs = in_spaces s (record s.spaces { data_segments = s.spaces.data_segments + length xs })

data_put : (s : Seen) (xs : List DataSegment) → with_entries s (map (λ x. OfData x) xs) ≡ put_data s xs
data_put =
    of_kind (λ x. OfData x) put_data (λ s. ap (λ n. in_spaces s (record s.spaces { data_segments = n })) (no_more s.spaces.data_segments))
    (λ s x xs. let e : suc s.spaces.data_segments + length xs ≡ s.spaces.data_segments + suc (length xs) = omega arith in
    ap (λ n. in_spaces s (record s.spaces { data_segments = n })) e)

count_silent : (s : Seen) (segments : List DataSegment) → with_entries s (of_count segments) ≡ s
count_silent s [] = refl
count_silent s (segment ∷ segments) = refl

-- ---- after all of them

-- imported items alone leave the module's own spaces empty
abbrev pub without_own : Spaces → Spaces
without_own k = record k { own_functions = []; own_globals = []; exports = []; element_segments = 0; data_segments = 0 }

alone_with : (k : Spaces) (type : ExternalType ℕ) → without_own (with_item k type) ≡ with_item (without_own k) type
alone_with k (FuncExternal function) = refl
alone_with k (TableExternal type) = refl
alone_with k (MemoryExternal type) = refl
alone_with k (GlobalExternal type) = refl
alone_with k (TagExternal function) = refl

pub alone : (k : Spaces) (types : List (ExternalType ℕ)) → without_own (with_items k types) ≡ with_items (without_own k) types
alone k [] = refl
alone k (type ∷ types) = alone (with_item k type) types ∙ ap (λ k. with_items k types) (alone_with k type)

-- whatever is exported, segments included, an item has its index
same_item : (k : Spaces) (exports : List Export) (elements segments : ℕ) (kind : ExternalKind) (index : ℕ)
    → item_at (record k { exports = exports; element_segments = elements; data_segments = segments }) kind index ≡ item_at k kind index
same_item k exports elements segments FuncKind index = refl
same_item k exports elements segments TableKind index = refl
same_item k exports elements segments MemoryKind index = refl
same_item k exports elements segments GlobalKind index = refl
same_item k exports elements segments TagKind index = refl

same_size : (k : Spaces) (exports : List Export) (elements segments : ℕ) (x : Export)
    → size_of_export (record k { exports = exports; element_segments = elements; data_segments = segments }) x ≡ size_of_export k x
same_size k exports elements segments x = ap (λ o. size_of_item k.types o) (same_item k exports elements segments x.kind x.index)

-- what is seen at the end
abbrev pub all_of : Made → Seen
all_of m = record { spaces = spaces_of m; imports = length m.imports; size = type_size m }

then_put : (s t r : Seen) (xs ys : List Entry) → with_entries s xs ≡ t → with_entries t ys ≡ r → with_entries s (xs ++ ys) ≡ r
then_put s t r xs ys e f = entries_append s xs ys ∙ (ap (λ t. with_entries t ys) e ∙ f)

-- what is seen where there are types alone
abbrev pub at_types : Made → Seen
at_types m = record { spaces = spaces_of_types (types_of m.groups); imports = 0; size = 1 }

module _ (m : Made) where
  -- the spaces of imported items
  abbrev imported : Spaces
  imported = with_items (spaces_of_types (types_of m.groups)) (imported_items m)

  -- what is seen after the items of each kind
  abbrev with_imports : Seen
  with_imports = record { spaces = without_own imported; imports = length m.imports; size = 1 + sum_by (size_of (types_of m.groups)) (imported_items m) }

  abbrev with_functions : Seen
  with_functions = put_functions with_imports m.funcs

  abbrev with_tables : Seen
  with_tables = put_tables with_functions m.tables

  abbrev with_memories : Seen
  with_memories = put_memories with_tables m.memories

  abbrev with_tags : Seen
  with_tags = put_tags with_memories m.tags

  abbrev with_globals : Seen
  with_globals = put_globals with_tags m.globals

  abbrev with_exports : Seen
  with_exports = put_exports (size_of_export (spaces_of m)) with_globals m.exports

  abbrev with_elements : Seen
  with_elements = put_elements with_exports m.elems

  first_put : with_entries (at_types m) (map (λ x. OfImport x) m.imports) ≡ with_imports
  first_put =
      let size = 1 + sum_by (size_of (types_of m.groups)) (imported_items m) in
      imports_put (at_types m) m.imports
      ∙ same_seen imported (without_own imported) (0 + length m.imports) (length m.imports) size size (sym (alone (spaces_of_types (types_of m.groups)) (imported_items m)))
      (omega arith) refl

  -- the spaces of all items differ from these by exports and segments alone
  sizes : (before : List Export) (x : Export) → size_of_export (record with_globals.spaces { exports = before }) x ≡ size_of_export (spaces_of m) x
  sizes before x =
      same_size with_globals.spaces before 0 0 x ∙ sym (same_size with_globals.spaces m.exports (length m.elems) (length m.data_segments) x)

  last_put : put_data with_elements m.data_segments ≡ all_of m
  last_put =
      let k = spaces_of m in
      let e : 0 + length m.elems ≡ length m.elems = omega arith in
      let d : 0 + length m.data_segments ≡ length m.data_segments = omega arith in
      let imports_size = sum_by (size_of (types_of m.groups)) (imported_items m) in
      let exports_size = sum_by (size_of_export k) m.exports in
      same_seen (record k { element_segments = 0 + length m.elems; data_segments = 0 + length m.data_segments }) k (length m.imports) (length m.imports)
      (1 + imports_size + exports_size) (1 + (imports_size + exports_size))
      (ap (λ n. record k { element_segments = n; data_segments = 0 + length m.data_segments }) e ∙ ap (λ n. record k { data_segments = n }) d) refl (omega arith)

  pub behind_put : (counted : Bool) (bodies : List (List ℕ)) → with_entries (at_types m) (behind_types_said counted bodies m) ≡ all_of m
  behind_put counted bodies =
      let end = all_of m in
      then_put (at_types m) with_imports end (map (λ x. OfImport x) m.imports) _ first_put
      (then_put with_imports with_functions end (map (λ x. OfFunction x) m.funcs) _ (functions_put with_imports m.funcs)
      (then_put with_functions with_tables end (map (λ x. OfTable x) m.tables) _ (tables_put with_functions m.tables)
      (then_put with_tables with_memories end (map (λ x. OfMemory x) m.memories) _ (memories_put with_tables m.memories)
      (then_put with_memories with_tags end (of_tags m.tags) _ (tags_put with_memories m.tags)
      (then_put with_tags with_globals end (map (λ x. OfGlobal x) m.globals) _ (globals_put with_tags m.globals)
      (then_put with_globals with_exports end (map (λ x. OfExport x) m.exports) _ (exports_put (size_of_export (spaces_of m)) with_globals sizes m.exports)
      (then_put with_exports with_exports end (map (λ x. OfStart x) (option_to_list m.start)) _ (silent (λ x. OfStart x) (λ s x. refl) with_exports (option_to_list m.start))
      (then_put with_exports with_elements end (map (λ x. OfElement x) m.elems) _ (elements_put with_exports m.elems)
      (then_put with_elements with_elements end (of_count (if counted then m.data_segments else [])) _ (count_silent with_elements (if counted then m.data_segments else []))
      (then_put with_elements with_elements end (of_bodies bodies) _ (silent (λ x. OfBody x) (λ s x. refl) with_elements bodies)
      (data_put with_elements m.data_segments ∙ last_put)))))))))))

-- ---- numbers that depend on an entry alone

none_own : {A : Type 0} (entry : A → Entry) → ((x : A) → own_numbers (entry x) ≡ []) → (xs : List A) → flat_map own_numbers (map entry xs) ≡ []
none_own entry one [] = refl
none_own entry one (x ∷ xs) = ap (λ l. l ++ flat_map own_numbers (map entry xs)) (one x) ∙ none_own entry one xs

imports_own : (entries : List ImportEntry) → flat_map own_numbers (map (λ x. OfImport x) entries) ≡ name_measures (flat_map import_names entries)
imports_own [] = refl
imports_own (entry ∷ entries) =
    ap (λ l. name_measures (import_names entry) ++ l) (imports_own entries) ∙ sym (map-append (λ name. (Name, length name)) (import_names entry) (flat_map import_names entries))

exports_own : (exports : List Export) → flat_map own_numbers (map (λ x. OfExport x) exports) ≡ name_measures (names_of exports)
exports_own [] = refl
exports_own (export ∷ exports) = ap (λ l. (Name, length export.name) ∷ l) (exports_own exports)

elements_own : (segments : List ElementSegment) → flat_map own_numbers (map (λ x. OfElement x) segments) ≡ map (λ segment. (SegmentEntries, count_of segment.items)) segments
elements_own [] = refl
elements_own (segment ∷ segments) = ap (λ l. (SegmentEntries, count_of segment.items) ∷ l) (elements_own segments)

bodies_own : (bodies : List (List ℕ)) → flat_map own_numbers (of_bodies bodies) ≡ map (λ body. (BodySize, length body)) bodies
bodies_own [] = refl
bodies_own (body ∷ bodies) = ap (λ l. (BodySize, length body) ∷ l) (bodies_own bodies)

tags_own : (tags : List ℕ) → flat_map own_numbers (of_tags tags) ≡ []
tags_own [] = refl
tags_own (index ∷ tags) = none_own (λ x. OfTag x) (λ x. refl) (index ∷ tags)

count_own : (segments : List DataSegment) → flat_map own_numbers (of_count segments) ≡ []
count_own [] = refl
count_own (segment ∷ segments) = refl

then_own : (xs ys : List Entry) (ms ns : List (Limit × ℕ)) → flat_map own_numbers xs ≡ ms → flat_map own_numbers ys ≡ ns → flat_map own_numbers (xs ++ ys) ≡ ms ++ ns
then_own xs ys ms ns e f = flat_map-append own_numbers xs ys ∙ (ap (λ l. l ++ flat_map own_numbers ys) e ∙ ap (λ l. ms ++ l) f)

-- of entries without such numbers
pass_own : (xs ys : List Entry) (ns : List (Limit × ℕ)) → flat_map own_numbers xs ≡ [] → flat_map own_numbers ys ≡ ns → flat_map own_numbers (xs ++ ys) ≡ ns
pass_own xs ys ns e f = then_own xs ys [] ns e f

pub all_own : (counted : Bool) (bodies : List (List ℕ)) (m : Made) → flat_map own_numbers (of_groups m.groups ++ behind_types_said counted bodies m) ≡ lengths_of bodies m
all_own counted bodies m =
    pass_own (of_groups m.groups) _ _ (none_own (λ x. OfType x) (λ x. refl) m.groups)
    (then_own (map (λ x. OfImport x) m.imports) _ _ _ (imports_own m.imports)
    (pass_own (map (λ x. OfFunction x) m.funcs) _ _ (none_own (λ x. OfFunction x) (λ x. refl) m.funcs)
    (pass_own (map (λ x. OfTable x) m.tables) _ _ (none_own (λ x. OfTable x) (λ x. refl) m.tables)
    (pass_own (map (λ x. OfMemory x) m.memories) _ _ (none_own (λ x. OfMemory x) (λ x. refl) m.memories)
    (pass_own (of_tags m.tags) _ _ (tags_own m.tags)
    (pass_own (map (λ x. OfGlobal x) m.globals) _ _ (none_own (λ x. OfGlobal x) (λ x. refl) m.globals)
    (then_own (map (λ x. OfExport x) m.exports) _ _ _ (exports_own m.exports)
    (pass_own (map (λ x. OfStart x) (option_to_list m.start)) _ _ (none_own (λ x. OfStart x) (λ x. refl) (option_to_list m.start))
    (then_own (map (λ x. OfElement x) m.elems) _ _ _ (elements_own m.elems)
    (pass_own (of_count (if counted then m.data_segments else [])) _ _ (count_own (if counted then m.data_segments else []))
    (then_own (of_bodies bodies) _ _ [] (bodies_own bodies) (none_own (λ x. OfData x) (λ x. refl) m.data_segments) ∙ append-nil (map (λ body. (BodySize, length body)) bodies))))))))))))

-- ---- counts

abbrev pub counted_in : ℕ → ℕ → Seen → Counts
counted_in types groups s = record {
  types = types;
  groups = groups;
  imports = s.imports;
  functions = length (functions_of s.spaces);
  tables = length s.spaces.tables;
  memories = length s.spaces.memories;
  tags = length s.spaces.tags;
  globals = length (globals_of s.spaces);
  exports = length s.spaces.exports;
  elements = s.spaces.element_segments;
  segments = s.spaces.data_segments;
  size = s.size;
}

-- the limits on them
abbrev pub bounded : List Limit
bounded =
    Types ∷ Groups ∷ Imports ∷ Functions ∷ Tables ∷ Memories ∷ Tags ∷ Globals ∷ Exports ∷ ElementSegments ∷ DataSegments ∷ TypeSize ∷ []

abbrev pub made_counts : Made → Counts
made_counts m = counted_in (length (types_of m.groups)) (length m.groups) (all_of m)

pub counts_are : (m : Made) → counts_of m ≡ map (λ limit. (limit, number (made_counts m) limit)) bounded
counts_are m = refl

-- the groups of types, and what is seen after them
after_groups : (cx : Context) (groups : List (RecGroup ℕ))
    → after_all cx (of_groups groups) ≡ record cx { types = types_from cx.types groups; groups = cx.groups + length groups }
after_groups cx [] = ap (λ n. record cx { groups = n }) (sym (no_more cx.groups))
after_groups cx (group ∷ groups) =
    let e : suc cx.groups + length groups ≡ cx.groups + length (group ∷ groups) = omega arith in
    after_groups (after cx (OfType group)) groups ∙ ap (λ n. record cx { types = types_from cx.types (group ∷ groups); groups = n }) e

pub typed_seen : (m : Made) → seen (types_of m.groups) (typed m.groups) ≡ at_types m
typed_seen m = ap (λ cx. seen (types_of m.groups) cx) (after_groups at_first m.groups)

pub typed_groups : (m : Made) → (typed m.groups).groups ≡ length m.groups
typed_groups m = ap (λ (cx : Context). cx.groups) (after_groups at_first m.groups) ∙ omega arith

after_append : (cx : Context) (xs ys : List Entry) → after_all cx (xs ++ ys) ≡ after_all (after_all cx xs) ys
after_append cx [] ys = refl
after_append cx (x ∷ xs) ys = after_append (after cx x) xs ys

-- what is counted after all entries, whatever the bodies are
pub all_counted : (counted : Bool) (bodies : List (List ℕ)) (m : Made) → Stand (types_of m.groups) (typed m.groups).types
    → counts (after_all at_first (of_groups m.groups ++ behind_types_said counted bodies m)) ≡ made_counts m
all_counted counted bodies m stand =
    let ts = types_of m.groups in
    let behind = behind_types_said counted bodies m in
    let last = after_all (typed m.groups) behind in
    let kept = add_no_types (typed m.groups) behind (said_behind counted bodies m) in
    let types : length last.types ≡ length ts = ap length kept.0 ∙ stand.lengths in
    let groups : last.groups ≡ length m.groups = kept.1 ∙ typed_groups m in
    let end : seen ts last ≡ all_of m =
    all_seen ts (typed m.groups) stand behind (said_behind counted bodies m) ∙ (ap (λ s. with_entries s behind) (typed_seen m) ∙ behind_put m counted bodies) in
    ap counts (after_append at_first (of_groups m.groups) behind)
    ∙ (ap (λ n. counted_in n last.groups (seen ts last)) types ∙ (ap (λ n. counted_in (length ts) n (seen ts last)) groups ∙ ap (λ s. counted_in (length ts) (length m.groups) s) end))
