-- Each import is an item of the space of its kind, whatever comes after it.
use Rattle.std.proofs.Common.{◌≡◌, ℕ, suc, ◌<◌, ◌≤◌, Bool, true, false, ◌&&◌, List, [], ◌∷◌, ◌++◌, length, map, is_some, ap, arith, length-append}
use Rattle.std.proofs.lemmas.List.{length-map}
use Rattle.std.specs.List.{AllByRecursion, list_any, slice_get}
use Rattle.std.specs.Prelude.{not, if◌then◌else◌}
use Rattle.wasm_spec.proofs.Places.{get_some}
use Rattle.wasm_spec.specs.Syntax.{imported_by}
use Rattle.wasm_spec.specs.Types.{ExternalKind, FuncKind, TableKind, MemoryKind, GlobalKind, TagKind, ExternalType, FuncExternal, TableExternal, MemoryExternal, GlobalExternal, TagExternal, kind_of}
use Rattle.wasm_validity.specs.Context.{Context, after, after_all, after_item, after_items, at_first, functions_in, globals_in, item_names, next_imports, next_index, origin_of}
use Rattle.wasm_validity.specs.Entries.{Entry, OfCustom, OfType, OfImport, OfFunction, OfTable, OfMemory, OfTags, OfTag, OfGlobal, OfExport, OfStart, OfElement, OfDataCount, OfBody, OfData}
use Rattle.wasm_validity.specs.ImportedItems.{Imported, have_same_names, with_import, with_imports}
use Rattle.wasm_validity_laws.specs.KnownImports.{IsThere}

-- ---- spaces only grow

abbrev Grows : Context → Context → Type 0
Grows a b =
    (length a.imported_functions ≤ length b.imported_functions) × (length a.tables ≤ length b.tables) × (length a.memories ≤ length b.memories)
    × (length a.imported_globals ≤ length b.imported_globals) × (length a.tags ≤ length b.tags)

as_many : (cx : Context) → Grows cx cx
as_many cx = (omega arith, omega arith, omega arith, omega arith, omega arith)

one_longer : {A : Type 0} (xs : List A) (x : A) → length xs < length (xs ++ x ∷ [])
one_longer xs x = omega (arith, length-append xs (x ∷ []))

longer : {A : Type 0} (xs : List A) (x : A) → length xs ≤ length (xs ++ x ∷ [])
longer xs x = omega (arith, one_longer xs x)

item_grows : (cx : Context) (type : ExternalType ℕ) → Grows cx (after_item cx type)
item_grows cx (FuncExternal function) = (longer cx.imported_functions function, omega arith, omega arith, omega arith, omega arith)
item_grows cx (TableExternal type) = (omega arith, longer cx.tables type, omega arith, omega arith, omega arith)
item_grows cx (MemoryExternal type) = (omega arith, omega arith, longer cx.memories type, omega arith, omega arith)
item_grows cx (GlobalExternal type) = (omega arith, omega arith, omega arith, longer cx.imported_globals type, omega arith)
item_grows cx (TagExternal function) = (omega arith, omega arith, omega arith, omega arith, longer cx.tags function)

both_grow : (a b c : Context) → Grows a b → Grows b c → Grows a c
both_grow a b c (f, t, m, g, x) (f', t', m', g', x') = (omega (arith, f, f'), omega (arith, t, t'), omega (arith, m, m'), omega (arith, g, g'), omega (arith, x, x'))

items_grow : (cx : Context) (types : List (ExternalType ℕ)) → Grows cx (after_items cx types)
items_grow cx [] = as_many cx
items_grow cx (type ∷ types) = both_grow cx (after_item cx type) (after_items (after_item cx type) types) (item_grows cx type) (items_grow (after_item cx type) types)

entry_grows : (cx : Context) (entry : Entry) → Grows cx (after cx entry)
entry_grows cx (OfCustom name) = as_many cx
entry_grows cx (OfType group) = as_many cx
entry_grows cx (OfImport entry) = items_grow (record cx { imports = suc cx.imports }) (imported_by entry)
entry_grows cx (OfFunction index) = as_many cx
entry_grows cx (OfTable table) = (omega arith, longer cx.tables table.type, omega arith, omega arith, omega arith)
entry_grows cx (OfMemory type) = (omega arith, omega arith, longer cx.memories type, omega arith, omega arith)
entry_grows cx OfTags = as_many cx
entry_grows cx (OfTag index) = (omega arith, omega arith, omega arith, omega arith, longer cx.tags index)
entry_grows cx (OfGlobal global) = as_many cx
entry_grows cx (OfExport export) = as_many cx
entry_grows cx (OfStart function) = as_many cx
entry_grows cx (OfElement segment) = as_many cx
entry_grows cx (OfDataCount count) = as_many cx
entry_grows cx (OfBody body) = as_many cx
entry_grows cx (OfData segment) = as_many cx

-- that an entry is counted changes no space
same_spaces : (cx : Context) (count : ℕ) (types : List (ExternalType ℕ)) → Grows (after_items cx types) (after_items (record cx { imports = count }) types)
same_spaces cx count [] = as_many cx
same_spaces cx count (FuncExternal function ∷ types) = same_spaces (after_item cx (FuncExternal function)) count types
same_spaces cx count (TableExternal type ∷ types) = same_spaces (after_item cx (TableExternal type)) count types
same_spaces cx count (MemoryExternal type ∷ types) = same_spaces (after_item cx (MemoryExternal type)) count types
same_spaces cx count (GlobalExternal type ∷ types) = same_spaces (after_item cx (GlobalExternal type)) count types
same_spaces cx count (TagExternal function ∷ types) = same_spaces (after_item cx (TagExternal function)) count types

-- ---- imports stay among them

abbrev IsBelow : Context → Imported → Type 0
IsBelow cx import = import.index < next_index cx import.kind

index_grows : (a b : Context) (kind : ExternalKind) → Grows a b → next_index a kind ≤ next_index b kind
index_grows a b FuncKind grows = grows.0
index_grows a b TableKind grows = grows.1
index_grows a b MemoryKind grows = grows.2
index_grows a b GlobalKind grows = grows.3
index_grows a b TagKind grows = grows.4

still_below : (a b : Context) (imports : List Imported) → Grows a b → AllByRecursion (IsBelow a) imports → AllByRecursion (IsBelow b) imports
still_below a b [] grows below = tt
still_below a b (import ∷ imports) grows below = (omega (arith, below.0, index_grows a b import.kind grows), still_below a b imports grows below.1)

own_below : (cx : Context) (type : ExternalType ℕ) → next_index cx (kind_of type) < next_index (after_item cx type) (kind_of type)
own_below cx (FuncExternal function) = one_longer cx.imported_functions function
own_below cx (TableExternal type) = one_longer cx.tables type
own_below cx (MemoryExternal type) = one_longer cx.memories type
own_below cx (GlobalExternal type) = one_longer cx.imported_globals type
own_below cx (TagExternal function) = one_longer cx.tags function

next_below : (cx : Context) (origin : List ℕ) (names : List (List ℕ)) (types : List (ExternalType ℕ)) → AllByRecursion (IsBelow (after_items cx types)) (next_imports cx origin names types)
next_below cx origin [] types = tt
next_below cx origin (name ∷ names) [] = tt
next_below cx origin (name ∷ names) (type ∷ types) =
    let later = index_grows (after_item cx type) (after_items (after_item cx type) types) (kind_of type) (items_grow (after_item cx type) types) in
    (omega (arith, own_below cx type, later), next_below (after_item cx type) origin names types)

module _ (Holds : Imported → Type 0) where
  one_with : (imports : List Imported) (new : Imported) → AllByRecursion Holds imports → Holds new → AllByRecursion Holds (with_import imports new)
  one_with [] new all holds = (holds, tt)
  one_with (x ∷ xs) new all holds = by (have_same_names new x && not (list_any (have_same_names new) xs)) (one_with xs new all.1 holds)
    where
      by : (here : Bool) → AllByRecursion Holds (with_import xs new) → AllByRecursion Holds (if here then x ∷ new ∷ xs else x ∷ with_import xs new)
      by true others = (all.0, (holds, all.1))
      by false others = (all.0, others)

  all_with : (imports news : List Imported) → AllByRecursion Holds imports → AllByRecursion Holds news → AllByRecursion Holds (with_imports imports news)
  all_with imports [] all new = all
  all_with imports (import ∷ news) all new = all_with (with_import imports import) news (one_with imports import all new.0) new.1

abbrev AreBelow : Context → Type 0
AreBelow cx = AllByRecursion (IsBelow cx) cx.imported

one_entry : (cx : Context) (entry : Entry) → AreBelow cx → AreBelow (after cx entry)
one_entry cx (OfCustom name) below = below
one_entry cx (OfType group) below = still_below cx (after cx (OfType group)) cx.imported (entry_grows cx (OfType group)) below
one_entry cx (OfImport entry) below =
    let types = imported_by entry in
    let new = after cx (OfImport entry) in
    all_with (IsBelow new) cx.imported (next_imports cx (origin_of entry) (item_names entry) types) (still_below cx new cx.imported (entry_grows cx (OfImport entry)) below)
    (still_below (after_items cx types) new (next_imports cx (origin_of entry) (item_names entry) types) (same_spaces cx (suc cx.imports) types) (next_below cx (origin_of entry) (item_names entry) types))
one_entry cx (OfFunction index) below = still_below cx (after cx (OfFunction index)) cx.imported (entry_grows cx (OfFunction index)) below
one_entry cx (OfTable table) below = still_below cx (after cx (OfTable table)) cx.imported (entry_grows cx (OfTable table)) below
one_entry cx (OfMemory type) below = still_below cx (after cx (OfMemory type)) cx.imported (entry_grows cx (OfMemory type)) below
one_entry cx OfTags below = below
one_entry cx (OfTag index) below = still_below cx (after cx (OfTag index)) cx.imported (entry_grows cx (OfTag index)) below
one_entry cx (OfGlobal global) below = still_below cx (after cx (OfGlobal global)) cx.imported (entry_grows cx (OfGlobal global)) below
one_entry cx (OfExport export) below = still_below cx (after cx (OfExport export)) cx.imported (entry_grows cx (OfExport export)) below
one_entry cx (OfStart function) below = below
one_entry cx (OfElement segment) below = still_below cx (after cx (OfElement segment)) cx.imported (entry_grows cx (OfElement segment)) below
one_entry cx (OfDataCount count) below = below
one_entry cx (OfBody body) below = below
one_entry cx (OfData segment) below = still_below cx (after cx (OfData segment)) cx.imported (entry_grows cx (OfData segment)) below

all_entries : (cx : Context) (entries : List Entry) → AreBelow cx → AreBelow (after_all cx entries)
all_entries cx [] below = below
all_entries cx (entry ∷ entries) below = all_entries (after cx entry) entries (one_entry cx entry below)

-- ---- what is below is there

has_place : {A B : Type 0} (f : A → B) (xs : List A) (place : ℕ) → place < length xs → is_some (slice_get (map f xs) place) ≡ true
has_place f xs place within = let at = get_some (map f xs) place (omega (arith, within, length-map xs f)) in ap is_some at.1

below_there : (cx : Context) (kind : ExternalKind) (origin name : List ℕ) (index : ℕ) → index < next_index cx kind → IsThere cx (record { origin = origin; name = name; kind = kind; index = index })
below_there cx FuncKind origin name index below = has_place (λ x. FuncExternal x) (functions_in cx) index (omega (arith, below, length-append cx.imported_functions cx.own_functions))
below_there cx TableKind origin name index below = has_place (λ x. TableExternal x) cx.tables index below
below_there cx MemoryKind origin name index below = has_place (λ x. MemoryExternal x) cx.memories index below
below_there cx GlobalKind origin name index below = has_place (λ x. GlobalExternal x) (globals_in cx) index (omega (arith, below, length-append cx.imported_globals cx.own_globals))
below_there cx TagKind origin name index below = has_place (λ x. TagExternal x) cx.tags index below

are_there : (cx : Context) (imports : List Imported) → AllByRecursion (IsBelow cx) imports → AllByRecursion (IsThere cx) imports
are_there cx [] below = tt
are_there cx (import ∷ imports) below = (below_there cx import.kind import.origin import.name import.index below.0, are_there cx imports below.1)

pub imports_there : (entries : List Entry) → AllByRecursion (IsThere (after_all at_first entries)) (after_all at_first entries).imported
imports_there entries = are_there (after_all at_first entries) (after_all at_first entries).imported (all_entries at_first entries tt)
