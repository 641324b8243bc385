-- What is known after all sections of a module: its own functions, and the sizes of its spaces.
use Rattle.std.proofs.Common.{◌≡◌, ℕ, suc, ◌+◌, List, [], ◌∷◌, ◌++◌, length, map, refl, sym, ap, ◌∙◌, append_assoc, arith, length-append}
use Rattle.std.proofs.lemmas.List.{append-nil}
use Rattle.std.specs.List.{flat_map}
use Rattle.wasm_spec.proofs.GroupTrees.{length-types_after}
use Rattle.wasm_spec.specs.Spaces.{Sizes, no_items, together, imported, one_of, added_by, sizes_of}
use Rattle.wasm_spec.specs.Syntax.{Section, Custom, TypeSection, ImportSection, FunctionSection, TableSection, MemorySection, TagSection, GlobalSection, ExportSection, StartSection, ElementSection, DataCountSection, CodeSection, DataSection, ImportEntry, imported_by, members, functions_of, functions_in}
use Rattle.wasm_spec.specs.Types.{RecGroup, ExternalType, FuncExternal, TableExternal, MemoryExternal, GlobalExternal, TagExternal, FuncKind, TableKind, MemoryKind, GlobalKind, TagKind, kind_of}
use Rattle.wasm_validity.specs.Context.{Context, after, after_all, after_item, after_items, at_first, element_type}
use Rattle.wasm_validity.specs.Entries.{Entry, OfCustom, OfType, OfImport, OfFunction, OfTable, OfMemory, OfTags, OfTag, OfGlobal, OfExport, OfStart, OfElement, OfDataCount, OfBody, OfData, entries_in, entries_of}
use Rattle.wasm_validity.specs.IndexSpaces.{sizes_in, spaces_in, spaces_of}
use Rattle.wasm_validity.specs.Validity.{context_of}
use Rattle.wasm_validity_laws.proofs.InTurn.{known}
use Rattle.wasm_validity_laws.proofs.Named.{items_leave}

-- ---- own functions

-- the function that an entry says
abbrev functions_said : Entry → List ℕ
functions_said (OfFunction index) = index ∷ []
functions_said _ = []

one_function : (cx : Context) (entry : Entry) → (after cx entry).own_functions ≡ cx.own_functions ++ functions_said entry
one_function cx (OfFunction index) = refl
one_function cx (OfImport entry) = (items_leave (record cx { imports = suc cx.imports }) (imported_by entry)).1 ∙ sym (append-nil cx.own_functions)
one_function cx (OfCustom name) = sym (append-nil cx.own_functions)
one_function cx (OfType group) = sym (append-nil cx.own_functions)
one_function cx (OfTable table) = sym (append-nil cx.own_functions)
one_function cx (OfMemory type) = sym (append-nil cx.own_functions)
one_function cx OfTags = sym (append-nil cx.own_functions)
one_function cx (OfTag index) = sym (append-nil cx.own_functions)
one_function cx (OfGlobal global) = sym (append-nil cx.own_functions)
one_function cx (OfExport export) = sym (append-nil cx.own_functions)
one_function cx (OfStart function) = sym (append-nil cx.own_functions)
one_function cx (OfElement segment) = sym (append-nil cx.own_functions)
one_function cx (OfDataCount count) = sym (append-nil cx.own_functions)
one_function cx (OfBody body) = sym (append-nil cx.own_functions)
one_function cx (OfData segment) = sym (append-nil cx.own_functions)

all_functions : (cx : Context) (entries : List Entry) → (after_all cx entries).own_functions ≡ cx.own_functions ++ flat_map functions_said entries
all_functions cx [] = sym (append-nil cx.own_functions)
all_functions cx (entry ∷ entries) =
    all_functions (after cx entry) entries ∙ ap (λ fs. fs ++ flat_map functions_said entries) (one_function cx entry) ∙ append_assoc cx.own_functions (functions_said entry) (flat_map functions_said entries)

-- items that say no function
none_said : {A : Type 0} (make : A → Entry) → ((x : A) → functions_said (make x) ≡ []) → (xs : List A) → flat_map functions_said (map make xs) ≡ []
none_said make none [] = refl
none_said make none (x ∷ xs) = ap (λ fs. fs ++ flat_map functions_said (map make xs)) (none x) ∙ none_said make none xs

each_said : (indexes : List ℕ) → flat_map functions_said (map (λ x. OfFunction x) indexes) ≡ indexes
each_said [] = refl
each_said (index ∷ indexes) = ap (λ fs. index ∷ fs) (each_said indexes)

functions_of_section : (section : Section) → flat_map functions_said (entries_in section) ≡ functions_in section
functions_of_section (Custom name contents) = refl
functions_of_section (TypeSection groups) = none_said (λ x. OfType x) (λ x. refl) groups
functions_of_section (ImportSection imports) = none_said (λ x. OfImport x) (λ x. refl) imports
functions_of_section (FunctionSection indexes) = each_said indexes
functions_of_section (TableSection tables) = none_said (λ x. OfTable x) (λ x. refl) tables
functions_of_section (MemorySection types) = none_said (λ x. OfMemory x) (λ x. refl) types
functions_of_section (TagSection indexes) = none_said (λ x. OfTag x) (λ x. refl) indexes
functions_of_section (GlobalSection globals) = none_said (λ x. OfGlobal x) (λ x. refl) globals
functions_of_section (ExportSection exports) = none_said (λ x. OfExport x) (λ x. refl) exports
functions_of_section (StartSection function) = refl
functions_of_section (ElementSection segments) = none_said (λ x. OfElement x) (λ x. refl) segments
functions_of_section (DataCountSection count) = refl
functions_of_section (CodeSection bodies) = none_said (λ x. OfBody x) (λ x. refl) bodies
functions_of_section (DataSection segments) = none_said (λ x. OfData x) (λ x. refl) segments

after_sections : (cx : Context) (sections : List Section) → (after_all cx (entries_of sections)).own_functions ≡ cx.own_functions ++ functions_of sections
after_sections cx [] = sym (append-nil cx.own_functions)
after_sections cx (section ∷ sections) =
    let first : (after_all cx (entries_in section)).own_functions ≡ cx.own_functions ++ functions_in section =
    all_functions cx (entries_in section) ∙ ap (λ fs. cx.own_functions ++ fs) (functions_of_section section) in
    ap (λ (c : Context). c.own_functions) (known cx (entries_in section) (entries_of sections))
    ∙ after_sections (after_all cx (entries_in section)) sections
    ∙ ap (λ fs. fs ++ functions_of sections) first
    ∙ append_assoc cx.own_functions (functions_in section) (functions_of sections)

pub own_are_functions : (sections : List Section) → (context_of sections).own_functions ≡ functions_of sections
own_are_functions sections = after_sections at_first sections

-- ---- sizes

-- how many items are known of each space
abbrev known_sizes : Context → Sizes
known_sizes cx = record {
  types = length cx.types;
  functions = length cx.imported_functions + length cx.own_functions;
  tables = length cx.tables;
  memories = length cx.memories;
  globals = length cx.imported_globals + length cx.own_globals;
  tags = length cx.tags;
  elements = length cx.elements;
  exports = length cx.exports;
}

abbrev sized_as : ℕ → ℕ → ℕ → ℕ → ℕ → ℕ → ℕ → ℕ → Sizes
sized_as t f ta m g tg e x = record { types = t; functions = f; tables = ta; memories = m; globals = g; tags = tg; elements = e; exports = x }

same_numbers : (t t' f f' ta ta' m m' g g' tg tg' e e' x x' : ℕ) → t ≡ t' → f ≡ f' → ta ≡ ta' → m ≡ m' → g ≡ g' → tg ≡ tg' → e ≡ e' → x ≡ x' → sized_as t f ta m g tg e x ≡ sized_as t' f' ta' m' g' tg' e' x'
same_numbers t t' f f' ta ta' m m' g g' tg tg' e e' x x' e1 e2 e3 e4 e5 e6 e7 e8 = rw (e1, e2, e3, e4, e5, e6, e7, e8) refl

same_sizes : (a b : Sizes) → a.types ≡ b.types → a.functions ≡ b.functions → a.tables ≡ b.tables → a.memories ≡ b.memories → a.globals ≡ b.globals → a.tags ≡ b.tags → a.elements ≡ b.elements → a.exports ≡ b.exports → a ≡ b
same_sizes a b e1 e2 e3 e4 e5 e6 e7 e8 =
    same_numbers a.types b.types a.functions b.functions a.tables b.tables a.memories b.memories a.globals b.globals a.tags b.tags a.elements b.elements a.exports b.exports e1 e2 e3 e4 e5 e6 e7 e8

together_assoc : (a b c : Sizes) → together (together a b) c ≡ together a (together b c)
together_assoc a b c = same_sizes (together (together a b) c) (together a (together b c)) (omega arith) (omega arith) (omega arith) (omega arith) (omega arith) (omega arith) (omega arith) (omega arith)

nothing_after : (a : Sizes) → together a no_items ≡ a
nothing_after a = same_sizes (together a no_items) a (omega arith) (omega arith) (omega arith) (omega arith) (omega arith) (omega arith) (omega arith) (omega arith)

nothing_before : (a : Sizes) → together no_items a ≡ a
nothing_before a = same_sizes (together no_items a) a (omega arith) (omega arith) (omega arith) (omega arith) (omega arith) (omega arith) (omega arith) (omega arith)

-- how an entry enlarges the spaces
abbrev added : Entry → Sizes
added (OfType group) = record no_items { types = length (members group) }
added (OfImport entry) = imported (imported_by entry)
added (OfFunction index) = record no_items { functions = 1 }
added (OfTable table) = record no_items { tables = 1 }
added (OfMemory type) = record no_items { memories = 1 }
added (OfTag index) = record no_items { tags = 1 }
added (OfGlobal global) = record no_items { globals = 1 }
added (OfExport export) = record no_items { exports = 1 }
added (OfElement segment) = record no_items { elements = 1 }
added _ = no_items

abbrev all_added : List Entry → Sizes
all_added [] = no_items
all_added (entry ∷ entries) = together (added entry) (all_added entries)

-- a context that is larger than another by so much
sized : (new old : Context) (more : Sizes) → length new.types ≡ length old.types + more.types → length new.imported_functions + length new.own_functions ≡ length old.imported_functions + length old.own_functions + more.functions
    → length new.tables ≡ length old.tables + more.tables → length new.memories ≡ length old.memories + more.memories → length new.imported_globals + length new.own_globals ≡ length old.imported_globals + length old.own_globals + more.globals → length new.tags ≡ length old.tags + more.tags
    → length new.elements ≡ length old.elements + more.elements → length new.exports ≡ length old.exports + more.exports → known_sizes new ≡ together (known_sizes old) more
sized new old more e1 e2 e3 e4 e5 e6 e7 e8 = same_sizes (known_sizes new) (together (known_sizes old) more) e1 e2 e3 e4 e5 e6 e7 e8

last : {A : Type 0} (xs : List A) (x : A) → length (xs ++ x ∷ []) ≡ length xs + 1
last xs x = length-append xs (x ∷ [])

one_item : (cx : Context) (type : ExternalType ℕ) → known_sizes (after_item cx type) ≡ together (known_sizes cx) (one_of (kind_of type))
one_item cx (FuncExternal function) = sized (after_item cx (FuncExternal function)) cx (one_of FuncKind) (omega arith) (omega (arith, last cx.imported_functions function)) (omega arith) (omega arith) (omega arith) (omega arith) (omega arith) (omega arith)
one_item cx (TableExternal type) = sized (after_item cx (TableExternal type)) cx (one_of TableKind) (omega arith) (omega arith) (omega (arith, last cx.tables type)) (omega arith) (omega arith) (omega arith) (omega arith) (omega arith)
one_item cx (MemoryExternal type) = sized (after_item cx (MemoryExternal type)) cx (one_of MemoryKind) (omega arith) (omega arith) (omega arith) (omega (arith, last cx.memories type)) (omega arith) (omega arith) (omega arith) (omega arith)
one_item cx (GlobalExternal type) = sized (after_item cx (GlobalExternal type)) cx (one_of GlobalKind) (omega arith) (omega arith) (omega arith) (omega arith) (omega (arith, last cx.imported_globals type)) (omega arith) (omega arith) (omega arith)
one_item cx (TagExternal function) = sized (after_item cx (TagExternal function)) cx (one_of TagKind) (omega arith) (omega arith) (omega arith) (omega arith) (omega arith) (omega (arith, last cx.tags function)) (omega arith) (omega arith)

items_add : (cx : Context) (types : List (ExternalType ℕ)) → known_sizes (after_items cx types) ≡ together (known_sizes cx) (imported types)
items_add cx [] = sym (nothing_after (known_sizes cx))
items_add cx (type ∷ types) =
    items_add (after_item cx type) types ∙ ap (λ s. together s (imported types)) (one_item cx type) ∙ together_assoc (known_sizes cx) (one_of (kind_of type)) (imported types)

-- ---- entries

one_entry : (cx : Context) (entry : Entry) → known_sizes (after cx entry) ≡ together (known_sizes cx) (added entry)
one_entry cx (OfCustom name) = sym (nothing_after (known_sizes cx))
one_entry cx (OfType group) = sized (after cx (OfType group)) cx (record no_items { types = length (members group) }) (length-types_after cx.types group) (omega arith) (omega arith) (omega arith) (omega arith) (omega arith) (omega arith) (omega arith)
one_entry cx (OfImport entry) = items_add (record cx { imports = suc cx.imports }) (imported_by entry)
one_entry cx (OfFunction index) = sized (after cx (OfFunction index)) cx (record no_items { functions = 1 }) (omega arith) (omega (arith, last cx.own_functions index)) (omega arith) (omega arith) (omega arith) (omega arith) (omega arith) (omega arith)
one_entry cx (OfTable table) = sized (after cx (OfTable table)) cx (record no_items { tables = 1 }) (omega arith) (omega arith) (last cx.tables table.type) (omega arith) (omega arith) (omega arith) (omega arith) (omega arith)
one_entry cx (OfMemory type) = sized (after cx (OfMemory type)) cx (record no_items { memories = 1 }) (omega arith) (omega arith) (omega arith) (last cx.memories type) (omega arith) (omega arith) (omega arith) (omega arith)
one_entry cx OfTags = sym (nothing_after (known_sizes cx))
one_entry cx (OfTag index) = sized (after cx (OfTag index)) cx (record no_items { tags = 1 }) (omega arith) (omega arith) (omega arith) (omega arith) (omega arith) (last cx.tags index) (omega arith) (omega arith)
one_entry cx (OfGlobal global) = sized (after cx (OfGlobal global)) cx (record no_items { globals = 1 }) (omega arith) (omega arith) (omega arith) (omega arith) (omega (arith, last cx.own_globals global.type)) (omega arith) (omega arith) (omega arith)
one_entry cx (OfExport export) = sized (after cx (OfExport export)) cx (record no_items { exports = 1 }) (omega arith) (omega arith) (omega arith) (omega arith) (omega arith) (omega arith) (omega arith) (last cx.exports export)
one_entry cx (OfStart function) = sym (nothing_after (known_sizes cx))
one_entry cx (OfElement segment) = sized (after cx (OfElement segment)) cx (record no_items { elements = 1 }) (omega arith) (omega arith) (omega arith) (omega arith) (omega arith) (omega arith) (last cx.elements (element_type segment.items)) (omega arith)
one_entry cx (OfDataCount count) = sym (nothing_after (known_sizes cx))
one_entry cx (OfBody body) = sym (nothing_after (known_sizes cx))
one_entry cx (OfData segment) = sym (nothing_after (known_sizes cx))

entries_add : (cx : Context) (entries : List Entry) → known_sizes (after_all cx entries) ≡ together (known_sizes cx) (all_added entries)
entries_add cx [] = sym (nothing_after (known_sizes cx))
entries_add cx (entry ∷ entries) =
    entries_add (after cx entry) entries ∙ ap (λ s. together s (all_added entries)) (one_entry cx entry) ∙ together_assoc (known_sizes cx) (added entry) (all_added entries)

-- ---- sections

-- items of which each adds one of a kind add as many as they are
each_adds : {A : Type 0} (make : A → Entry) (many : ℕ → Sizes) → many 0 ≡ no_items → ((x : A) (n : ℕ) → together (added (make x)) (many n) ≡ many (1 + n)) → (xs : List A) → all_added (map make xs) ≡ many (length xs)
each_adds make many none one [] = sym none
each_adds make many none one (x ∷ xs) = ap (together (added (make x))) (each_adds make many none one xs) ∙ one x (length xs) ∙ ap many (omega arith)

none_added : {A : Type 0} (make : A → Entry) → ((x : A) → added (make x) ≡ no_items) → (xs : List A) → all_added (map make xs) ≡ no_items
none_added make none [] = refl
none_added make none (x ∷ xs) = ap (λ s. together s (all_added (map make xs))) (none x) ∙ nothing_before (all_added (map make xs)) ∙ none_added make none xs

groups_add : (groups : List (RecGroup ℕ)) → all_added (map (λ x. OfType x) groups) ≡ record no_items { types = length (flat_map members groups) }
groups_add [] = refl
groups_add (group ∷ groups) =
    ap (together (added (OfType group))) (groups_add groups) ∙ ap (λ n. record no_items { types = n }) (sym (length-append (members group) (flat_map members groups)))

imported_in_turn : (a b : List (ExternalType ℕ)) → imported (a ++ b) ≡ together (imported a) (imported b)
imported_in_turn [] b = sym (nothing_before (imported b))
imported_in_turn (type ∷ a) b = ap (together (one_of (kind_of type))) (imported_in_turn a b) ∙ sym (together_assoc (one_of (kind_of type)) (imported a) (imported b))

imports_add : (imports : List ImportEntry) → all_added (map (λ x. OfImport x) imports) ≡ imported (flat_map imported_by imports)
imports_add [] = refl
imports_add (entry ∷ imports) = ap (together (imported (imported_by entry))) (imports_add imports) ∙ sym (imported_in_turn (imported_by entry) (flat_map imported_by imports))

section_adds : (section : Section) → all_added (entries_in section) ≡ added_by section
section_adds (Custom name contents) = nothing_after no_items
section_adds (TypeSection groups) = groups_add groups
section_adds (ImportSection imports) = imports_add imports
section_adds (FunctionSection indexes) = each_adds (λ x. OfFunction x) (λ n. record no_items { functions = n }) refl (λ x n. refl) indexes
section_adds (TableSection tables) = each_adds (λ x. OfTable x) (λ n. record no_items { tables = n }) refl (λ x n. refl) tables
section_adds (MemorySection types) = each_adds (λ x. OfMemory x) (λ n. record no_items { memories = n }) refl (λ x n. refl) types
section_adds (TagSection indexes) = nothing_before (all_added (map (λ x. OfTag x) indexes)) ∙ each_adds (λ x. OfTag x) (λ n. record no_items { tags = n }) refl (λ x n. refl) indexes
section_adds (GlobalSection globals) = each_adds (λ x. OfGlobal x) (λ n. record no_items { globals = n }) refl (λ x n. refl) globals
section_adds (ExportSection exports) = each_adds (λ x. OfExport x) (λ n. record no_items { exports = n }) refl (λ x n. refl) exports
section_adds (StartSection function) = nothing_after no_items
section_adds (ElementSection segments) = each_adds (λ x. OfElement x) (λ n. record no_items { elements = n }) refl (λ x n. refl) segments
section_adds (DataCountSection count) = nothing_after no_items
section_adds (CodeSection bodies) = none_added (λ x. OfBody x) (λ x. refl) bodies
section_adds (DataSection segments) = none_added (λ x. OfData x) (λ x. refl) segments

sections_add : (cx : Context) (sections : List Section) → known_sizes (after_all cx (entries_of sections)) ≡ together (known_sizes cx) (sizes_of sections)
sections_add cx [] = sym (nothing_after (known_sizes cx))
sections_add cx (section ∷ sections) =
    let first : known_sizes (after_all cx (entries_in section)) ≡ together (known_sizes cx) (added_by section) =
    entries_add cx (entries_in section) ∙ ap (together (known_sizes cx)) (section_adds section) in
    ap known_sizes (known cx (entries_in section) (entries_of sections))
    ∙ sections_add (after_all cx (entries_in section)) sections
    ∙ ap (λ s. together s (sizes_of sections)) first
    ∙ together_assoc (known_sizes cx) (added_by section) (sizes_of sections)

all_known : (sections : List Section) → known_sizes (context_of sections) ≡ sizes_of sections
all_known sections = sections_add at_first sections ∙ nothing_before (sizes_of sections)

-- imported items and the module's own are one list
as_one : (cx : Context) → sizes_in (spaces_in cx) ≡ known_sizes cx
as_one cx =
    same_sizes (sizes_in (spaces_in cx)) (known_sizes cx) refl (length-append cx.imported_functions cx.own_functions) refl refl (length-append cx.imported_globals cx.own_globals) refl refl refl

pub sizes_are : (sections : List Section) → sizes_in (spaces_of sections) ≡ sizes_of sections
sizes_are sections = as_one (context_of sections) ∙ all_known sections
