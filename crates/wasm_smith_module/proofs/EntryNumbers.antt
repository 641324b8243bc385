-- The numbers that limits bound grow entry by entry, and what they are after all entries tells which limits were passed on the way.
use Rattle.std.specs.Prelude.{⊤}
use Rattle.std.proofs.Common.{◌≡◌, ℕ, suc, ◌+◌, ◌<◌, ◌≤◌, ◌⊎◌, true, ◌&&◌, not, List, [], ◌∷◌, ◌++◌, length, refl, ap, sym, ◌∙◌, subst, arith, inl, inr, length-append}
use Rattle.std.specs.List.{flat_map}
use Rattle.std.proofs.lemmas.Bool.{le-ltb, lt-ltb, and_parts}
use Rattle.std.proofs.lemmas.Bool.Decides.{leb_tells}
use Rattle.std.proofs.lemmas.List.Folds.{list_all-append}
use Rattle.wasm_spec.specs.Limits.{Limit, Types, Groups, Imports, Functions, Globals, Tags, Exports, Tables, Memories, ElementSegments, DataSegments, SegmentEntries, BodySize, Name, TypeSize, most}
use Rattle.wasm_spec.specs.Syntax.{imported_by}
use Rattle.wasm_spec.specs.Types.{ExternalType, FuncExternal, TableExternal, MemoryExternal, GlobalExternal, TagExternal}
use Rattle.wasm_spec.specs.Trees.{types_after}
use Rattle.wasm_spec.proofs.GroupTrees.{length-types_after}
use Rattle.wasm_validity.specs.Context.{Context, functions_in, globals_in, after, after_all, after_item, after_items, element_type, size_of_export, item_at}
use Rattle.wasm_validity.specs.Entries.{Entry, OfCustom, OfType, OfImport, OfFunction, OfTable, OfMemory, OfTags, OfTag, OfGlobal, OfExport, OfStart, OfElement, OfDataCount, OfBody, OfData}
use Rattle.wasm_validity.specs.Rules.{KeepLimits, PassLimit, Passes, PassesByTypes, are_within, count_of, import_names, is_past, item_measures, items_measures, measures, name_measures}

-- ---- what is counted

pub record Counts : Type 0 where
  pub types : ℕ
  pub groups : ℕ
  pub imports : ℕ
  pub functions : ℕ
  pub tables : ℕ
  pub memories : ℕ
  pub tags : ℕ
  pub globals : ℕ
  pub exports : ℕ
  pub elements : ℕ
  pub segments : ℕ
  pub size : ℕ

-- the count that a limit bounds, where it bounds one
abbrev pub number : Counts → Limit → ℕ
number c Types = c.types
number c Groups = c.groups
number c Imports = c.imports
number c Functions = c.functions
number c Tables = c.tables
number c Memories = c.memories
number c Tags = c.tags
number c Globals = c.globals
number c Exports = c.exports
number c ElementSegments = c.elements
number c DataSegments = c.segments
number c TypeSize = c.size
number c _ = 0

abbrev pub counts : Context → Counts
counts cx = record {
  types = length cx.types;
  groups = cx.groups;
  imports = cx.imports;
  functions = length (functions_in cx);
  tables = length cx.tables;
  memories = length cx.memories;
  tags = length cx.tags;
  globals = length (globals_in cx);
  exports = length cx.exports;
  elements = length cx.elements;
  segments = cx.segments;
  size = cx.type_size;
}

abbrev pub at_limit : Context → Limit → ℕ
at_limit cx limit = number (counts cx) limit

-- ---- lists of numbers

-- the limit and the number are among these
abbrev pub Has : Limit → ℕ → List (Limit × ℕ) → Type 0
Has limit n [] = ⊥
Has limit n (m ∷ ms) = ((m.0 ≡ limit) × (m.1 ≡ n)) ⊎ Has limit n ms

has_left : (limit : Limit) (n : ℕ) (ms ns : List (Limit × ℕ)) → Has limit n ms → Has limit n (ms ++ ns)
has_left limit n [] ns h = absurd h
has_left limit n (m ∷ ms) ns (inl at) = inl at
has_left limit n (m ∷ ms) ns (inr later) = inr (has_left limit n ms ns later)

has_right : (limit : Limit) (n : ℕ) (ms ns : List (Limit × ℕ)) → Has limit n ns → Has limit n (ms ++ ns)
has_right limit n [] ns h = h
has_right limit n (m ∷ ms) ns h = inr (has_right limit n ms ns h)

pub passes_had : (limit : Limit) (n : ℕ) (ms : List (Limit × ℕ)) → Has limit n ms → most limit < n → Passes limit ms
passes_had limit n [] h many = absurd h
passes_had limit n (m ∷ ms) (inl at) many = inl (at.0, rw (at.0, at.1) (lt-ltb (most limit) n many))
passes_had limit n (m ∷ ms) (inr later) many = inr (passes_had limit n ms later many)

pub passes_left : (limit : Limit) (ms ns : List (Limit × ℕ)) → Passes limit ms → Passes limit (ms ++ ns)
passes_left limit [] ns p = absurd p
passes_left limit (m ∷ ms) ns (inl at) = inl at
passes_left limit (m ∷ ms) ns (inr later) = inr (passes_left limit ms ns later)

pub passes_right : (limit : Limit) (ms ns : List (Limit × ℕ)) → Passes limit ns → Passes limit (ms ++ ns)
passes_right limit [] ns p = p
passes_right limit (m ∷ ms) ns p = inr (passes_right limit ms ns p)

pub passes_parts : (limit : Limit) (ms ns : List (Limit × ℕ)) → Passes limit (ms ++ ns) → Passes limit ms ⊎ Passes limit ns
passes_parts limit [] ns p = inr p
passes_parts limit (m ∷ ms) ns (inl at) = inl (inl at)
passes_parts limit (m ∷ ms) ns (inr later) = elim (passes_parts limit ms ns later) [ inl p ↦ inl (inr p) | inr p ↦ inr p ]

pub within_one : (limit : Limit) (n : ℕ) (ms : List (Limit × ℕ)) → n ≤ most limit → are_within ms ≡ true → are_within ((limit, n) ∷ ms) ≡ true
within_one limit n ms few rest = rw (le-ltb (most limit) n few) rest

within_two : (limit other : Limit) (n k : ℕ) → n ≤ most limit → k ≤ most other → are_within ((limit, n) ∷ (other, k) ∷ []) ≡ true
within_two limit other n k few also = within_one limit n ((other, k) ∷ []) few (within_one other k [] also refl)

pub within_append : (ms ns : List (Limit × ℕ)) → are_within ms ≡ true → are_within ns ≡ true → are_within (ms ++ ns) ≡ true
within_append ms ns h k = list_all-append (λ m. not (is_past m.0 m.1)) ms ns ∙ ap (λ b. b && are_within ns) h ∙ k

pub within_parts : (ms ns : List (Limit × ℕ)) → are_within (ms ++ ns) ≡ true → (are_within ms ≡ true) × (are_within ns ≡ true)
within_parts ms ns h = and_parts (are_within ms) (are_within ns) (sym (list_all-append (λ m. not (is_past m.0 m.1)) ms ns) ∙ h)

-- ---- growth

-- a count stays as it is, or is measured and no less
abbrev Tells : Limit → ℕ → ℕ → List (Limit × ℕ) → Type 0
Tells limit old new ms = (new ≡ old) ⊎ (Has limit new ms × (old ≤ new))

grows : (limit : Limit) (old new : ℕ) (ms : List (Limit × ℕ)) → Tells limit old new ms → old ≤ new
grows limit old new ms (inl e) = omega (arith, e)
grows limit old new ms (inr p) = p.1

tells_append : (limit : Limit) (a b c : ℕ) (ms ns : List (Limit × ℕ)) → Tells limit a b ms → Tells limit b c ns → Tells limit a c (ms ++ ns)
tells_append limit a b c ms ns (inl e) (inl f) = inl (f ∙ e)
tells_append limit a b c ms ns (inl e) (inr q) = inr (has_right limit c ms ns q.0, let more = q.1 in omega (arith, e, more))
tells_append limit a b c ms ns (inr p) (inl f) = inr (has_left limit c ms ns (subst (λ n. Has limit n ms) (sym f) p.0), let more = p.1 in omega (arith, f, more))
tells_append limit a b c ms ns (inr p) (inr q) = inr (has_right limit c ms ns q.0, let more = p.1 in let still = q.1 in omega (arith, more, still))

tells_later : (limit : Limit) (a b : ℕ) (m : Limit × ℕ) (ms ns : List (Limit × ℕ)) → Tells limit a b ns → Tells limit a b (m ∷ (ms ++ ns))
tells_later limit a b m ms ns (inl e) = inl e
tells_later limit a b m ms ns (inr p) = inr (inr (has_right limit b ms ns p.0), p.1)

passes_told : (limit : Limit) (old new : ℕ) (ms : List (Limit × ℕ)) → Tells limit old new ms → old ≤ most limit → most limit < new → Passes limit ms
passes_told limit old new ms (inl e) few many = absurd (omega (arith, e, few, many))
passes_told limit old new ms (inr p) few many = passes_had limit new ms p.0 many

-- one item more, at the end and before others
one_more : {A : Type 0} (xs : List A) (x : A) → length (xs ++ x ∷ []) ≡ suc (length xs)
one_more xs x = omega (arith, length-append xs (x ∷ []))

one_more_before : {A : Type 0} (xs : List A) (x : A) (ys : List A) → length ((xs ++ x ∷ []) ++ ys) ≡ suc (length (xs ++ ys))
one_more_before xs x ys = omega (arith, length-append (xs ++ x ∷ []) ys, length-append xs (x ∷ []), length-append xs ys)

one_more_behind : {A : Type 0} (xs ys : List A) (y : A) → length (xs ++ (ys ++ y ∷ [])) ≡ suc (length (xs ++ ys))
one_more_behind xs ys y = omega (arith, length-append xs (ys ++ y ∷ []), length-append ys (y ∷ []), length-append xs ys)

-- the sum of two lengths
of_both : {A : Type 0} (xs ys : List A) → suc (length xs + length ys) ≡ suc (length (xs ++ ys))
of_both xs ys = omega (arith, length-append xs ys)

-- ---- imported items

told_item : (cx : Context) (type : ExternalType ℕ) (limit : Limit) → Tells limit (at_limit cx limit) (at_limit (after_item cx type) limit) (item_measures cx type)
told_item cx (FuncExternal function) limit = function_told limit
  where
    function_told : (limit : Limit) → Tells limit (at_limit cx limit) (at_limit (after_item cx (FuncExternal function)) limit) (item_measures cx (FuncExternal function))
    function_told Functions =
        let more = one_more_before cx.imported_functions function cx.own_functions in
        inr (inl (refl, of_both cx.imported_functions cx.own_functions ∙ sym more), omega (arith, more))
    function_told TypeSize = inr (inr (inl (refl, refl)), omega arith)
    function_told _ = inl refl
told_item cx (TableExternal type) limit = table_told limit
  where
    table_told : (limit : Limit) → Tells limit (at_limit cx limit) (at_limit (after_item cx (TableExternal type)) limit) (item_measures cx (TableExternal type))
    table_told Tables = let more = one_more cx.tables type in inr (inl (refl, sym more), omega (arith, more))
    table_told TypeSize = inr (inr (inl (refl, refl)), omega arith)
    table_told _ = inl refl
told_item cx (MemoryExternal type) limit = memory_told limit
  where
    memory_told : (limit : Limit) → Tells limit (at_limit cx limit) (at_limit (after_item cx (MemoryExternal type)) limit) (item_measures cx (MemoryExternal type))
    memory_told Memories = let more = one_more cx.memories type in inr (inl (refl, sym more), omega (arith, more))
    memory_told TypeSize = inr (inr (inl (refl, refl)), omega arith)
    memory_told _ = inl refl
told_item cx (GlobalExternal type) limit = global_told limit
  where
    global_told : (limit : Limit) → Tells limit (at_limit cx limit) (at_limit (after_item cx (GlobalExternal type)) limit) (item_measures cx (GlobalExternal type))
    global_told Globals =
        let more = one_more_before cx.imported_globals type cx.own_globals in
        inr (inl (refl, of_both cx.imported_globals cx.own_globals ∙ sym more), omega (arith, more))
    global_told TypeSize = inr (inr (inl (refl, refl)), omega arith)
    global_told _ = inl refl
told_item cx (TagExternal function) limit = tag_told limit
  where
    tag_told : (limit : Limit) → Tells limit (at_limit cx limit) (at_limit (after_item cx (TagExternal function)) limit) (item_measures cx (TagExternal function))
    tag_told Tags = let more = one_more cx.tags function in inr (inl (refl, sym more), omega (arith, more))
    tag_told TypeSize = inr (inr (inl (refl, refl)), omega arith)
    tag_told _ = inl refl

told_items : (cx : Context) (types : List (ExternalType ℕ)) (limit : Limit) → Tells limit (at_limit cx limit) (at_limit (after_items cx types) limit) (items_measures cx types)
told_items cx [] limit = inl refl
told_items cx (type ∷ types) limit =
    let next = after_item cx type in
    tells_append limit (at_limit cx limit) (at_limit next limit) (at_limit (after_items next types) limit) (item_measures cx type) (items_measures next types)
    (told_item cx type limit) (told_items next types limit)

-- imported items are neither groups of types nor entries
item_adds_none : (cx : Context) (type : ExternalType ℕ) → ((after_item cx type).groups ≡ cx.groups) × ((after_item cx type).imports ≡ cx.imports)
item_adds_none cx (FuncExternal function) = (refl, refl)
item_adds_none cx (TableExternal type) = (refl, refl)
item_adds_none cx (MemoryExternal type) = (refl, refl)
item_adds_none cx (GlobalExternal type) = (refl, refl)
item_adds_none cx (TagExternal function) = (refl, refl)

pub items_add_none : (cx : Context) (types : List (ExternalType ℕ)) → ((after_items cx types).groups ≡ cx.groups) × ((after_items cx types).imports ≡ cx.imports)
items_add_none cx [] = (refl, refl)
items_add_none cx (type ∷ types) =
    let first = item_adds_none cx type in
    let others = items_add_none (after_item cx type) types in
    (others.0 ∙ first.0, others.1 ∙ first.1)

-- the entry of these items is counted
abbrev entered : Context → Context
entered cx = record cx { imports = suc cx.imports }

-- ---- entries

told : (cx : Context) (entry : Entry) (limit : Limit) → Tells limit (at_limit cx limit) (at_limit (after cx entry) limit) (measures cx entry)
told cx (OfCustom name) limit = inl refl
told cx (OfType group) limit = type_told limit
  where
    type_told : (limit : Limit) → Tells limit (at_limit cx limit) (at_limit (after cx (OfType group)) limit) (measures cx (OfType group))
    type_told Groups = inr (inl (refl, refl), omega arith)
    type_told Types = inr (inr (inl (refl, refl)), omega (arith, length-types_after cx.types group))
    type_told _ = inl refl
told cx (OfImport entry) limit = import_told limit
  where
    items_told : (limit : Limit) → Tells limit (at_limit (entered cx) limit) (at_limit (after_items (entered cx) (imported_by entry)) limit) (measures cx (OfImport entry))
    items_told limit =
        tells_later limit (at_limit (entered cx) limit) (at_limit (after_items (entered cx) (imported_by entry)) limit) (Imports, suc cx.imports) (name_measures (import_names entry))
        (items_measures (entered cx) (imported_by entry)) (told_items (entered cx) (imported_by entry) limit)

    import_told : (limit : Limit) → Tells limit (at_limit cx limit) (at_limit (after cx (OfImport entry)) limit) (measures cx (OfImport entry))
    import_told Imports = let more = (items_add_none (entered cx) (imported_by entry)).1 in inr (inl (refl, sym more), omega (arith, more))
    import_told Types = items_told Types
    import_told Groups = items_told Groups
    import_told Functions = items_told Functions
    import_told Globals = items_told Globals
    import_told Tags = items_told Tags
    import_told Exports = items_told Exports
    import_told Tables = items_told Tables
    import_told Memories = items_told Memories
    import_told ElementSegments = items_told ElementSegments
    import_told DataSegments = items_told DataSegments
    import_told TypeSize = items_told TypeSize
    import_told _ = inl refl
told cx (OfFunction index) limit = function_told limit
  where
    function_told : (limit : Limit) → Tells limit (at_limit cx limit) (at_limit (after cx (OfFunction index)) limit) (measures cx (OfFunction index))
    function_told Functions =
        let more = one_more_behind cx.imported_functions cx.own_functions index in
        inr (inl (refl, of_both cx.imported_functions cx.own_functions ∙ sym more), omega (arith, more))
    function_told _ = inl refl
told cx (OfTable table) limit = table_told limit
  where
    table_told : (limit : Limit) → Tells limit (at_limit cx limit) (at_limit (after cx (OfTable table)) limit) (measures cx (OfTable table))
    table_told Tables = let more = one_more cx.tables table.type in inr (inl (refl, sym more), omega (arith, more))
    table_told _ = inl refl
told cx (OfMemory type) limit = memory_told limit
  where
    memory_told : (limit : Limit) → Tells limit (at_limit cx limit) (at_limit (after cx (OfMemory type)) limit) (measures cx (OfMemory type))
    memory_told Memories = let more = one_more cx.memories type in inr (inl (refl, sym more), omega (arith, more))
    memory_told _ = inl refl
told cx OfTags limit = inl refl
told cx (OfTag index) limit = tag_told limit
  where
    tag_told : (limit : Limit) → Tells limit (at_limit cx limit) (at_limit (after cx (OfTag index)) limit) (measures cx (OfTag index))
    tag_told Tags = let more = one_more cx.tags index in inr (inl (refl, sym more), omega (arith, more))
    tag_told _ = inl refl
told cx (OfGlobal global) limit = global_told limit
  where
    global_told : (limit : Limit) → Tells limit (at_limit cx limit) (at_limit (after cx (OfGlobal global)) limit) (measures cx (OfGlobal global))
    global_told Globals =
        let more = one_more_behind cx.imported_globals cx.own_globals global.type in
        inr (inl (refl, of_both cx.imported_globals cx.own_globals ∙ sym more), omega (arith, more))
    global_told _ = inl refl
told cx (OfExport export) limit = export_told limit
  where
    export_told : (limit : Limit) → Tells limit (at_limit cx limit) (at_limit (after cx (OfExport export)) limit) (measures cx (OfExport export))
    export_told Exports = let more = one_more cx.exports export in inr (inl (refl, sym more), omega (arith, more))
    export_told TypeSize = inr (inr (inr (inl (refl, refl))), omega arith)
    export_told _ = inl refl
told cx (OfStart function) limit = inl refl
told cx (OfElement segment) limit = element_told limit
  where
    element_told : (limit : Limit) → Tells limit (at_limit cx limit) (at_limit (after cx (OfElement segment)) limit) (measures cx (OfElement segment))
    element_told ElementSegments = let more = one_more cx.elements (element_type segment.items) in inr (inl (refl, sym more), omega (arith, more))
    element_told _ = inl refl
told cx (OfDataCount count) limit = inl refl
told cx (OfBody body) limit = inl refl
told cx (OfData segment) limit = data_told limit
  where
    data_told : (limit : Limit) → Tells limit (at_limit cx limit) (at_limit (after cx (OfData segment)) limit) (measures cx (OfData segment))
    data_told DataSegments = inr (inl (refl, refl), omega arith)
    data_told _ = inl refl

pub grow : (cx : Context) (entries : List Entry) (limit : Limit) → at_limit cx limit ≤ at_limit (after_all cx entries) limit
grow cx [] limit = omega arith
grow cx (entry ∷ entries) limit =
    let first = grows limit (at_limit cx limit) (at_limit (after cx entry) limit) (measures cx entry) (told cx entry limit) in
    let others = grow (after cx entry) entries limit in
    omega (arith, first, others)

-- ---- within limits

-- the numbers that depend on the entry alone
abbrev pub own_numbers : Entry → List (Limit × ℕ)
own_numbers (OfCustom name) = (Name, length name) ∷ []
own_numbers (OfImport entry) = name_measures (import_names entry)
own_numbers (OfExport export) = (Name, length export.name) ∷ []
own_numbers (OfElement segment) = (SegmentEntries, count_of segment.items) ∷ []
own_numbers (OfBody body) = (BodySize, length body) ∷ []
own_numbers _ = []

-- no count passes its limit
abbrev pub AreFew : Context → Type 0
AreFew cx = (limit : Limit) → at_limit cx limit ≤ most limit

item_within : (cx : Context) (type : ExternalType ℕ) → AreFew (after_item cx type) → are_within (item_measures cx type) ≡ true
item_within cx (FuncExternal function) few =
    let h = few Functions in
    let sum = of_both cx.imported_functions cx.own_functions in
    let more = one_more_before cx.imported_functions function cx.own_functions in
    within_two Functions TypeSize (suc (length cx.imported_functions + length cx.own_functions)) (at_limit (after_item cx (FuncExternal function)) TypeSize) (omega (arith, h, sum, more)) (few TypeSize)
item_within cx (TableExternal type) few =
    let h = few Tables in
    let more = one_more cx.tables type in
    within_two Tables TypeSize (suc (length cx.tables)) (at_limit (after_item cx (TableExternal type)) TypeSize) (omega (arith, h, more)) (few TypeSize)
item_within cx (MemoryExternal type) few =
    let h = few Memories in
    let more = one_more cx.memories type in
    within_two Memories TypeSize (suc (length cx.memories)) (at_limit (after_item cx (MemoryExternal type)) TypeSize) (omega (arith, h, more)) (few TypeSize)
item_within cx (GlobalExternal type) few =
    let h = few Globals in
    let sum = of_both cx.imported_globals cx.own_globals in
    let more = one_more_before cx.imported_globals type cx.own_globals in
    within_two Globals TypeSize (suc (length cx.imported_globals + length cx.own_globals)) (at_limit (after_item cx (GlobalExternal type)) TypeSize) (omega (arith, h, sum, more)) (few TypeSize)
item_within cx (TagExternal function) few =
    let h = few Tags in
    let more = one_more cx.tags function in
    within_two Tags TypeSize (suc (length cx.tags)) (at_limit (after_item cx (TagExternal function)) TypeSize) (omega (arith, h, more)) (few TypeSize)

items_within : (cx : Context) (types : List (ExternalType ℕ)) → AreFew (after_items cx types) → are_within (items_measures cx types) ≡ true
items_within cx [] few = refl
items_within cx (type ∷ types) few =
    let next = after_item cx type in
    let first : AreFew next = λ limit.
    let up = grows limit (at_limit next limit) (at_limit (after_items next types) limit) (items_measures next types) (told_items next types limit) in
    let h = few limit in omega (arith, up, h) in
    within_append (item_measures cx type) (items_measures next types) (item_within cx type first) (items_within next types few)

entry_within : (cx : Context) (entry : Entry) → AreFew (after cx entry) → are_within (own_numbers entry) ≡ true → are_within (measures cx entry) ≡ true
entry_within cx (OfCustom name) few own = own
entry_within cx (OfType group) few own =
    within_two Groups Types (suc cx.groups) (length (types_after cx.types group)) (few Groups) (few Types)
entry_within cx (OfImport entry) few own =
    let h = few Imports in
    let more = (items_add_none (entered cx) (imported_by entry)).1 in
    let names = name_measures (import_names entry) in
    let items = items_measures (entered cx) (imported_by entry) in
    within_one Imports (suc cx.imports) (names ++ items) (omega (arith, h, more)) (within_append names items own (items_within (entered cx) (imported_by entry) few))
entry_within cx (OfFunction index) few own =
    let h = few Functions in
    let sum = of_both cx.imported_functions cx.own_functions in
    let more = one_more_behind cx.imported_functions cx.own_functions index in
    within_one Functions (suc (length cx.imported_functions + length cx.own_functions)) [] (omega (arith, h, sum, more)) refl
entry_within cx (OfTable table) few own =
    let h = few Tables in
    let more = one_more cx.tables table.type in
    within_one Tables (suc (length cx.tables)) [] (omega (arith, h, more)) refl
entry_within cx (OfMemory type) few own =
    let h = few Memories in
    let more = one_more cx.memories type in
    within_one Memories (suc (length cx.memories)) [] (omega (arith, h, more)) refl
entry_within cx OfTags few own = refl
entry_within cx (OfTag index) few own =
    let h = few Tags in
    let more = one_more cx.tags index in
    within_one Tags (suc (length cx.tags)) [] (omega (arith, h, more)) refl
entry_within cx (OfGlobal global) few own =
    let h = few Globals in
    let sum = of_both cx.imported_globals cx.own_globals in
    let more = one_more_behind cx.imported_globals cx.own_globals global.type in
    within_one Globals (suc (length cx.imported_globals + length cx.own_globals)) [] (omega (arith, h, sum, more)) refl
entry_within cx (OfExport export) few own =
    let h = few Exports in
    let more = one_more cx.exports export in
    let size = cx.type_size + size_of_export cx (item_at cx export.kind export.index) in
    within_one Exports (suc (length cx.exports)) ((Name, length export.name) ∷ (TypeSize, size) ∷ []) (omega (arith, h, more))
    (within_append ((Name, length export.name) ∷ []) ((TypeSize, size) ∷ []) own (within_one TypeSize size [] (few TypeSize) refl))
entry_within cx (OfStart function) few own = refl
entry_within cx (OfElement segment) few own =
    let h = few ElementSegments in
    let more = one_more cx.elements (element_type segment.items) in
    within_one ElementSegments (suc (length cx.elements)) ((SegmentEntries, count_of segment.items) ∷ []) (omega (arith, h, more)) own
entry_within cx (OfDataCount count) few own = refl
entry_within cx (OfBody body) few own = own
entry_within cx (OfData segment) few own = within_one DataSegments (suc cx.segments) [] (few DataSegments) refl

-- each entry passes no limit by what its types have
abbrev pub HaveNoTypes : Context → List Entry → Type 0
HaveNoTypes cx [] = ⊤
HaveNoTypes cx (entry ∷ entries) = ((limit : Limit) → ¬ (PassesByTypes limit cx entry)) × HaveNoTypes (after cx entry) entries

pub keep_limits : (cx : Context) (entries : List Entry) → AreFew (after_all cx entries) → are_within (flat_map own_numbers entries) ≡ true → HaveNoTypes cx entries
    → KeepLimits cx entries
keep_limits cx [] few own none = tt
keep_limits cx (entry ∷ entries) few own none =
    let parts = within_parts (own_numbers entry) (flat_map own_numbers entries) own in
    let first : AreFew (after cx entry) = λ limit. let up = grow (after cx entry) entries limit in let h = few limit in omega (arith, up, h) in
    (record { numbers = entry_within cx entry first parts.0; types = none.0 }, keep_limits (after cx entry) entries few parts.1 none.1)

-- ---- limits that are passed

pub pass_limit : (limit : Limit) (cx : Context) (entries : List Entry) → at_limit cx limit ≤ most limit → most limit < at_limit (after_all cx entries) limit
    → PassLimit limit cx entries
pass_limit limit cx [] few many = absurd (omega (arith, few, many))
pass_limit limit cx (entry ∷ entries) few many = elim (leb_tells (at_limit (after cx entry) limit) (most limit)) [
  | inl still ↦ inr (inr (pass_limit limit (after cx entry) entries still.1 many))
  | inr past ↦ inl (passes_told limit (at_limit cx limit) (at_limit (after cx entry) limit) (measures cx entry) (told cx entry limit) few past.1)
]

own_measured : (limit : Limit) (cx : Context) (entry : Entry) → Passes limit (own_numbers entry) → Passes limit (measures cx entry)
own_measured limit cx (OfCustom name) p = p
own_measured limit cx (OfImport entry) p = inr (passes_left limit (name_measures (import_names entry)) (items_measures (entered cx) (imported_by entry)) p)
own_measured limit cx (OfExport export) p =
    inr (passes_left limit ((Name, length export.name) ∷ []) ((TypeSize, cx.type_size + size_of_export cx (item_at cx export.kind export.index)) ∷ []) p)
own_measured limit cx (OfElement segment) p = inr p
own_measured limit cx (OfBody body) p = p
own_measured limit cx (OfType group) p = absurd p
own_measured limit cx (OfFunction index) p = absurd p
own_measured limit cx (OfTable table) p = absurd p
own_measured limit cx (OfMemory type) p = absurd p
own_measured limit cx OfTags p = absurd p
own_measured limit cx (OfTag index) p = absurd p
own_measured limit cx (OfGlobal global) p = absurd p
own_measured limit cx (OfStart function) p = absurd p
own_measured limit cx (OfDataCount count) p = absurd p
own_measured limit cx (OfData segment) p = absurd p

pub pass_own : (limit : Limit) (cx : Context) (entries : List Entry) → Passes limit (flat_map own_numbers entries) → PassLimit limit cx entries
pass_own limit cx [] p = absurd p
pass_own limit cx (entry ∷ entries) p = elim (passes_parts limit (own_numbers entry) (flat_map own_numbers entries) p) [
  | inl here ↦ inl (own_measured limit cx entry here)
  | inr later ↦ inr (inr (pass_own limit (after cx entry) entries later))
]
