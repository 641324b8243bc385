-- The own functions, bodies, data count and data of a module, by its sections.
use Rattle.std.proofs.Common.{◌≡◌, ℕ, suc, ◌+◌, List, [], ◌∷◌, ◌++◌, length, map, flat_map, refl, sym, ap, ap₂, ◌∙◌, append_assoc, append-nil, length-append, arith}
use Rattle.std.proofs.lemmas.Grind.{flat_map-append}
use Rattle.wasm_spec.specs.Syntax.{Section, Custom, TypeSection, ImportSection, FunctionSection, TableSection, MemorySection, TagSection, GlobalSection, ExportSection, StartSection, ElementSection, DataCountSection, CodeSection, DataSection, DataSegment, imported_by, functions_in, functions_of, bodies_in, bodies_of, data_in, data_of, data_counts_in, data_counts_of}
use Rattle.wasm_spec.specs.Types.{ExternalType, FuncExternal, TableExternal, MemoryExternal, GlobalExternal, TagExternal}
use Rattle.wasm_validity.specs.Context.{Context, after, after_all, after_item, after_items, at_first}
use Rattle.wasm_validity.specs.Entries.{Entry, OfCustom, OfType, OfImport, OfFunction, OfTable, OfMemory, OfTags, OfTag, OfGlobal, OfExport, OfStart, OfElement, OfDataCount, OfBody, OfData, entries_in, entries_of}
use Rattle.wasm_validity.specs.Validity.{context_of}

-- ---- entries one by one

abbrev function_said : Entry → List ℕ
function_said (OfFunction index) = index ∷ []
function_said _ = []

abbrev pub body_said : Entry → List (List ℕ)
body_said (OfBody body) = body ∷ []
body_said _ = []

-- the bodies that entries are
abbrev pub bodies_said : List Entry → List (List ℕ)
bodies_said entries = flat_map body_said entries

abbrev pub count_said : Entry → List ℕ
count_said (OfDataCount count) = count ∷ []
count_said _ = []

-- the data counts that entries state
abbrev pub data_counts_said : List Entry → List ℕ
data_counts_said entries = flat_map count_said entries

abbrev segment_said : Entry → List DataSegment
segment_said (OfData segment) = segment ∷ []
segment_said _ = []

-- items that say nothing of it
pub none_said : {A X : Type 0} (said : Entry → List A) (made : X → Entry) → ((x : X) → said (made x) ≡ []) → (xs : List X) → flat_map said (map made xs) ≡ []
none_said said made none [] = refl
none_said said made none (x ∷ xs) = ap (λ l. l ++ flat_map said (map made xs)) (none x) ∙ none_said said made none xs

-- items that say themselves
each_said : {A : Type 0} (said : Entry → List A) (made : A → Entry) → ((x : A) → said (made x) ≡ x ∷ []) → (xs : List A) → flat_map said (map made xs) ≡ xs
each_said said made each [] = refl
each_said said made each (x ∷ xs) = ap₂ (λ a b. a ++ b) (each x) (each_said said made each xs)

-- ---- sections

by_section : {A : Type 0} (said : Entry → List A) (in_section : Section → List A) → ((s : Section) → flat_map said (entries_in s) ≡ in_section s) → (sections : List Section)
    → flat_map said (entries_of sections) ≡ flat_map in_section sections
by_section said in_section same [] = refl
by_section said in_section same (s ∷ ss) = flat_map-append said (entries_in s) (entries_of ss) ∙ ap₂ (λ a b. a ++ b) (same s) (by_section said in_section same ss)

functions_alike : (s : Section) → flat_map function_said (entries_in s) ≡ functions_in s
functions_alike (Custom name contents) = refl
functions_alike (TypeSection groups) = none_said function_said (λ x. OfType x) (λ x. refl) groups
functions_alike (ImportSection imports) = none_said function_said (λ x. OfImport x) (λ x. refl) imports
functions_alike (FunctionSection indexes) = each_said function_said (λ x. OfFunction x) (λ x. refl) indexes
functions_alike (TableSection tables) = none_said function_said (λ x. OfTable x) (λ x. refl) tables
functions_alike (MemorySection types) = none_said function_said (λ x. OfMemory x) (λ x. refl) types
functions_alike (TagSection indexes) = none_said function_said (λ x. OfTag x) (λ x. refl) indexes
functions_alike (GlobalSection globals) = none_said function_said (λ x. OfGlobal x) (λ x. refl) globals
functions_alike (ExportSection exports) = none_said function_said (λ x. OfExport x) (λ x. refl) exports
functions_alike (StartSection function) = refl
functions_alike (ElementSection segments) = none_said function_said (λ x. OfElement x) (λ x. refl) segments
functions_alike (DataCountSection count) = refl
functions_alike (CodeSection bodies) = none_said function_said (λ x. OfBody x) (λ x. refl) bodies
functions_alike (DataSection segments) = none_said function_said (λ x. OfData x) (λ x. refl) segments

bodies_alike : (s : Section) → flat_map body_said (entries_in s) ≡ bodies_in s
bodies_alike (Custom name contents) = refl
bodies_alike (TypeSection groups) = none_said body_said (λ x. OfType x) (λ x. refl) groups
bodies_alike (ImportSection imports) = none_said body_said (λ x. OfImport x) (λ x. refl) imports
bodies_alike (FunctionSection indexes) = none_said body_said (λ x. OfFunction x) (λ x. refl) indexes
bodies_alike (TableSection tables) = none_said body_said (λ x. OfTable x) (λ x. refl) tables
bodies_alike (MemorySection types) = none_said body_said (λ x. OfMemory x) (λ x. refl) types
bodies_alike (TagSection indexes) = none_said body_said (λ x. OfTag x) (λ x. refl) indexes
bodies_alike (GlobalSection globals) = none_said body_said (λ x. OfGlobal x) (λ x. refl) globals
bodies_alike (ExportSection exports) = none_said body_said (λ x. OfExport x) (λ x. refl) exports
bodies_alike (StartSection function) = refl
bodies_alike (ElementSection segments) = none_said body_said (λ x. OfElement x) (λ x. refl) segments
bodies_alike (DataCountSection count) = refl
bodies_alike (CodeSection bodies) = each_said body_said (λ x. OfBody x) (λ x. refl) bodies
bodies_alike (DataSection segments) = none_said body_said (λ x. OfData x) (λ x. refl) segments

pub bodies_of_sections : (sections : List Section) → bodies_said (entries_of sections) ≡ bodies_of sections
bodies_of_sections sections = by_section body_said bodies_in bodies_alike sections

counts_alike : (s : Section) → flat_map count_said (entries_in s) ≡ data_counts_in s
counts_alike (Custom name contents) = refl
counts_alike (TypeSection groups) = none_said count_said (λ x. OfType x) (λ x. refl) groups
counts_alike (ImportSection imports) = none_said count_said (λ x. OfImport x) (λ x. refl) imports
counts_alike (FunctionSection indexes) = none_said count_said (λ x. OfFunction x) (λ x. refl) indexes
counts_alike (TableSection tables) = none_said count_said (λ x. OfTable x) (λ x. refl) tables
counts_alike (MemorySection types) = none_said count_said (λ x. OfMemory x) (λ x. refl) types
counts_alike (TagSection indexes) = none_said count_said (λ x. OfTag x) (λ x. refl) indexes
counts_alike (GlobalSection globals) = none_said count_said (λ x. OfGlobal x) (λ x. refl) globals
counts_alike (ExportSection exports) = none_said count_said (λ x. OfExport x) (λ x. refl) exports
counts_alike (StartSection function) = refl
counts_alike (ElementSection segments) = none_said count_said (λ x. OfElement x) (λ x. refl) segments
counts_alike (DataCountSection count) = refl
counts_alike (CodeSection bodies) = none_said count_said (λ x. OfBody x) (λ x. refl) bodies
counts_alike (DataSection segments) = none_said count_said (λ x. OfData x) (λ x. refl) segments

pub counts_of_sections : (sections : List Section) → data_counts_said (entries_of sections) ≡ data_counts_of sections
counts_of_sections sections = by_section count_said data_counts_in counts_alike sections

segments_alike : (s : Section) → flat_map segment_said (entries_in s) ≡ data_in s
segments_alike (Custom name contents) = refl
segments_alike (TypeSection groups) = none_said segment_said (λ x. OfType x) (λ x. refl) groups
segments_alike (ImportSection imports) = none_said segment_said (λ x. OfImport x) (λ x. refl) imports
segments_alike (FunctionSection indexes) = none_said segment_said (λ x. OfFunction x) (λ x. refl) indexes
segments_alike (TableSection tables) = none_said segment_said (λ x. OfTable x) (λ x. refl) tables
segments_alike (MemorySection types) = none_said segment_said (λ x. OfMemory x) (λ x. refl) types
segments_alike (TagSection indexes) = none_said segment_said (λ x. OfTag x) (λ x. refl) indexes
segments_alike (GlobalSection globals) = none_said segment_said (λ x. OfGlobal x) (λ x. refl) globals
segments_alike (ExportSection exports) = none_said segment_said (λ x. OfExport x) (λ x. refl) exports
segments_alike (StartSection function) = refl
segments_alike (ElementSection segments) = none_said segment_said (λ x. OfElement x) (λ x. refl) segments
segments_alike (DataCountSection count) = refl
segments_alike (CodeSection bodies) = none_said segment_said (λ x. OfBody x) (λ x. refl) bodies
segments_alike (DataSection segments) = each_said segment_said (λ x. OfData x) (λ x. refl) segments

-- ---- the context

-- what imports leave as it is
record AreLeft (old new : Context) : Type 0 where
  functions : new.own_functions ≡ old.own_functions
  segments : new.segments ≡ old.segments

items_leave : (cx : Context) (types : List (ExternalType ℕ)) → AreLeft cx (after_items cx types)
items_leave cx [] = record { functions = refl; segments = refl }
items_leave cx (type ∷ types) = by_item type (items_leave (after_item cx type) types)
  where
    by_item : (type : ExternalType ℕ) → AreLeft (after_item cx type) (after_items (after_item cx type) types) → AreLeft cx (after_items (after_item cx type) types)
    by_item (FuncExternal function) l = record { functions = l.functions; segments = l.segments }
    by_item (TableExternal type) l = record { functions = l.functions; segments = l.segments }
    by_item (MemoryExternal type) l = record { functions = l.functions; segments = l.segments }
    by_item (GlobalExternal type) l = record { functions = l.functions; segments = l.segments }
    by_item (TagExternal function) l = record { functions = l.functions; segments = l.segments }

one_entry : (cx : Context) (entry : Entry) → (after cx entry).own_functions ≡ cx.own_functions ++ function_said entry
one_entry cx (OfFunction index) = refl
one_entry cx (OfImport entry) = (items_leave (record cx { imports = suc cx.imports }) (imported_by entry)).functions ∙ sym (append-nil cx.own_functions)
one_entry cx (OfCustom name) = sym (append-nil cx.own_functions)
one_entry cx (OfType group) = sym (append-nil cx.own_functions)
one_entry cx (OfTable table) = sym (append-nil cx.own_functions)
one_entry cx (OfMemory type) = sym (append-nil cx.own_functions)
one_entry cx OfTags = sym (append-nil cx.own_functions)
one_entry cx (OfTag index) = sym (append-nil cx.own_functions)
one_entry cx (OfGlobal global) = sym (append-nil cx.own_functions)
one_entry cx (OfExport export) = sym (append-nil cx.own_functions)
one_entry cx (OfStart function) = sym (append-nil cx.own_functions)
one_entry cx (OfElement segment) = sym (append-nil cx.own_functions)
one_entry cx (OfDataCount count) = sym (append-nil cx.own_functions)
one_entry cx (OfBody body) = sym (append-nil cx.own_functions)
one_entry cx (OfData segment) = sym (append-nil cx.own_functions)

functions_after : (cx : Context) (es : List Entry) → (after_all cx es).own_functions ≡ cx.own_functions ++ flat_map function_said es
functions_after cx [] = sym (append-nil cx.own_functions)
functions_after cx (e ∷ es) =
    functions_after (after cx e) es ∙ ap (λ (l : List ℕ). l ++ flat_map function_said es) (one_entry cx e) ∙ append_assoc cx.own_functions (function_said e) (flat_map function_said es)

pub functions_of_sections : (sections : List Section) → (context_of sections).own_functions ≡ functions_of sections
functions_of_sections sections = functions_after at_first (entries_of sections) ∙ by_section function_said functions_in functions_alike sections

-- ---- data segments

one_segment : (cx : Context) (entry : Entry) → (after cx entry).segments ≡ cx.segments + length (segment_said entry)
one_segment cx (OfData segment) = omega arith
one_segment cx (OfImport entry) = (items_leave (record cx { imports = suc cx.imports }) (imported_by entry)).segments ∙ omega arith
one_segment cx (OfCustom name) = omega arith
one_segment cx (OfType group) = omega arith
one_segment cx (OfFunction index) = omega arith
one_segment cx (OfTable table) = omega arith
one_segment cx (OfMemory type) = omega arith
one_segment cx OfTags = omega arith
one_segment cx (OfTag index) = omega arith
one_segment cx (OfGlobal global) = omega arith
one_segment cx (OfExport export) = omega arith
one_segment cx (OfStart function) = omega arith
one_segment cx (OfElement segment) = omega arith
one_segment cx (OfDataCount count) = omega arith
one_segment cx (OfBody body) = omega arith

segments_after : (cx : Context) (es : List Entry) → (after_all cx es).segments ≡ cx.segments + length (flat_map segment_said es)
segments_after cx [] = omega arith
segments_after cx (e ∷ es) = omega (arith, segments_after (after cx e) es, one_segment cx e, length-append (segment_said e) (flat_map segment_said es))

pub segments_of_sections : (sections : List Section) → (context_of sections).segments ≡ length (data_of sections)
segments_of_sections sections = omega (arith, segments_after at_first (entries_of sections), ap (λ (l : List DataSegment). length l) (by_section segment_said data_in segments_alike sections))
