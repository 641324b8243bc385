-- The sections of a made module: what they have, and their order.
use Rattle.std.proofs.Common.{◌≡◌, ℕ, suc, nat_eq, ◌^◌, ◌<◌, ◌≤◌, Bool, true, false, List, [], ◌∷◌, ◌++◌, length, map, Option, Some, None, refl, sym, ap, subst, ◌∙◌, arith, if◌then◌else◌}
use Rattle.std.specs.List.{AllByRecursion, flat_map}
use Rattle.std.specs.Option.{option_to_list}
use Rattle.std.proofs.lemmas.List.{append-nil}
use Rattle.wasm_encoder_expression_sections.specs.ReadItems.{IsSmallOption}
use Rattle.wasm_smith_sections.specs.ModuleEncoding.{IsModuleEncoding, IsShortSection}
use Rattle.wasm_smith_sections.specs.Contents.{data_bytes, section_bytes}
use Rattle.wasm_smith_sections.specs.SmallModules.{IsSmallCustom, IsSmallModule}
use Rattle.wasm_smith_sections.proofs.BodyBytes.{as_many_bodies, bodies_bytes}
use Rattle.wasm_smith_sections.proofs.Forms.{all_append, all_behind, few_items}
use Rattle.wasm_smith_sections.proofs.ReadContents.{IsSmallSection, sections_are}
use Rattle.wasm_smith_sections.proofs.ReadItems.{Laws, some_data}
use Rattle.wasm_smith_validity.specs.Made.{Made, PlacedCustom}
use Rattle.wasm_smith_validity.specs.Sections.{between, customs_before, kinds_with, ordered_sections, sections_with, unless_empty}
use Rattle.wasm_smith_validity.proofs.CustomSections.{nothing_between}
use Rattle.wasm_spec.specs.Bytes.{AreBytes}
use Rattle.wasm_spec.specs.Grammar.{AreOrdered, ComesAfter, IsModule, last_place, place_of}
use Rattle.wasm_spec.specs.Syntax.{DataSegment, Section, Custom, TypeSection, ImportSection, FunctionSection, TableSection, MemorySection, TagSection, GlobalSection, ExportSection, StartSection, ElementSection, DataCountSection, CodeSection, DataSection, functions_in, functions_of, bodies_in, bodies_of, data_in, data_of, data_counts_in, data_counts_of}

-- ---- what sections of one kind have

-- nothing of this
passes : {A X : Type 0} (part : Section → List X) (section : List A → Section) (items : List A) (rest : List Section) → ((xs : List A) → part (section xs) ≡ [])
    → flat_map part (unless_empty section items ++ rest) ≡ flat_map part rest
passes part section [] rest none = refl
passes part section (item ∷ items) rest none = ap (λ l. l ++ flat_map part rest) (none (item ∷ items))

-- just their items
gives : {A : Type 0} (part : Section → List A) (section : List A → Section) (items : List A) (rest : List Section) → ((xs : List A) → part (section xs) ≡ xs)
    → flat_map part (unless_empty section items ++ rest) ≡ items ++ flat_map part rest
gives part section [] rest all = refl
gives part section (item ∷ items) rest all = ap (λ l. l ++ flat_map part rest) (all (item ∷ items))

passes_start : {X : Type 0} (part : Section → List X) (start : Option ℕ) (rest : List Section) → ((function : ℕ) → part (StartSection function) ≡ [])
    → flat_map part (map (λ function. StartSection function) (option_to_list start) ++ rest) ≡ flat_map part rest
passes_start part None rest none = refl
passes_start part (Some function) rest none = ap (λ l. l ++ flat_map part rest) (none function)

-- all are small
with_small : {A : Type 0} (P : Section → Type 0) (section : List A → Section) (items : List A) (rest : List Section) → P (section items) → AllByRecursion P rest
    → AllByRecursion P (unless_empty section items ++ rest)
with_small P section [] rest h others = others
with_small P section (item ∷ items) rest h others = (h, others)

start_small : (compact : Bool) (start : Option ℕ) (rest : List Section) → IsSmallOption start → AllByRecursion (IsSmallSection compact) rest
    → AllByRecursion (IsSmallSection compact) (map (λ function. StartSection function) (option_to_list start) ++ rest)
start_small compact None rest h others = others
start_small compact (Some function) rest h others = (h, others)

-- ---- the order

earlier : (o : Option ℕ) (j k : ℕ) → j ≤ k → ComesAfter k o → ComesAfter j o
earlier None j k le h = tt
earlier (Some place) j k le h = omega (arith, le, h)

still : (o : Option ℕ) (j k : ℕ) → j ≤ k → (sections : List Section) → ((a b : ℕ) → a ≤ b → AreOrdered b sections → AreOrdered a sections) → AreOrdered (last_place k o) sections
    → AreOrdered (last_place j o) sections
still None j k le sections again h = again j k le h
still (Some place) j k le sections again h = h

-- sections that come after a place come after those before it
lower : (sections : List Section) (j k : ℕ) → j ≤ k → AreOrdered k sections → AreOrdered j sections
lower [] j k le h = tt
lower (section ∷ sections) j k le h = (earlier (place_of section) j k le h.0, still (place_of section) j k le sections (lower sections) h.1)

ordered : {A : Type 0} (last place : ℕ) (section : List A → Section) (items : List A) (rest : List Section) → last < place → ((xs : List A) → place_of (section xs) ≡ Some place)
    → AreOrdered place rest → AreOrdered last (unless_empty section items ++ rest)
ordered last place section [] rest lt is h = lower rest last place (omega (arith, lt)) h
ordered last place section (item ∷ items) rest lt is h =
    subst (λ o. ComesAfter last o × AreOrdered (last_place last o) rest) (sym (is (item ∷ items))) (lt, h)

ordered_start : (last : ℕ) (start : Option ℕ) (rest : List Section) → last < 9 → AreOrdered 9 rest
    → AreOrdered last (map (λ function. StartSection function) (option_to_list start) ++ rest)
ordered_start last None rest lt h = lower rest last 9 (omega (arith, lt)) h
ordered_start last (Some function) rest lt h = (lt, h)

-- ---- the sections of a made module

-- the sections from a kind on
abbrev from_segments : Bool → List (List ℕ) → Made → List Section
from_segments counted bodies m = unless_empty (λ xs. DataSection xs) m.data_segments ++ []

abbrev from_code : Bool → List (List ℕ) → Made → List Section
from_code counted bodies m = unless_empty (λ xs. CodeSection xs) bodies ++ from_segments counted bodies m

abbrev from_count : Bool → List (List ℕ) → Made → List Section
from_count counted bodies m = unless_empty (λ (xs : List DataSegment). DataCountSection (length xs)) (if counted then m.data_segments else []) ++ from_code counted bodies m

abbrev from_elements : Bool → List (List ℕ) → Made → List Section
from_elements counted bodies m = unless_empty (λ xs. ElementSection xs) m.elems ++ from_count counted bodies m

abbrev from_start : Bool → List (List ℕ) → Made → List Section
from_start counted bodies m = map (λ function. StartSection function) (option_to_list m.start) ++ from_elements counted bodies m

abbrev from_exports : Bool → List (List ℕ) → Made → List Section
from_exports counted bodies m = unless_empty (λ xs. ExportSection xs) m.exports ++ from_start counted bodies m

abbrev from_globals : Bool → List (List ℕ) → Made → List Section
from_globals counted bodies m = unless_empty (λ xs. GlobalSection xs) m.globals ++ from_exports counted bodies m

abbrev from_tags : Bool → List (List ℕ) → Made → List Section
from_tags counted bodies m = unless_empty (λ xs. TagSection xs) m.tags ++ from_globals counted bodies m

abbrev from_memories : Bool → List (List ℕ) → Made → List Section
from_memories counted bodies m = unless_empty (λ xs. MemorySection xs) m.memories ++ from_tags counted bodies m

abbrev from_tables : Bool → List (List ℕ) → Made → List Section
from_tables counted bodies m = unless_empty (λ xs. TableSection xs) m.tables ++ from_memories counted bodies m

abbrev from_functions : Bool → List (List ℕ) → Made → List Section
from_functions counted bodies m = unless_empty (λ xs. FunctionSection xs) m.funcs ++ from_tables counted bodies m

abbrev from_imports : Bool → List (List ℕ) → Made → List Section
from_imports counted bodies m = unless_empty (λ xs. ImportSection xs) m.imports ++ from_functions counted bodies m

functions_are : (counted : Bool) (bodies : List (List ℕ)) (m : Made) → functions_of (ordered_sections counted bodies m) ≡ m.funcs
functions_are counted bodies m =
    passes functions_in (λ xs. TypeSection xs) m.groups (from_imports counted bodies m) (λ xs. refl)
    ∙ passes functions_in (λ xs. ImportSection xs) m.imports (from_functions counted bodies m) (λ xs. refl)
    ∙ gives functions_in (λ xs. FunctionSection xs) m.funcs (from_tables counted bodies m) (λ xs. refl)
    ∙ ap (λ l. m.funcs ++ l) (passes functions_in (λ xs. TableSection xs) m.tables (from_memories counted bodies m) (λ xs. refl)
    ∙ passes functions_in (λ xs. MemorySection xs) m.memories (from_tags counted bodies m) (λ xs. refl)
    ∙ passes functions_in (λ xs. TagSection xs) m.tags (from_globals counted bodies m) (λ xs. refl)
    ∙ passes functions_in (λ xs. GlobalSection xs) m.globals (from_exports counted bodies m) (λ xs. refl)
    ∙ passes functions_in (λ xs. ExportSection xs) m.exports (from_start counted bodies m) (λ xs. refl)
    ∙ passes_start functions_in m.start (from_elements counted bodies m) (λ function. refl)
    ∙ passes functions_in (λ xs. ElementSection xs) m.elems (from_count counted bodies m) (λ xs. refl)
    ∙ passes functions_in (λ (xs : List DataSegment). DataCountSection (length xs)) (if counted then m.data_segments else []) (from_code counted bodies m) (λ xs. refl)
    ∙ passes functions_in (λ xs. CodeSection xs) bodies (from_segments counted bodies m) (λ xs. refl)
    ∙ passes functions_in (λ xs. DataSection xs) m.data_segments [] (λ xs. refl)) ∙ append-nil m.funcs

bodies_are : (counted : Bool) (bodies : List (List ℕ)) (m : Made) → bodies_of (ordered_sections counted bodies m) ≡ bodies
bodies_are counted bodies m =
    passes bodies_in (λ xs. TypeSection xs) m.groups (from_imports counted bodies m) (λ xs. refl)
    ∙ passes bodies_in (λ xs. ImportSection xs) m.imports (from_functions counted bodies m) (λ xs. refl)
    ∙ passes bodies_in (λ xs. FunctionSection xs) m.funcs (from_tables counted bodies m) (λ xs. refl)
    ∙ passes bodies_in (λ xs. TableSection xs) m.tables (from_memories counted bodies m) (λ xs. refl)
    ∙ passes bodies_in (λ xs. MemorySection xs) m.memories (from_tags counted bodies m) (λ xs. refl)
    ∙ passes bodies_in (λ xs. TagSection xs) m.tags (from_globals counted bodies m) (λ xs. refl)
    ∙ passes bodies_in (λ xs. GlobalSection xs) m.globals (from_exports counted bodies m) (λ xs. refl)
    ∙ passes bodies_in (λ xs. ExportSection xs) m.exports (from_start counted bodies m) (λ xs. refl)
    ∙ passes_start bodies_in m.start (from_elements counted bodies m) (λ function. refl)
    ∙ passes bodies_in (λ xs. ElementSection xs) m.elems (from_count counted bodies m) (λ xs. refl)
    ∙ passes bodies_in (λ (xs : List DataSegment). DataCountSection (length xs)) (if counted then m.data_segments else []) (from_code counted bodies m) (λ xs. refl)
    ∙ gives bodies_in (λ xs. CodeSection xs) bodies (from_segments counted bodies m) (λ xs. refl)
    ∙ ap (λ l. bodies ++ l) (passes bodies_in (λ xs. DataSection xs) m.data_segments [] (λ xs. refl)) ∙ append-nil bodies

data_are : (counted : Bool) (bodies : List (List ℕ)) (m : Made) → data_of (ordered_sections counted bodies m) ≡ m.data_segments
data_are counted bodies m =
    passes data_in (λ xs. TypeSection xs) m.groups (from_imports counted bodies m) (λ xs. refl)
    ∙ passes data_in (λ xs. ImportSection xs) m.imports (from_functions counted bodies m) (λ xs. refl)
    ∙ passes data_in (λ xs. FunctionSection xs) m.funcs (from_tables counted bodies m) (λ xs. refl)
    ∙ passes data_in (λ xs. TableSection xs) m.tables (from_memories counted bodies m) (λ xs. refl)
    ∙ passes data_in (λ xs. MemorySection xs) m.memories (from_tags counted bodies m) (λ xs. refl)
    ∙ passes data_in (λ xs. TagSection xs) m.tags (from_globals counted bodies m) (λ xs. refl)
    ∙ passes data_in (λ xs. GlobalSection xs) m.globals (from_exports counted bodies m) (λ xs. refl)
    ∙ passes data_in (λ xs. ExportSection xs) m.exports (from_start counted bodies m) (λ xs. refl)
    ∙ passes_start data_in m.start (from_elements counted bodies m) (λ function. refl)
    ∙ passes data_in (λ xs. ElementSection xs) m.elems (from_count counted bodies m) (λ xs. refl)
    ∙ passes data_in (λ (xs : List DataSegment). DataCountSection (length xs)) (if counted then m.data_segments else []) (from_code counted bodies m) (λ xs. refl)
    ∙ passes data_in (λ xs. CodeSection xs) bodies (from_segments counted bodies m) (λ xs. refl)
    ∙ gives data_in (λ xs. DataSection xs) m.data_segments [] (λ xs. refl) ∙ append-nil m.data_segments

count_alone : (items : List DataSegment) (rest : List Section) → flat_map data_counts_in rest ≡ []
    → flat_map data_counts_in (unless_empty (λ (xs : List DataSegment). DataCountSection (length xs)) items ++ rest) ≡ flat_map data_counts_in (unless_empty (λ (xs : List DataSegment). DataCountSection (length xs)) items)
count_alone [] rest none = none
count_alone (item ∷ items) rest none = ap (λ l. length (item ∷ items) ∷ l) none

counted_well : (counted : Bool) (segments : List DataSegment)
    → AllByRecursion (λ count. count ≡ length segments) (flat_map data_counts_in (unless_empty (λ (xs : List DataSegment). DataCountSection (length xs)) (if counted then segments else [])))
counted_well true [] = tt
counted_well true (segment ∷ segments) = (refl, tt)
counted_well false segments = tt

few_counted : (counted : Bool) (segments : List DataSegment) → length segments < 2 ^ 32 → length (if counted then segments else []) < 2 ^ 32
few_counted true segments few = few
few_counted false segments few = omega arith

few_of_section : (segments : List DataSegment) → AllByRecursion IsShortSection (unless_empty (λ xs. DataSection xs) segments ++ []) → length segments < 2 ^ 32
few_of_section [] short = omega arith
few_of_section (segment ∷ segments) short = few_items data_bytes some_data (segment ∷ segments) short.0

counts_are : (counted : Bool) (bodies : List (List ℕ)) (m : Made) → data_counts_of (ordered_sections counted bodies m) ≡ flat_map data_counts_in (unless_empty (λ (xs : List DataSegment). DataCountSection (length xs)) (if counted then m.data_segments else []))
counts_are counted bodies m =
    passes data_counts_in (λ xs. TypeSection xs) m.groups (from_imports counted bodies m) (λ xs. refl)
    ∙ passes data_counts_in (λ xs. ImportSection xs) m.imports (from_functions counted bodies m) (λ xs. refl)
    ∙ passes data_counts_in (λ xs. FunctionSection xs) m.funcs (from_tables counted bodies m) (λ xs. refl)
    ∙ passes data_counts_in (λ xs. TableSection xs) m.tables (from_memories counted bodies m) (λ xs. refl)
    ∙ passes data_counts_in (λ xs. MemorySection xs) m.memories (from_tags counted bodies m) (λ xs. refl)
    ∙ passes data_counts_in (λ xs. TagSection xs) m.tags (from_globals counted bodies m) (λ xs. refl)
    ∙ passes data_counts_in (λ xs. GlobalSection xs) m.globals (from_exports counted bodies m) (λ xs. refl)
    ∙ passes data_counts_in (λ xs. ExportSection xs) m.exports (from_start counted bodies m) (λ xs. refl)
    ∙ passes_start data_counts_in m.start (from_elements counted bodies m) (λ function. refl)
    ∙ passes data_counts_in (λ xs. ElementSection xs) m.elems (from_count counted bodies m) (λ xs. refl)
    ∙ count_alone (if counted then m.data_segments else []) (from_code counted bodies m) (passes data_counts_in (λ xs. CodeSection xs) bodies (from_segments counted bodies m) (λ xs. refl) ∙ passes data_counts_in (λ xs. DataSection xs) m.data_segments [] (λ xs. refl))

-- there are few data segments where their section isn't too long
few_segments : (counted : Bool) (bodies : List (List ℕ)) (m : Made) → AllByRecursion IsShortSection (ordered_sections counted bodies m) → length m.data_segments < 2 ^ 32
few_segments counted bodies m short =
    few_of_section m.data_segments
    (all_behind IsShortSection (unless_empty (λ xs. CodeSection xs) bodies) (from_segments counted bodies m)
    (all_behind IsShortSection (unless_empty (λ (xs : List DataSegment). DataCountSection (length xs)) (if counted then m.data_segments else [])) (from_code counted bodies m)
    (all_behind IsShortSection (unless_empty (λ xs. ElementSection xs) m.elems) (from_count counted bodies m)
    (all_behind IsShortSection (map (λ function. StartSection function) (option_to_list m.start)) (from_elements counted bodies m)
    (all_behind IsShortSection (unless_empty (λ xs. ExportSection xs) m.exports) (from_start counted bodies m)
    (all_behind IsShortSection (unless_empty (λ xs. GlobalSection xs) m.globals) (from_exports counted bodies m)
    (all_behind IsShortSection (unless_empty (λ xs. TagSection xs) m.tags) (from_globals counted bodies m)
    (all_behind IsShortSection (unless_empty (λ xs. MemorySection xs) m.memories) (from_tags counted bodies m)
    (all_behind IsShortSection (unless_empty (λ xs. TableSection xs) m.tables) (from_memories counted bodies m)
    (all_behind IsShortSection (unless_empty (λ xs. FunctionSection xs) m.funcs) (from_tables counted bodies m)
    (all_behind IsShortSection (unless_empty (λ xs. ImportSection xs) m.imports) (from_functions counted bodies m)
    (all_behind IsShortSection (unless_empty (λ xs. TypeSection xs) m.groups) (from_imports counted bodies m)
    short))))))))))))

small_sections : (compact counted : Bool) (bodies : List (List ℕ)) (m : Made) → IsSmallModule compact m → length m.data_segments < 2 ^ 32 → AllByRecursion AreBytes bodies
    → AllByRecursion (IsSmallSection compact) (ordered_sections counted bodies m)
small_sections compact counted bodies m small few bytes =
    with_small (IsSmallSection compact) (λ xs. TypeSection xs) m.groups (from_imports counted bodies m) small.groups
    (with_small (IsSmallSection compact) (λ xs. ImportSection xs) m.imports (from_functions counted bodies m) small.imports
    (with_small (IsSmallSection compact) (λ xs. FunctionSection xs) m.funcs (from_tables counted bodies m) small.funcs
    (with_small (IsSmallSection compact) (λ xs. TableSection xs) m.tables (from_memories counted bodies m) small.tables
    (with_small (IsSmallSection compact) (λ xs. MemorySection xs) m.memories (from_tags counted bodies m) small.memories
    (with_small (IsSmallSection compact) (λ xs. TagSection xs) m.tags (from_globals counted bodies m) small.tags
    (with_small (IsSmallSection compact) (λ xs. GlobalSection xs) m.globals (from_exports counted bodies m) small.globals
    (with_small (IsSmallSection compact) (λ xs. ExportSection xs) m.exports (from_start counted bodies m) small.exports
    (start_small compact m.start (from_elements counted bodies m) small.start
    (with_small (IsSmallSection compact) (λ xs. ElementSection xs) m.elems (from_count counted bodies m) small.elems
    (with_small (IsSmallSection compact) (λ (xs : List DataSegment). DataCountSection (length xs)) (if counted then m.data_segments else []) (from_code counted bodies m) (few_counted counted m.data_segments few)
    (with_small (IsSmallSection compact) (λ xs. CodeSection xs) bodies (from_segments counted bodies m) bytes
    (with_small (IsSmallSection compact) (λ xs. DataSection xs) m.data_segments [] small.data_segments tt))))))))))))

in_order : (counted : Bool) (bodies : List (List ℕ)) (m : Made) → AreOrdered 0 (ordered_sections counted bodies m)
in_order counted bodies m =
    ordered 0 1 (λ xs. TypeSection xs) m.groups (from_imports counted bodies m) (omega arith) (λ xs. refl)
    (ordered 1 2 (λ xs. ImportSection xs) m.imports (from_functions counted bodies m) (omega arith) (λ xs. refl)
    (ordered 2 3 (λ xs. FunctionSection xs) m.funcs (from_tables counted bodies m) (omega arith) (λ xs. refl)
    (ordered 3 4 (λ xs. TableSection xs) m.tables (from_memories counted bodies m) (omega arith) (λ xs. refl)
    (ordered 4 5 (λ xs. MemorySection xs) m.memories (from_tags counted bodies m) (omega arith) (λ xs. refl)
    (ordered 5 6 (λ xs. TagSection xs) m.tags (from_globals counted bodies m) (omega arith) (λ xs. refl)
    (ordered 6 7 (λ xs. GlobalSection xs) m.globals (from_exports counted bodies m) (omega arith) (λ xs. refl)
    (ordered 7 8 (λ xs. ExportSection xs) m.exports (from_start counted bodies m) (omega arith) (λ xs. refl)
    (ordered_start 8 m.start (from_elements counted bodies m) (omega arith)
    (ordered 9 10 (λ xs. ElementSection xs) m.elems (from_count counted bodies m) (omega arith) (λ xs. refl)
    (ordered 10 11 (λ (xs : List DataSegment). DataCountSection (length xs)) (if counted then m.data_segments else []) (from_code counted bodies m) (omega arith) (λ xs. refl)
    (ordered 11 12 (λ xs. CodeSection xs) bodies (from_segments counted bodies m) (omega arith) (λ xs. refl)
    (ordered 12 13 (λ xs. DataSection xs) m.data_segments [] (omega arith) (λ xs. refl) tt))))))))))))

-- ---- with custom sections between

-- where each of some sections is small, and each custom one, so is each of all
small_customs : (compact : Bool) (place : ℕ) (customs : List PlacedCustom) → AllByRecursion IsSmallCustom customs → AllByRecursion (IsSmallSection compact) (customs_before place customs)
small_customs compact place [] h = tt
small_customs compact place (custom ∷ customs) h = go (nat_eq custom.place place) refl (small_customs compact place customs h.1)
  where
    go : (b : Bool) → nat_eq custom.place place ≡ b → AllByRecursion (IsSmallSection compact) (customs_before place customs)
        → AllByRecursion (IsSmallSection compact) (customs_before place (custom ∷ customs))
    go true e others = rw e (h.0, others)
    go false e others = rw e others

all_first : {A : Type 0} (P : A → Type 0) (xs ys : List A) → AllByRecursion P (xs ++ ys) → AllByRecursion P xs
all_first P [] ys h = tt
all_first P (x ∷ xs) ys h = (h.0, all_first P xs ys h.1)

small_between : (compact : Bool) (place : ℕ) (customs : List PlacedCustom) (kinds : List (List Section)) → AllByRecursion IsSmallCustom customs
    → AllByRecursion (IsSmallSection compact) (flat_map (λ kind. kind) kinds) → AllByRecursion (IsSmallSection compact) (between place customs kinds)
small_between compact place customs [] small h = small_customs compact place customs small
small_between compact place customs (kind ∷ kinds) small h =
    all_append (IsSmallSection compact) (customs_before place customs) (kind ++ between (suc place) customs kinds) (small_customs compact place customs small)
    (all_append (IsSmallSection compact) kind (between (suc place) customs kinds) (all_first (IsSmallSection compact) kind (flat_map (λ kind. kind) kinds) h)
    (small_between compact (suc place) customs kinds small (all_behind (IsSmallSection compact) kind (flat_map (λ kind. kind) kinds) h)))

all_without : (P : Section → Type 0) (place : ℕ) (customs : List PlacedCustom) (kinds : List (List Section)) → AllByRecursion P (between place customs kinds)
    → AllByRecursion P (flat_map (λ kind. kind) kinds)
all_without P place customs [] h = tt
all_without P place customs (kind ∷ kinds) h =
    let rest = all_behind P (customs_before place customs) (kind ++ between (suc place) customs kinds) h in
    all_append P kind (flat_map (λ kind. kind) kinds) (all_first P kind (between (suc place) customs kinds) rest)
    (all_without P (suc place) customs kinds (all_behind P kind (between (suc place) customs kinds) rest))

-- the place of the last section that has one
abbrev last_after : ℕ → List Section → ℕ
last_after last [] = last
last_after last (section ∷ sections) = last_after (last_place last (place_of section)) sections

ordered_join : (last : ℕ) (xs ys : List Section) → AreOrdered last xs → AreOrdered (last_after last xs) ys → AreOrdered last (xs ++ ys)
ordered_join last [] ys h g = g
ordered_join last (x ∷ xs) ys h g = (h.0, ordered_join (last_place last (place_of x)) xs ys h.1 g)

ordered_first : (last : ℕ) (xs ys : List Section) → AreOrdered last (xs ++ ys) → AreOrdered last xs
ordered_first last [] ys h = tt
ordered_first last (x ∷ xs) ys h = (h.0, ordered_first (last_place last (place_of x)) xs ys h.1)

ordered_second : (last : ℕ) (xs ys : List Section) → AreOrdered last (xs ++ ys) → AreOrdered (last_after last xs) ys
ordered_second last [] ys h = h
ordered_second last (x ∷ xs) ys h = ordered_second (last_place last (place_of x)) xs ys h.1

ordered_customs : (last place : ℕ) (customs : List PlacedCustom) (rest : List Section) → AreOrdered last rest → AreOrdered last (customs_before place customs ++ rest)
ordered_customs last place [] rest h = h
ordered_customs last place (custom ∷ customs) rest h = go (nat_eq custom.place place) refl (ordered_customs last place customs rest h)
  where
    go : (b : Bool) → nat_eq custom.place place ≡ b → AreOrdered last (customs_before place customs ++ rest) → AreOrdered last (customs_before place (custom ∷ customs) ++ rest)
    go true e others = rw e (tt, others)
    go false e others = rw e others

ordered_between : (last place : ℕ) (customs : List PlacedCustom) (kinds : List (List Section)) → AreOrdered last (flat_map (λ kind. kind) kinds) → AreOrdered last (between place customs kinds)
ordered_between last place customs [] h = subst (AreOrdered last) (append-nil (customs_before place customs)) (ordered_customs last place customs [] tt)
ordered_between last place customs (kind ∷ kinds) h =
    ordered_customs last place customs (kind ++ between (suc place) customs kinds)
    (ordered_join last kind (between (suc place) customs kinds) (ordered_first last kind (flat_map (λ kind. kind) kinds) h)
    (ordered_between (last_after last kind) (suc place) customs kinds (ordered_second last kind (flat_map (λ kind. kind) kinds) h)))

-- ---- the module

pub module_reads : Laws → (compact counted : Bool) (m : Made) (encoding : List ℕ) (is : IsModuleEncoding counted m encoding) → IsSmallModule compact m → length m.bodies ≡ length m.funcs
    → IsModule compact encoding (sections_with counted is.bodies m)
module_reads laws compact counted m encoding is small many =
    let kinds = kinds_with counted is.bodies m in
    let sections = sections_with counted is.bodies m in
    let short = all_without IsShortSection 0 m.customs kinds is.short in
    let bytes = bodies_bytes m.bodies is.bodies small.bodies is.are in
    let functions = nothing_between functions_in (λ name contents. refl) 0 m.customs kinds ∙ functions_are counted is.bodies m in
    let bodies = nothing_between bodies_in (λ name contents. refl) 0 m.customs kinds ∙ bodies_are counted is.bodies m in
    let told = ap length (nothing_between data_in (λ name contents. refl) 0 m.customs kinds ∙ data_are counted is.bodies m) in
    let counts = nothing_between data_counts_in (λ name contents. refl) 0 m.customs kinds ∙ counts_are counted is.bodies m in
    record {
      body = flat_map section_bytes sections;
      begins = is.is;
      holds = sections_are laws compact sections
          (small_between compact 0 m.customs kinds small.customs (small_sections compact counted is.bodies m small (few_segments counted is.bodies m short) bytes)) is.short;
      ordered = ordered_between 0 0 m.customs kinds (in_order counted is.bodies m);
      agreeing = ap length functions ∙ sym many ∙ sym (as_many_bodies m.bodies is.bodies is.are) ∙ sym (ap length bodies);
      counted =
          subst (λ n. AllByRecursion (λ count. count ≡ n) (data_counts_of sections)) (sym told)
          (subst (λ l. AllByRecursion (λ count. count ≡ length m.data_segments) l) (sym counts) (counted_well counted m.data_segments));
    }
