-- Sections that are filled where they have items.
use Rattle.std.proofs.Common.{◌≡◌, ◌↔◌, ◌⊎◌, ℕ, ◌+◌, ◌≤◌, ◌<◌, ◌^◌, nat_eq, Bool, true, false, List, [], ◌∷◌, ◌++◌, length, map, drop, get_or, refl, ap, sym, ◌∙◌, subst, inl, inr, append_assoc, arith, if◌then◌else◌}
use Rattle.std.specs.Bool.{IsTrue}
use Rattle.std.specs.List.{flat_map}
use Rattle.std.specs.Option.{option_to_list}
use Rattle.std.proofs.lemmas.List.{drop_all, drop_more, length-map, map-append}
use Rattle.wasm_smith_definitions.specs.Items.{placed_custom}
use Rattle.wasm_smith_definitions.specs.declared.custom_section.CustomSection.{CustomSection}
use Rattle.wasm_smith_sections.specs.Contents.{stated_count}
use Rattle.wasm_smith_sections.specs.FilledSections.{first_sections, frame, last_sections, middle_sections, placed}
use Rattle.wasm_smith_sections.specs.ModuleEncoding.{HasManyItems, PassesLength, SomeByRecursion, SomeHaveLongFront}
use Rattle.wasm_smith_validity.specs.Made.{Made, MadeBody}
use Rattle.wasm_smith_validity.specs.Sections.{customs_before, section_of, sections_with, unless_empty}
use Rattle.wasm_spec.specs.Shortest.{list_encoding}
use Rattle.wasm_spec.specs.Syntax.{Section, TypeSection, ImportSection, FunctionSection, TableSection, MemorySection, TagSection, GlobalSection, ExportSection, StartSection, ElementSection, DataCountSection, CodeSection, DataSection}

-- ---- one section

-- one that keeps its items
pub part_of : {A : Type 0} (section : List A → Section) (items : List A) (is_empty : Bool) → (IsTrue is_empty ↔ (items ≡ []))
    → (if is_empty then [] else frame (section items) ∷ []) ≡ map frame (unless_empty section items)
part_of section [] true h = refl
part_of section [] false h = let e : false ≡ true = h.1 refl in absurd cc
part_of section (item ∷ items) true h = let e : item ∷ items ≡ [] = h.0 refl in absurd cc
part_of section (item ∷ items) false h = refl

seen_items : {A : Type 0} (encoding : A → List ℕ) (items : List A) → flat_map (λ item. item) (map encoding items) ≡ flat_map encoding items
seen_items encoding [] = refl
seen_items encoding (item ∷ items) = ap (λ l. encoding item ++ l) (seen_items encoding items)

list_seen : {A : Type 0} (encoding : A → List ℕ) (items : List A) → list_encoding (λ item. item) (map encoding items) ≡ list_encoding encoding items
unfolding list_encoding
list_seen encoding items = rw (length-map items encoding, seen_items encoding items) refl

-- one that keeps the bytes of its items
pub part_of_bytes : {A : Type 0} (section : List A → Section) (id : ℕ) (encoding : A → List ℕ) (items : List A) (is_empty : Bool)
    → ((xs : List A) → frame (section xs) ≡ (id, list_encoding encoding xs)) → (IsTrue is_empty ↔ (map encoding items ≡ []))
    → (if is_empty then [] else (id, list_encoding (λ item. item) (map encoding items)) ∷ []) ≡ map frame (unless_empty section items)
part_of_bytes section id encoding [] true is h = refl
part_of_bytes section id encoding [] false is h = let e : false ≡ true = h.1 refl in absurd cc
part_of_bytes section id encoding (item ∷ items) true is h = let e : map encoding (item ∷ items) ≡ [] = h.0 refl in absurd cc
part_of_bytes section id encoding (item ∷ items) false is h = ap (λ l. (id, l) ∷ []) (list_seen encoding (item ∷ items)) ∙ sym (ap (λ f. f ∷ []) (is (item ∷ items)))

-- after what stands there
pub added_items : {A : Type 0} (section : List A → Section) (items kept : List A) (is_empty : Bool) (old new : List (ℕ × List ℕ)) → kept ≡ items → (IsTrue is_empty ↔ (kept ≡ []))
    → new ≡ old ++ (if is_empty then [] else frame (section kept) ∷ []) → new ≡ old ++ map frame (unless_empty section items)
added_items section items kept is_empty old new is tells added =
    added ∙ ap (λ l. old ++ l) (part_of section kept is_empty tells) ∙ ap (λ l. old ++ map frame (unless_empty section l)) is

pub added_bytes : {A : Type 0} (section : List A → Section) (id : ℕ) (encoding : A → List ℕ) (items : List A) (kept : List (List ℕ)) (is_empty : Bool) (old new : List (ℕ × List ℕ))
    → ((xs : List A) → frame (section xs) ≡ (id, list_encoding encoding xs)) → kept ≡ map encoding items → (IsTrue is_empty ↔ (kept ≡ []))
    → new ≡ old ++ (if is_empty then [] else (id, list_encoding (λ item. item) kept) ∷ []) → new ≡ old ++ map frame (unless_empty section items)
added_bytes section id encoding items kept is_empty old new frames is tells added =
    added ∙ ap (λ l. old ++ (if is_empty then [] else (id, list_encoding (λ item. item) l) ∷ [])) is
    ∙ ap (λ l. old ++ l) (part_of_bytes section id encoding items is_empty frames (subst (λ l. IsTrue is_empty ↔ (l ≡ [])) is tells))

-- ---- several

pub two_added : (old first second : List (ℕ × List ℕ)) (a b : List Section) → first ≡ old ++ map frame a → second ≡ first ++ map frame b → second ≡ old ++ map frame (a ++ b)
two_added old first second a b p q =
    q ∙ ap (λ l. l ++ map frame b) p ∙ append_assoc old (map frame a) (map frame b) ∙ ap (λ l. old ++ l) (sym (map-append frame a b))

pub three_added : (s0 s1 s2 s3 : List (ℕ × List ℕ)) (a b d : List Section) → s1 ≡ s0 ++ map frame a → s2 ≡ s1 ++ map frame b → s3 ≡ s2 ++ map frame d
    → s3 ≡ s0 ++ map frame (a ++ (b ++ d))
three_added s0 s1 s2 s3 a b d p q r = two_added s0 s1 s3 a (b ++ d) p (two_added s1 s2 s3 b d q r)

pub four_added : (s0 s1 s2 s3 s4 : List (ℕ × List ℕ)) (a b d e : List Section) → s1 ≡ s0 ++ map frame a → s2 ≡ s1 ++ map frame b → s3 ≡ s2 ++ map frame d → s4 ≡ s3 ++ map frame e
    → s4 ≡ s0 ++ map frame (a ++ (b ++ (d ++ e)))
four_added s0 s1 s2 s3 s4 a b d e p q r t = two_added s0 s1 s4 a (b ++ (d ++ e)) p (three_added s1 s2 s3 s4 b d e q r t)

pub five_added : (s0 s1 s2 s3 s4 s5 : List (ℕ × List ℕ)) (a b d e f : List Section) → s1 ≡ s0 ++ map frame a → s2 ≡ s1 ++ map frame b → s3 ≡ s2 ++ map frame d → s4 ≡ s3 ++ map frame e
    → s5 ≡ s4 ++ map frame f → s5 ≡ s0 ++ map frame (a ++ (b ++ (d ++ (e ++ f))))
five_added s0 s1 s2 s3 s4 s5 a b d e f p q r s t = two_added s0 s1 s5 a (b ++ (d ++ (e ++ f))) p (two_added s1 s2 s5 b (d ++ (e ++ f)) q (three_added s2 s3 s4 s5 d e f r s t))

-- ---- the kinds

abbrev pub types_of : Made → List Section
types_of m = unless_empty (λ xs. TypeSection xs) m.groups

abbrev pub imports_of : Made → List Section
imports_of m = unless_empty (λ xs. ImportSection xs) m.imports

abbrev pub functions_of : Made → List Section
functions_of m = unless_empty (λ xs. FunctionSection xs) m.funcs

abbrev pub tables_of : Made → List Section
tables_of m = unless_empty (λ xs. TableSection xs) m.tables

abbrev pub memories_of : Made → List Section
memories_of m = unless_empty (λ xs. MemorySection xs) m.memories

abbrev pub tags_of : Made → List Section
tags_of m = unless_empty (λ xs. TagSection xs) m.tags

abbrev pub globals_of : Made → List Section
globals_of m = unless_empty (λ xs. GlobalSection xs) m.globals

abbrev pub exports_of : Made → List Section
exports_of m = unless_empty (λ xs. ExportSection xs) m.exports

abbrev pub start_of : Made → List Section
start_of m = map (λ function. StartSection function) (option_to_list m.start)

abbrev pub elements_of : Made → List Section
elements_of m = unless_empty (λ xs. ElementSection xs) m.elems

abbrev pub count_of : Bool → Made → List Section
count_of counted m = unless_empty (λ segments. DataCountSection (length segments)) (if counted then m.data_segments else [])

abbrev pub code_of : List (List ℕ) → List Section
code_of bodies = unless_empty (λ xs. CodeSection xs) bodies

abbrev pub data_of : Made → List Section
data_of m = unless_empty (λ xs. DataSection xs) m.data_segments

five : (a b d e f rest : List Section) → (a ++ (b ++ (d ++ (e ++ f)))) ++ rest ≡ a ++ (b ++ (d ++ (e ++ (f ++ rest))))
five a b d e f rest =
    append_assoc a (b ++ (d ++ (e ++ f))) rest
    ∙ ap (λ l. a ++ l) (append_assoc b (d ++ (e ++ f)) rest ∙ ap (λ l. b ++ l) (append_assoc d (e ++ f) rest ∙ ap (λ l. d ++ l) (append_assoc e f rest)))

-- a kind behind custom sections, and what follows
abbrev before_rest : ℕ → Made → List Section → List Section → List Section
before_rest place m kind rest = customs_before place m.customs ++ (kind ++ rest)

one_placed : (place : ℕ) (m : Made) (kind rest : List Section) → placed place m kind ++ rest ≡ before_rest place m kind rest
one_placed place m kind rest = append_assoc (customs_before place m.customs) kind rest

five_placed : (p0 p1 p2 p3 p4 : ℕ) (m : Made) (a b d e f rest : List Section)
    → (placed p0 m a ++ (placed p1 m b ++ (placed p2 m d ++ (placed p3 m e ++ placed p4 m f)))) ++ rest ≡ before_rest p0 m a (before_rest p1 m b (before_rest p2 m d (before_rest p3 m e (before_rest p4 m f rest))))
five_placed p0 p1 p2 p3 p4 m a b d e f rest =
    five (placed p0 m a) (placed p1 m b) (placed p2 m d) (placed p3 m e) (placed p4 m f) rest
    ∙ one_placed p0 m a (placed p1 m b ++ (placed p2 m d ++ (placed p3 m e ++ (placed p4 m f ++ rest))))
    ∙ ap (before_rest p0 m a) (one_placed p1 m b (placed p2 m d ++ (placed p3 m e ++ (placed p4 m f ++ rest)))
    ∙ ap (before_rest p1 m b) (one_placed p2 m d (placed p3 m e ++ (placed p4 m f ++ rest))
    ∙ ap (before_rest p2 m d) (one_placed p3 m e (placed p4 m f ++ rest)
    ∙ ap (before_rest p3 m e) (one_placed p4 m f rest))))

three_placed : (p0 p1 p2 : ℕ) (m : Made) (a b d rest : List Section) → placed p0 m a ++ (placed p1 m b ++ (placed p2 m d ++ rest)) ≡ before_rest p0 m a (before_rest p1 m b (before_rest p2 m d rest))
three_placed p0 p1 p2 m a b d rest =
    one_placed p0 m a (placed p1 m b ++ (placed p2 m d ++ rest))
    ∙ ap (before_rest p0 m a) (one_placed p1 m b (placed p2 m d ++ rest) ∙ ap (before_rest p1 m b) (one_placed p2 m d rest))

-- all sections, in three parts
pub in_parts : (counted : Bool) (bodies : List (List ℕ)) (m : Made) → first_sections m ++ (middle_sections m ++ last_sections counted bodies m) ≡ sections_with counted bodies m
in_parts counted bodies m =
    let last = last_sections counted bodies m in
    five_placed 0 1 2 3 4 m (types_of m) (imports_of m) (functions_of m) (tables_of m) (memories_of m) (middle_sections m ++ last)
    ∙ ap (λ l. before_rest 0 m (types_of m) (before_rest 1 m (imports_of m) (before_rest 2 m (functions_of m) (before_rest 3 m (tables_of m) (before_rest 4 m (memories_of m) l)))))
    (five_placed 5 6 7 8 9 m (tags_of m) (globals_of m) (exports_of m) (start_of m) (elements_of m) last
    ∙ ap (λ l. before_rest 5 m (tags_of m) (before_rest 6 m (globals_of m) (before_rest 7 m (exports_of m) (before_rest 8 m (start_of m) (before_rest 9 m (elements_of m) l)))))
    (three_placed 10 11 12 m (count_of counted m) (code_of bodies) (data_of m) (customs_before 13 m.customs)))

pub all_added : (counted : Bool) (bodies : List (List ℕ)) (m : Made) (s0 s1 s2 s3 : List (ℕ × List ℕ)) → s0 ≡ [] → s1 ≡ s0 ++ map frame (first_sections m) → s2 ≡ s1 ++ map frame (middle_sections m)
    → s3 ≡ s2 ++ map frame (last_sections counted bodies m) → s3 ≡ map frame (sections_with counted bodies m)
all_added counted bodies m s0 s1 s2 s3 none p q r =
    three_added [] s1 s2 s3 (first_sections m) (middle_sections m) (last_sections counted bodies m) (p ∙ ap (λ l. l ++ map frame (first_sections m)) none) q r ∙ ap (map frame) (in_parts counted bodies m)

-- ---- too many items

in_front : {A : Type 0} (P : A → Type 0) (xs ys : List A) → SomeByRecursion P xs → SomeByRecursion P (xs ++ ys)
in_front P [] ys some = absurd some
in_front P (x ∷ xs) ys (inl here) = inl here
in_front P (x ∷ xs) ys (inr some) = inr (in_front P xs ys some)

behind : {A : Type 0} (P : A → Type 0) (xs ys : List A) → SomeByRecursion P ys → SomeByRecursion P (xs ++ ys)
behind P [] ys some = some
behind P (x ∷ xs) ys some = inr (behind P xs ys some)

many_in : {A : Type 0} (section : List A → Section) (items : List A) → ((xs : List A) → stated_count (section xs) ≡ length xs) → 2 ^ 32 ≤ length items
    → SomeByRecursion HasManyItems (unless_empty section items)
many_in section [] is many = absurd (omega (arith, many))
many_in section (item ∷ items) is many = inl (subst (λ n. 2 ^ 32 ≤ n) (sym (is (item ∷ items))) many)

many_placed : {A : Type 0} (place : ℕ) (m : Made) (section : List A → Section) (items : List A) → ((xs : List A) → stated_count (section xs) ≡ length xs) → 2 ^ 32 ≤ length items
    → SomeByRecursion HasManyItems (placed place m (unless_empty section items))
many_placed place m section items is many = behind HasManyItems (customs_before place m.customs) (unless_empty section items) (many_in section items is many)

in_first : (counted : Bool) (m : Made) → SomeByRecursion HasManyItems (first_sections m) → PassesLength counted m
in_first counted m some =
    inl (subst (SomeByRecursion HasManyItems) (in_parts counted [] m) (in_front HasManyItems (first_sections m) (middle_sections m ++ last_sections counted [] m) some))

in_middle : (counted : Bool) (m : Made) → SomeByRecursion HasManyItems (middle_sections m) → PassesLength counted m
in_middle counted m some =
    inl (subst (SomeByRecursion HasManyItems) (in_parts counted [] m)
    (behind HasManyItems (first_sections m) (middle_sections m ++ last_sections counted [] m) (in_front HasManyItems (middle_sections m) (last_sections counted [] m) some)))

in_last : (counted : Bool) (m : Made) → SomeByRecursion HasManyItems (last_sections counted [] m) → PassesLength counted m
in_last counted m some =
    inl (subst (SomeByRecursion HasManyItems) (in_parts counted [] m)
    (behind HasManyItems (first_sections m) (middle_sections m ++ last_sections counted [] m) (behind HasManyItems (middle_sections m) (last_sections counted [] m) some)))

pub many_mapped : {A B : Type 0} (f : B → A) (xs : List B) → 2 ^ 32 ≤ length xs → 2 ^ 32 ≤ length (map f xs)
many_mapped f xs many = subst (λ n. 2 ^ 32 ≤ n) (sym (length-map xs f)) many

-- one of five
first_of : {A : Type 0} (P : A → Type 0) (a b d e f : List A) → SomeByRecursion P a → SomeByRecursion P (a ++ (b ++ (d ++ (e ++ f))))
first_of P a b d e f some = in_front P a (b ++ (d ++ (e ++ f))) some

second_of : {A : Type 0} (P : A → Type 0) (a b d e f : List A) → SomeByRecursion P b → SomeByRecursion P (a ++ (b ++ (d ++ (e ++ f))))
second_of P a b d e f some = behind P a (b ++ (d ++ (e ++ f))) (in_front P b (d ++ (e ++ f)) some)

third_of : {A : Type 0} (P : A → Type 0) (a b d e f : List A) → SomeByRecursion P d → SomeByRecursion P (a ++ (b ++ (d ++ (e ++ f))))
third_of P a b d e f some = behind P a (b ++ (d ++ (e ++ f))) (behind P b (d ++ (e ++ f)) (in_front P d (e ++ f) some))

fourth_of : {A : Type 0} (P : A → Type 0) (a b d e f : List A) → SomeByRecursion P e → SomeByRecursion P (a ++ (b ++ (d ++ (e ++ f))))
fourth_of P a b d e f some = behind P a (b ++ (d ++ (e ++ f))) (behind P b (d ++ (e ++ f)) (behind P d (e ++ f) (in_front P e f some)))

fifth_of : {A : Type 0} (P : A → Type 0) (a b d e f : List A) → SomeByRecursion P f → SomeByRecursion P (a ++ (b ++ (d ++ (e ++ f))))
fifth_of P a b d e f some = behind P a (b ++ (d ++ (e ++ f))) (behind P b (d ++ (e ++ f)) (behind P d (e ++ f) (behind P e f some)))

pub many_types : (counted : Bool) (m : Made) → 2 ^ 32 ≤ length m.groups → PassesLength counted m
many_types counted m many = in_first counted m (first_of HasManyItems (placed 0 m (types_of m)) (placed 1 m (imports_of m)) (placed 2 m (functions_of m)) (placed 3 m (tables_of m)) (placed 4 m (memories_of m)) (many_placed 0 m (λ xs. TypeSection xs) m.groups (λ xs. refl) many))

pub many_imports : (counted : Bool) (m : Made) → 2 ^ 32 ≤ length m.imports → PassesLength counted m
many_imports counted m many = in_first counted m (second_of HasManyItems (placed 0 m (types_of m)) (placed 1 m (imports_of m)) (placed 2 m (functions_of m)) (placed 3 m (tables_of m)) (placed 4 m (memories_of m)) (many_placed 1 m (λ xs. ImportSection xs) m.imports (λ xs. refl) many))

pub many_functions : (counted : Bool) (m : Made) → 2 ^ 32 ≤ length m.funcs → PassesLength counted m
many_functions counted m many = in_first counted m (third_of HasManyItems (placed 0 m (types_of m)) (placed 1 m (imports_of m)) (placed 2 m (functions_of m)) (placed 3 m (tables_of m)) (placed 4 m (memories_of m)) (many_placed 2 m (λ xs. FunctionSection xs) m.funcs (λ xs. refl) many))

pub many_tables : (counted : Bool) (m : Made) → 2 ^ 32 ≤ length m.tables → PassesLength counted m
many_tables counted m many = in_first counted m (fourth_of HasManyItems (placed 0 m (types_of m)) (placed 1 m (imports_of m)) (placed 2 m (functions_of m)) (placed 3 m (tables_of m)) (placed 4 m (memories_of m)) (many_placed 3 m (λ xs. TableSection xs) m.tables (λ xs. refl) many))

pub many_memories : (counted : Bool) (m : Made) → 2 ^ 32 ≤ length m.memories → PassesLength counted m
many_memories counted m many = in_first counted m (fifth_of HasManyItems (placed 0 m (types_of m)) (placed 1 m (imports_of m)) (placed 2 m (functions_of m)) (placed 3 m (tables_of m)) (placed 4 m (memories_of m)) (many_placed 4 m (λ xs. MemorySection xs) m.memories (λ xs. refl) many))

pub many_tags : (counted : Bool) (m : Made) → 2 ^ 32 ≤ length m.tags → PassesLength counted m
many_tags counted m many = in_middle counted m (first_of HasManyItems (placed 5 m (tags_of m)) (placed 6 m (globals_of m)) (placed 7 m (exports_of m)) (placed 8 m (start_of m)) (placed 9 m (elements_of m)) (many_placed 5 m (λ xs. TagSection xs) m.tags (λ xs. refl) many))

pub many_globals : (counted : Bool) (m : Made) → 2 ^ 32 ≤ length m.globals → PassesLength counted m
many_globals counted m many = in_middle counted m (second_of HasManyItems (placed 5 m (tags_of m)) (placed 6 m (globals_of m)) (placed 7 m (exports_of m)) (placed 8 m (start_of m)) (placed 9 m (elements_of m)) (many_placed 6 m (λ xs. GlobalSection xs) m.globals (λ xs. refl) many))

pub many_exports : (counted : Bool) (m : Made) → 2 ^ 32 ≤ length m.exports → PassesLength counted m
many_exports counted m many = in_middle counted m (third_of HasManyItems (placed 5 m (tags_of m)) (placed 6 m (globals_of m)) (placed 7 m (exports_of m)) (placed 8 m (start_of m)) (placed 9 m (elements_of m)) (many_placed 7 m (λ xs. ExportSection xs) m.exports (λ xs. refl) many))

pub many_elements : (counted : Bool) (m : Made) → 2 ^ 32 ≤ length m.elems → PassesLength counted m
many_elements counted m many = in_middle counted m (fifth_of HasManyItems (placed 5 m (tags_of m)) (placed 6 m (globals_of m)) (placed 7 m (exports_of m)) (placed 8 m (start_of m)) (placed 9 m (elements_of m)) (many_placed 9 m (λ xs. ElementSection xs) m.elems (λ xs. refl) many))

pub many_data : (counted : Bool) (m : Made) → 2 ^ 32 ≤ length m.data_segments → PassesLength counted m
many_data counted m many =
    in_last counted m
    (behind HasManyItems (placed 10 m (count_of counted m)) (placed 11 m (code_of []) ++ (placed 12 m (data_of m) ++ customs_before 13 m.customs))
    (behind HasManyItems (placed 11 m (code_of [])) (placed 12 m (data_of m) ++ customs_before 13 m.customs)
    (in_front HasManyItems (placed 12 m (data_of m)) (customs_before 13 m.customs) (many_placed 12 m (λ xs. DataSection xs) m.data_segments (λ xs. refl) many))))

pub long_code : {B : Type 0} (counted : Bool) (m : Made) (bodies : List B) (f : B → MadeBody) → m.bodies ≡ map f bodies
    → (2 ^ 32 ≤ length bodies) ⊎ SomeHaveLongFront (map f bodies) → PassesLength counted m
long_code counted m bodies f is (inl many) = inr (inl (subst (λ l. 2 ^ 32 ≤ length l) (sym is) (many_mapped f bodies many)))
long_code counted m bodies f is (inr some) = inr (inr (inl (subst SomeHaveLongFront (sym is) some)))

-- ---- custom sections

abbrev pub at_place : ℕ → List CustomSection → List (ℕ × List ℕ)
at_place place customs = map frame (customs_before place (map placed_custom customs))

next_custom : (customs : List CustomSection) (i : ℕ) (custom : CustomSection) → i < length customs → custom ≡ get_or customs i custom → drop i customs ≡ custom ∷ drop (i + 1) customs
next_custom customs i custom within is = drop_more customs i custom within ∙ ap (λ c. c ∷ drop (i + 1) customs) (sym is)

-- one that is of the place
pub taken : (place : ℕ) (customs : List CustomSection) (i : ℕ) (custom : CustomSection) (old new : List (ℕ × List ℕ)) (section : ℕ × List ℕ) → i < length customs → custom ≡ get_or customs i custom
    → nat_eq custom.place place ≡ true → section ≡ frame (section_of (placed_custom custom)) → new ≡ old ++ section ∷ []
    → new ++ at_place place (drop (i + 1) customs) ≡ old ++ at_place place (drop i customs)
taken place customs i custom old new section within is here same pushed =
    ap (λ l. l ++ at_place place (drop (i + 1) customs)) pushed ∙ append_assoc old (section ∷ []) (at_place place (drop (i + 1) customs))
    ∙ ap (λ l. old ++ l) (ap (λ s. s ∷ at_place place (drop (i + 1) customs)) same ∙ sym (ap (at_place place) (next_custom customs i custom within is) ∙ rw here refl))

-- one that isn't
pub left_out : (place : ℕ) (customs : List CustomSection) (i : ℕ) (custom : CustomSection) → i < length customs → custom ≡ get_or customs i custom → nat_eq custom.place place ≡ false
    → at_place place (drop (i + 1) customs) ≡ at_place place (drop i customs)
left_out place customs i custom within is other = sym (ap (at_place place) (next_custom customs i custom within is) ∙ rw other refl)

pub none_left : (place : ℕ) (customs : List CustomSection) (i : ℕ) → length customs ≤ i → at_place place (drop i customs) ≡ []
none_left place customs i past = ap (at_place place) (drop_all i customs past)
