-- Zeros read as memories of no pages, as many as there may be.
use Rattle.std.proofs.Common.{◌≡◌, ℕ, zero, suc, Bool, true, false, List, [], ◌∷◌, ◌++◌, length, map, drop, replicate, nat_eq, ◌||◌, Option, Some, None, refl, inl, inr, sym, subst, ap, ◌∙◌, arith, append-nil}
use Rattle.std.proofs.lemmas.List.{length-replicate}
use Rattle.std.specs.List.{AllByRecursion}
use Rattle.wasm_spec.specs.Bytes.{IsUnsigned, IsItems}
use Rattle.wasm_spec.specs.Features.{Features, MultiMemory, has}
use Rattle.wasm_spec.specs.Grammar.{IsContent, IsSection, header, section_id}
use Rattle.wasm_spec.specs.Limits.{Tags}
use Rattle.wasm_spec.specs.Syntax.{Section, Custom, TypeSection, ImportSection, FunctionSection, TableSection, MemorySection, TagSection, GlobalSection, ExportSection, StartSection, ElementSection, DataCountSection, CodeSection, DataSection}
use Rattle.wasm_spec.specs.TypeGrammar.{IsMemoryType}
use Rattle.wasm_spec.specs.Types.{MemoryType}
use Rattle.wasm_spec.proofs.WrongEncodings.{heads, tails, number_is}
use Rattle.wasm_spec_examples.specs.Examples.{at_least}
use Rattle.wasm_validity.specs.Context.{Context, after}
use Rattle.wasm_validity.specs.Entries.{Entry, OfCustom, OfType, OfImport, OfFunction, OfTable, OfMemory, OfTags, OfTag, OfGlobal, OfExport, OfStart, OfElement, OfDataCount, OfBody, OfData, IsItem, entries_of}
use Rattle.wasm_validity.specs.Fronts.{BeginsWith, BeginsWithItems, begun_by, complete, within}
use Rattle.wasm_validity.specs.Rules.{KeepRules, PassLimit}
use Rattle.wasm_validity_examples.proofs.FirstSections.{Splits, first_section, no_sections}

-- ---- zeros

abbrev AreZeros : List ℕ → Type 0
AreZeros bytes = AllByRecursion (λ b. b ≡ 0) bytes

zeros : (n : ℕ) → AreZeros (replicate n 0x00)
zeros zero = tt
zeros (suc n) = (refl, zeros n)

parts : (a b : List ℕ) → AreZeros (a ++ b) → AreZeros a × AreZeros b
parts [] b z = (tt, z)
parts (x ∷ a) b z = let p = parts a b z.1 in ((z.0, p.0), p.1)

-- a number of zeros is one of them
number : (bits : ℕ) (bytes : List ℕ) (n : ℕ) → IsUnsigned bits bytes n → AreZeros bytes → n ≡ 0
number bits [] n h z = absurd h
number bits (b ∷ []) n h z = h.2 ∙ z.0
number bits (b ∷ d ∷ bs) n h z = absurd (omega (arith, h.0, z.0))

-- limits in zeros have a minimum of nothing, and no other part
memory_of : (maximum : Option ℕ) (shared is_64 : Bool) (page : Option ℕ) (minimum : ℕ) (bytes : List ℕ)
    → IsMemoryType bytes (record { minimum = minimum; maximum = maximum; shared = shared; is_64 = is_64; page_size_log2 = page }) → AreZeros bytes
    → record { minimum = minimum; maximum = maximum; shared = shared; is_64 = is_64; page_size_log2 = page } ≡ at_least 0
memory_of (Some m) shared is_64 page minimum bytes h z = let p = subst AreZeros h.1 z in absurd (omega (arith, p.0))
memory_of None true is_64 page minimum bytes h z = let p = subst AreZeros h.1 z in absurd (omega (arith, p.0))
memory_of None false true page minimum bytes h z = let p = subst AreZeros h.1 z in absurd (omega (arith, p.0))
memory_of None false false (Some size) minimum bytes h z = let p = subst AreZeros h.1 z in absurd (omega (arith, p.0))
memory_of None false false None minimum bytes h z =
    let p = subst AreZeros h.1 z in
    let pair = h.2 in
    ap (λ n. at_least n) (number 64 pair.0 minimum pair.3 (parts pair.0 pair.1 (subst AreZeros pair.2 p.1)).0)

memory : (type : MemoryType) (bytes : List ℕ) → IsMemoryType bytes type → AreZeros bytes → type ≡ at_least 0
memory type bytes h z = memory_of type.maximum type.shared type.is_64 type.page_size_log2 type.minimum bytes h z

-- ---- entries

abbrev pub AreMemories : List Entry → Type 0
AreMemories entries = AllByRecursion (λ entry. entry ≡ OfMemory (at_least 0)) entries

all_types : (bytes : List ℕ) (types : List MemoryType) → IsItems IsMemoryType bytes types → AreZeros bytes → AreMemories (map (λ x. OfMemory x) types ++ [])
all_types bytes [] h z = tt
all_types bytes (type ∷ types) h z =
    let p = parts h.0 h.1 (subst AreZeros h.2 z) in
    (ap (λ x. OfMemory x) (memory type h.0 h.3 p.0), all_types h.1 types h.4 p.1)

one_item : (compact : Bool) (bytes : List ℕ) (entry : Entry) → IsItem compact 5 bytes entry → AreZeros bytes → entry ≡ OfMemory (at_least 0)
one_item compact bytes (OfMemory type) h z = ap (λ x. OfMemory x) (memory type bytes h.1 z)
one_item compact bytes (OfType group) h z = let e = h.0 in absurd cc
one_item compact bytes (OfImport entry) h z = let e = h.0 in absurd cc
one_item compact bytes (OfFunction index) h z = let e = h.0 in absurd cc
one_item compact bytes (OfTable table) h z = let e = h.0 in absurd cc
one_item compact bytes (OfTag index) h z = let e = h.0 in absurd cc
one_item compact bytes (OfGlobal global) h z = let e = h.0 in absurd cc
one_item compact bytes (OfExport export) h z = let e = h.0 in absurd cc
one_item compact bytes (OfElement segment) h z = let e = h.0 in absurd cc
one_item compact bytes (OfBody body) h z = let e = h.0 in absurd cc
one_item compact bytes (OfData segment) h z = let e = h.0 in absurd cc
one_item compact bytes (OfCustom name) h z = absurd h
one_item compact bytes OfTags h z = absurd h
one_item compact bytes (OfStart function) h z = absurd h
one_item compact bytes (OfDataCount count) h z = absurd h

all_items : (compact : Bool) (bytes : List ℕ) (items : List Entry) → IsItems (IsItem compact 5) bytes items → AreZeros bytes → AreMemories items
all_items compact bytes [] h z = tt
all_items compact bytes (item ∷ items) h z =
    let p = parts h.0 h.1 (subst AreZeros h.2 z) in
    (one_item compact h.0 item h.3 p.0, all_items compact h.1 items h.4 p.1)

-- ---- sections

section_of : (compact : Bool) (section : Section) (bytes : List ℕ) → section_id section ≡ 5 → IsContent compact (0x65 ∷ bytes) section → AreZeros bytes → AreMemories (entries_of (section ∷ []))
section_of compact (MemorySection types) bytes id h z =
    let n = number_is h.0 h.1 bytes 101 _ h.3 (omega arith) h.2 in
    all_types h.1 types h.4 (subst AreZeros (sym n.1) z)
section_of compact (Custom name contents) bytes id h z = absurd cc
section_of compact (TypeSection groups) bytes id h z = absurd cc
section_of compact (ImportSection imports) bytes id h z = absurd cc
section_of compact (FunctionSection indexes) bytes id h z = absurd cc
section_of compact (TableSection tables) bytes id h z = absurd cc
section_of compact (TagSection indexes) bytes id h z = absurd cc
section_of compact (GlobalSection globals) bytes id h z = absurd cc
section_of compact (ExportSection exports) bytes id h z = absurd cc
section_of compact (StartSection function) bytes id h z = absurd cc
section_of compact (ElementSection segments) bytes id h z = absurd cc
section_of compact (DataCountSection count) bytes id h z = absurd cc
section_of compact (CodeSection bodies) bytes id h z = absurd cc
section_of compact (DataSection segments) bytes id h z = absurd cc

two_bytes : (rest : List ℕ) → Splits (0xcb ∷ 0x01 ∷ rest) 203 rest
two_bytes rest [] others m h e = absurd h
two_bytes rest (a ∷ []) others m h e = absurd (omega (arith, h.0, heads 0xcb a (0x01 ∷ rest) others e))
two_bytes rest (a ∷ b ∷ []) others m h e =
    let e' = tails 0xcb a (0x01 ∷ rest) (b ∷ others) e in
    (omega (arith, heads 0xcb a (0x01 ∷ rest) (b ∷ others) e, heads 0x01 b rest others e', h.4, h.5.2), sym (tails 0x01 b rest others e'))
two_bytes rest (a ∷ b ∷ d ∷ ds) others m h e =
    let e' = tails 0xcb a (0x01 ∷ rest) (b ∷ d ∷ (ds ++ others)) e in
    absurd (omega (arith, h.5.0, heads 0x01 b rest (d ∷ (ds ++ others)) e'))

none_left : (a b : List ℕ) → a ++ b ≡ [] → (a ≡ []) × (b ≡ [])
none_left [] b e = (refl, e)
none_left (x ∷ a) b e = absurd cc

-- what the first section of these bytes is, and that it is the last one
record Alone (rest : List ℕ) (section : Section) (sections : List Section) : Type 0 where
  says : AreMemories (entries_of (section ∷ []))
  last : sections ≡ []
  left : rest ≡ []

alone : (compact : Bool) (bytes front rest : List ℕ) (section : Section) (sections : List Section) → AreZeros bytes → length bytes ≡ 202
    → 0x05 ∷ 0xcb ∷ 0x01 ∷ 0x65 ∷ bytes ≡ front ++ rest → IsItems (IsSection compact) front (section ∷ sections) → Alone rest section sections
alone compact bytes front rest section sections z many e h =
    let content : List ℕ = 0x65 ∷ bytes in
    let splits = subst (λ l. Splits (0xcb ∷ 0x01 ∷ content) 203 l) (sym (append-nil content)) (two_bytes content) in
    let b = first_section compact 5 203 (0xcb ∷ 0x01 ∷ content) content [] front rest section sections splits (omega (arith, many)) e h in
    let none = none_left b.rest rest b.left in
    record {
      says = section_of compact section bytes b.has_id b.is z;
      last = no_sections compact sections (subst (λ l. IsItems (IsSection compact) l sections) none.0 b.holds);
      left = none.1;
    }

of_sections : (compact : Bool) (bytes front rest : List ℕ) (sections : List Section) → AreZeros bytes → length bytes ≡ 202
    → 0x05 ∷ 0xcb ∷ 0x01 ∷ 0x65 ∷ bytes ≡ front ++ rest → IsItems (IsSection compact) front sections → AreMemories (entries_of sections)
of_sections compact bytes front rest [] z many e h = tt
of_sections compact bytes front rest (section ∷ sections) z many e h =
    let a = alone compact bytes front rest section sections z many e h in
    subst (λ l. AreMemories (entries_of (section ∷ l))) (sym a.last) a.says

-- ---- fronts

-- the items of a section that begins these bytes
of_items : (compact : Bool) (id : ℕ) (bytes whole : List ℕ) (items : List Entry) → AreZeros bytes → 0x05 ∷ 0xcb ∷ 0x01 ∷ 0x65 ∷ bytes ≡ whole → BeginsWithItems compact id whole items → AreMemories (begun_by id ++ items)
of_items compact id bytes whole items z e b =
    let parted : List ℕ = b.size_encoding ++ (b.count_encoding ++ (b.encoding ++ b.rest)) in
    let same : 0x05 ∷ 0xcb ∷ 0x01 ∷ 0x65 ∷ bytes ≡ id ∷ parted = e ∙ b.begins in
    let id_is = heads 0x05 id (0xcb ∷ 0x01 ∷ 0x65 ∷ bytes) parted same in
    let sized = two_bytes (0x65 ∷ bytes) b.size_encoding (b.count_encoding ++ (b.encoding ++ b.rest)) b.size b.sized (tails 0x05 id (0xcb ∷ 0x01 ∷ 0x65 ∷ bytes) parted same) in
    let counted = number_is b.count_encoding (b.encoding ++ b.rest) bytes 101 b.stated b.counted (omega arith) (sym sized.1) in
    let zero_items = (parts b.encoding b.rest (subst AreZeros (sym counted.1) z)).0 in
    subst (λ n. AreMemories (begun_by n ++ items)) id_is (all_items compact b.encoding items (subst (λ n. IsItems (IsItem compact n) b.encoding items) (sym id_is) b.holds) zero_items)

of_front : (compact : Bool) (id : ℕ) (bytes front rest : List ℕ) (sections : List Section) (items : List Entry) → AreZeros bytes → length bytes ≡ 202
    → 0x05 ∷ 0xcb ∷ 0x01 ∷ 0x65 ∷ bytes ≡ front ++ rest → IsItems (IsSection compact) front sections → BeginsWithItems compact id rest items → AreMemories (entries_of sections ++ (begun_by id ++ items))
of_front compact id bytes front rest [] items z many e h b = of_items compact id bytes rest items z (e ∙ ap (λ (l : List ℕ). l ++ rest) h) b
of_front compact id bytes front rest (section ∷ sections) items z many e h b =
    let a = alone compact bytes front rest section sections z many e h in
    let none : [] ≡ id ∷ (b.size_encoding ++ (b.count_encoding ++ (b.encoding ++ b.rest))) = sym a.left ∙ b.begins in
    absurd cc

without_header : (a b : List ℕ) → header ++ a ≡ header ++ b → a ≡ b
without_header a b e = ap (λ (l : List ℕ). drop 8 l) e

-- whatever the front of these bytes says, it is memories
pub front_is : (compact : Bool) (bytes : List ℕ) (entries : List Entry) → AreZeros bytes → length bytes ≡ 202 → BeginsWith compact (header ++ (0x05 ∷ 0xcb ∷ 0x01 ∷ 0x65 ∷ bytes)) entries → AreMemories entries
front_is compact bytes entries z many (complete h) =
    subst AreMemories (sym h.say) (of_sections compact bytes h.front h.rest h.sections z many (without_header _ _ h.begins) h.holds)
front_is compact bytes entries z many (within h) =
    let full = h.complete in
    let all = of_front compact (section_id h.like) bytes full.front full.rest full.sections h.items z many (without_header _ _ full.begins) full.holds h.begun in
    subst AreMemories (sym (h.say ∙ ap (λ (l : List Entry). l ++ (begun_by (section_id h.like) ++ h.items)) full.say)) all

pub zeros_front : (compact : Bool) (entries : List Entry) → BeginsWith compact (header ++ (0x05 ∷ 0xcb ∷ 0x01 ∷ 0x65 ∷ replicate 202 0x00)) entries → AreMemories entries
zeros_front compact entries h = front_is compact (replicate 202 0x00) entries (zeros 202) (length-replicate {A = ℕ} 202 0x00) h

-- ---- what memories keep and pass

or_true : (b : Bool) → (b || true) ≡ true
or_true true = refl
or_true false = refl

pub keep_rules : (features : Features) (cx : Context) (entries : List Entry) → has features MultiMemory ≡ true → AreMemories entries → KeepRules features cx entries
keep_rules features cx [] several all = tt
keep_rules features cx (entry ∷ entries) several all =
    subst (λ x. KeepRules features cx (x ∷ entries)) (sym all.0)
    (ap (λ b. nat_eq (length cx.memories) 0 || b) several ∙ or_true (nat_eq (length cx.memories) 0), keep_rules features (after cx (OfMemory (at_least 0))) entries several all.1)

pub pass_no_tags : (cx : Context) (entries : List Entry) → AreMemories entries → PassLimit Tags cx entries → ⊥
pass_no_tags cx [] all p = absurd p
pass_no_tags cx (entry ∷ entries) all p =
    first (subst (λ x. PassLimit Tags cx (x ∷ entries)) all.0 p) (pass_no_tags (after cx (OfMemory (at_least 0))) entries all.1)
  where
    first : PassLimit Tags cx (OfMemory (at_least 0) ∷ entries) → (PassLimit Tags (after cx (OfMemory (at_least 0))) entries → ⊥) → ⊥
    first (inl (inl q)) others = let e = q.0 in absurd cc
    first (inl (inr q)) others = absurd q
    first (inr (inl q)) others = absurd q
    first (inr (inr q)) others = others q
