-- What stands at the front of a module's bytes is the first part of what its sections say.
use Rattle.std.proofs.Common.{◌≡◌, ◌≤◌, ℕ, Bool, List, [], ◌∷◌, ◌++◌, length, refl, sym, ap, subst, ◌∙◌, append_assoc, length-append, arith}
use Rattle.std.specs.List.{AllByRecursion}
use Rattle.std.proofs.lemmas.Grind.{flat_map-append}
use Rattle.std.proofs.lemmas.List.{append-nil}
use Rattle.wasm_spec.specs.Bytes.{IsU32, IsItems}
use Rattle.wasm_spec.specs.Grammar.{header, section_id, IsSection, IsModule}
use Rattle.wasm_spec.specs.Syntax.{Section, functions_of, bodies_of, data_of, data_counts_of}
use Rattle.wasm_core_read.specs.Laws.{IsPrefixFree}
use Rattle.wasm_core_read.specs.ModuleReading.{section_at}
use Rattle.wasm_core_read.specs.Reading.{unsigned_at}
use Rattle.wasm_core_read.proofs.Forms.{prefix_free, reads_unsigned}
use Rattle.wasm_core_read.proofs.ModuleForms.{reads_section}
use Rattle.wasm_validity.specs.Entries.{Entry, entries_in, entries_of, IsItem}
use Rattle.wasm_validity.specs.Fronts.{BeginsWithItems, HasSections, BeginsWith, complete, within, begun_by}
use Rattle.wasmparser_payloads.specs.PieceEntries.{HasAllSections}
use Rattle.wasmparser_payloads.proofs.ItemLaws.{one_item, IsContentFor, listed, bare, content_for}

-- ---- fronts of lists

cons_heads : {A : Type 0} (x y : A) (xs ys : List A) → x ∷ xs ≡ y ∷ ys → x ≡ y
cons_heads x y xs ys e = cc

cons_tails : {A : Type 0} (x y : A) (xs ys : List A) → x ∷ xs ≡ y ∷ ys → xs ≡ ys
cons_tails x y xs ys e = cc

cancel : {A : Type 0} (a b c : List A) → a ++ b ≡ a ++ c → b ≡ c
cancel [] b c e = e
cancel (x ∷ a) b c e = cancel a b c (cons_tails x x (a ++ b) (a ++ c) e)

-- of two fronts of a list the shorter one is a front of the longer
shorter : {A : Type 0} (a b p q : List A) → a ++ b ≡ p ++ q → length p ≤ length a → (z : List A) × (a ≡ p ++ z)
shorter a b [] q e le = (a, refl)
shorter [] b (x ∷ p) q e le = absurd (omega (arith, le))
shorter (y ∷ a) b (x ∷ p) q e le =
    let r = shorter a b p q (cons_tails y x (a ++ b) (p ++ q) e) (omega (arith, le)) in
    (r.0, ap (λ l. y ∷ l) r.1 ∙ ap (λ h. h ∷ (p ++ r.0)) (cons_heads y x (a ++ b) (p ++ q) e))

-- the same bytes as two first parts and what follows each
split : (front first others rest all a b : List ℕ) → front ≡ first ++ others → all ≡ front ++ rest → all ≡ a ++ b → first ++ (others ++ rest) ≡ a ++ b
split front first others rest all a b h e k = sym (append_assoc first others rest) ∙ ap (λ (l : List ℕ). l ++ rest) (sym h) ∙ sym e ∙ k

after_first : (a b c d : List ℕ) → a ++ b ≡ c ++ d → a ≡ c → d ≡ b
after_first a b c d e same = cancel c d b (sym e ∙ ap (λ (l : List ℕ). l ++ b) same)

one_more : {A : Type 0} (x y : A) (few many others : List A) → x ≡ y → many ≡ few ++ others → y ∷ many ≡ x ∷ (few ++ others)
one_more x y few many others e h = ap (λ l. y ∷ l) h ∙ ap (λ v. v ∷ (few ++ others)) (sym e)

-- items at the front of items are the first of them
items_first : {A : Type 0} (IsA : List ℕ → A → Type 0) → IsPrefixFree IsA → (front rest all : List ℕ) (few many : List A) → length few ≤ length many → IsItems IsA front few → IsItems IsA all many → all ≡ front ++ rest
    → (others : List A) × (many ≡ few ++ others)
items_first IsA free front rest all [] many le h k e = (many, refl)
items_first IsA free front rest all (x ∷ few) [] le h k e = absurd (omega (arith, le))
items_first IsA free front rest all (x ∷ few) (y ∷ many) le h k e =
    let both = split front h.0 h.1 rest all k.0 k.1 h.2 e k.2 in
    let f = free h.0 k.0 (h.1 ++ rest) k.1 x y h.3 k.3 both in
    let left = after_first h.0 (h.1 ++ rest) k.0 k.1 both f.0 in
    let r = items_first IsA free h.1 rest k.1 few many (omega (arith, le)) h.4 k.4 left in
    (r.0, one_more x y few many r.0 f.1 r.1)

-- ---- sections

one_section : (compact : Bool) → IsPrefixFree (IsSection compact)
one_section compact = prefix_free (IsSection compact) (section_at compact) (reads_section compact)

one_number : IsPrefixFree IsU32
one_number = prefix_free IsU32 (unsigned_at 32) (reads_unsigned 32)

abbrev Follow : Bool → List Section → List ℕ → List Section → Type 0
Follow compact few rest sections = (others : List Section) × (sections ≡ few ++ others) × IsItems (IsSection compact) rest others

-- sections at the front of a module are its first ones
sections_first : (compact : Bool) (front rest all : List ℕ) (few many : List Section) → IsItems (IsSection compact) front few → IsItems (IsSection compact) all many → all ≡ front ++ rest → Follow compact few rest many
sections_first compact front rest all [] many h k e = (many, refl, subst (λ (l : List ℕ). IsItems (IsSection compact) l many) (e ∙ ap (λ (l : List ℕ). l ++ rest) h) k)
sections_first compact front rest all (x ∷ few) [] h k e =
    let some : [] ≡ section_id x ∷ (h.3.0 ++ (h.1 ++ rest)) =
    sym k ∙ e ∙ ap (λ (l : List ℕ). l ++ rest) h.2 ∙ append_assoc h.0 h.1 rest ∙ ap (λ (l : List ℕ). l ++ (h.1 ++ rest)) h.3.1 in
    absurd cc
sections_first compact front rest all (x ∷ few) (y ∷ many) h k e =
    let both = split front h.0 h.1 rest all k.0 k.1 h.2 e k.2 in
    let f = one_section compact h.0 k.0 (h.1 ++ rest) k.1 x y h.3 k.3 both in
    let left = after_first h.0 (h.1 ++ rest) k.0 k.1 both f.0 in
    let r = sections_first compact h.1 rest k.1 few many h.4 k.4 left in
    (r.0, one_more x y few many r.0 f.1 r.1, r.2)

-- ---- items at the front of a section

abbrev Goes : List Entry → List Entry → Type 0
Goes all front = (others : List Entry) × (all ≡ front ++ others)

in_content : (compact : Bool) (id : ℕ) (content count encoding z : List ℕ) (stated : ℕ) (items entries : List Entry) → content ≡ count ++ (encoding ++ z) → IsU32 count stated → length items ≤ stated
    → IsItems (IsItem compact id) encoding items → IsContentFor compact id content entries → Goes entries (begun_by id ++ items)
in_content compact id content count encoding z stated items entries parts counted among holds (listed l) =
    let both : count ++ (encoding ++ z) ≡ l.count_encoding ++ l.encoding = sym parts ∙ l.parts in
    let n = one_number count l.count_encoding (encoding ++ z) l.encoding stated (length l.items) counted l.counted both in
    let left : l.encoding ≡ encoding ++ z = cancel l.count_encoding l.encoding (encoding ++ z) (sym both ∙ ap (λ (a : List ℕ). a ++ (encoding ++ z)) n.0) in
    let r = items_first (IsItem compact id) (one_item compact id) encoding z l.encoding items l.items (omega (arith, among, n.1)) holds l.holds left in
    (r.0, l.say ∙ ap (λ (es : List Entry). begun_by id ++ es) r.1 ∙ sym (append_assoc (begun_by id) items r.0))
in_content compact id content count encoding z stated [] entries parts counted among holds (bare none other) =
    (entries, sym (ap (λ (l : List Entry). (l ++ []) ++ entries) none))
in_content compact id content count encoding z stated (e ∷ items) entries parts counted among holds (bare none other) = absurd (other holds.0 e holds.3)

in_section : (compact : Bool) (id : ℕ) (bytes others encoding : List ℕ) (section : Section) (items : List Entry) → BeginsWithItems compact id bytes items → bytes ≡ encoding ++ others → IsSection compact encoding section
    → Goes (entries_in section) (begun_by id ++ items)
in_section compact id bytes others encoding section items b e s =
    let framed = s.2 in
    let content : List ℕ = framed.1 in
    let shown : bytes ≡ section_id section ∷ (framed.0 ++ (framed.1 ++ others)) =
    e ∙ ap (λ (l : List ℕ). l ++ others) (s.1 ∙ ap (λ (l : List ℕ). section_id section ∷ l) framed.2) ∙ ap (λ (l : List ℕ). section_id section ∷ l) (append_assoc framed.0 framed.1 others) in
    let after : List ℕ = b.count_encoding ++ (b.encoding ++ b.rest) in
    let both : section_id section ∷ (framed.0 ++ (framed.1 ++ others)) ≡ id ∷ (b.size_encoding ++ after) = sym shown ∙ b.begins in
    let same-id : section_id section ≡ id = cons_heads _ _ _ _ both in
    let tails : framed.0 ++ (framed.1 ++ others) ≡ b.size_encoding ++ after = cons_tails _ _ _ _ both in
    let n = one_number framed.0 b.size_encoding (framed.1 ++ others) after (length framed.1) b.size framed.3 b.sized tails in
    let left : framed.1 ++ others ≡ after = cancel b.size_encoding (framed.1 ++ others) after (ap (λ (l : List ℕ). l ++ (framed.1 ++ others)) (sym n.0) ∙ tails) in
    let split : framed.1 ++ others ≡ (b.count_encoding ++ b.encoding) ++ b.rest = left ∙ sym (append_assoc b.count_encoding b.encoding b.rest) in
    let z = shorter framed.1 others (b.count_encoding ++ b.encoding) b.rest split (omega (arith, b.inside, n.1, length-append b.count_encoding b.encoding)) in
    let parts : framed.1 ≡ b.count_encoding ++ (b.encoding ++ z.0) = z.1 ∙ append_assoc b.count_encoding b.encoding z.0 in
    let for : IsContentFor compact id framed.1 (entries_in section) = subst (λ (i : ℕ). IsContentFor compact i framed.1 (entries_in section)) same-id (content_for compact framed.1 section framed.4) in
    in_content compact id framed.1 b.count_encoding b.encoding z.0 b.stated items (entries_in section) parts b.counted b.among b.holds for

items_in : (compact : Bool) (id : ℕ) (bytes : List ℕ) (sections : List Section) (items : List Entry) → BeginsWithItems compact id bytes items → IsItems (IsSection compact) bytes sections
    → Goes (entries_of sections) (begun_by id ++ items)
items_in compact id bytes [] items b h = let w = sym h ∙ b.begins in absurd cc
items_in compact id bytes (section ∷ sections) items b h =
    let r = in_section compact id bytes h.1 h.0 section items b h.2 h.3 in
    (r.0 ++ entries_of sections, ap (λ (l : List Entry). l ++ entries_of sections) r.1 ∙ append_assoc (begun_by id ++ items) r.0 (entries_of sections))

-- ---- all sections of some bytes

pub all_alike : (compact : Bool) (bytes : List ℕ) (a b : List Section) → HasAllSections compact bytes a → HasAllSections compact bytes b → a ≡ b
all_alike compact bytes a b h k = by_others f.0 f.1 f.2
  where
    same : k.body ≡ h.body ++ []
    same = cancel header k.body (h.body ++ []) (sym k.begins ∙ h.begins ∙ ap (λ (l : List ℕ). header ++ l) (sym (append-nil h.body)))

    f : Follow compact a [] b
    f = sections_first compact h.body [] k.body a b h.holds k.holds same

    by_others : (others : List Section) → b ≡ a ++ others → IsItems (IsSection compact) [] others → a ≡ b
    by_others [] e i = sym (e ∙ append-nil a)
    by_others (x ∷ others) e i = let w : [] ≡ section_id x ∷ (i.3.0 ++ i.1) = i.2 ∙ ap (λ (l : List ℕ). l ++ i.1) i.3.1 in absurd cc

pub module_is_whole : (compact : Bool) (bytes : List ℕ) (sections : List Section) → IsModule compact bytes sections → HasAllSections compact bytes sections
module_is_whole compact bytes sections m = record { body = m.body; begins = m.begins; holds = m.holds; ordered = m.ordered }

pub whole_is_module : (compact : Bool) (bytes : List ℕ) (sections : List Section) → HasAllSections compact bytes sections
    → length (functions_of sections) ≡ length (bodies_of sections) → AllByRecursion (λ count. count ≡ length (data_of sections)) (data_counts_of sections) → IsModule compact bytes sections
whole_is_module compact bytes sections h agreeing counted = record { body = h.body; begins = h.begins; holds = h.holds; ordered = h.ordered; agreeing = agreeing; counted = counted }

-- ---- modules

first_sections : (compact : Bool) (bytes : List ℕ) (entries : List Entry) (sections : List Section) (h : HasSections compact bytes entries) → IsModule compact bytes sections → Follow compact h.sections h.rest sections
first_sections compact bytes entries sections h m =
    sections_first compact h.front h.rest m.body h.sections sections h.holds m.holds (cancel header m.body (h.front ++ h.rest) (sym m.begins ∙ h.begins))

entries_first : (few others sections : List Section) (entries : List Entry) → sections ≡ few ++ others → entries ≡ entries_of few → entries_of sections ≡ entries ++ entries_of others
entries_first few others sections entries e say = ap entries_of e ∙ flat_map-append entries_in few others ∙ ap (λ (l : List Entry). l ++ entries_of others) (sym say)

pub fronts_are_first : (compact : Bool) (bytes : List ℕ) (entries : List Entry) (sections : List Section) → BeginsWith compact bytes entries → IsModule compact bytes sections → Goes (entries_of sections) entries
fronts_are_first compact bytes entries sections (complete h) m =
    let f = first_sections compact bytes entries sections h m in
    (entries_of f.0, entries_first h.sections f.0 sections entries f.1 h.say)
fronts_are_first compact bytes entries sections (within h) m =
    let f = first_sections compact bytes h.before sections h.complete m in
    let r = items_in compact (section_id h.like) h.complete.rest f.0 h.items h.begun f.2 in
    let all = entries_first h.complete.sections f.0 sections h.before f.1 h.complete.say in
    let said : List Entry = begun_by (section_id h.like) ++ h.items in
    (r.0, all ∙ ap (λ (l : List Entry). h.before ++ l) r.1 ∙ sym (append_assoc h.before said r.0) ∙ ap (λ (l : List Entry). l ++ r.0) (sym h.say))
