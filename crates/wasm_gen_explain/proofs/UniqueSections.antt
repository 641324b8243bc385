-- A place is in one part of a section at most, and in one section of a module.
use Rattle.std.proofs.Common.{◌∷◌, ◌≡◌, ◌≢◌, ◌≤◌, ◌<◌, ◌⊎◌, inl, inr, ℕ, length, List, [], Option, Some, None, refl, sym, ap, subst, ◌∙◌, arith}
use Rattle.wasm_core_read.specs.Input.{Input, end}
use Rattle.wasm_core_read.specs.ModuleReading.{frame_at}
use Rattle.wasm_core_read.specs.PartReading.{import_at, table_at, global_at, export_at, element_at, data_at}
use Rattle.wasm_core_read.specs.Reading.{◌>>=◌, byte_at, bytes_at, filled, name_at, unsigned_at}
use Rattle.wasm_core_read.specs.TypeReading.{rec_group_at, limits_at, tag_type_at}
use Rattle.wasm_core_read.proofs.ReadingLaws.{bind_some, some_is}
use Rattle.wasm_spec.specs.Features.{Features, CompactImports, has}
use Rattle.wasm_spec.specs.TypeReferences.{group_refs}
use Rattle.wasmparser_entries.specs.Entries.{refs_of_element, refs_of_global, refs_of_table}
use Rattle.wasmparser_entries.specs.ImportEntries.{entry_refs}
use Rattle.wasm_gen_explain.specs.LargeIndexes.{IsLargeAtSection, IsLargeEntry, IsLargeInContent}
use Rattle.wasm_gen_explain.specs.Sections.{FindsIn, in_custom, in_types, in_imports, in_functions, in_tables, in_memories, in_globals, in_exports, in_start, in_elements, in_segments, in_data_count, in_tags, in_unknown, no_refs, StandsInWhole, EndsContent, code, others, IsFrame, IsAtSection, IsWithinSection, no_section, at_frame, within, IsInContent, in_code, around, in_entry, PassesSection, StopsFrame, unread, before}
use Rattle.wasm_gen_explain.specs.Text.{place_text}
use Rattle.wasm_gen_explain.specs.declared.lists.Found.TheVariants.{Around, Entry, Past}
use Rattle.wasm_gen_explain.specs.declared.lists.Found.{Found}
use Rattle.wasm_gen_explain.specs.declared.place.Place.{Place}
use Rattle.wasm_gen_explain.specs.declared.place.Place.TheVariants as places
use Rattle.wasm_gen_explain.proofs.UniqueBodies.{in_code_or_end, one_in_code}
use Rattle.wasm_gen_explain.proofs.UniqueItems.{IsLast, one_in_list, same_input}

-- ---- contents

one_whole : {A : Type 0} (read : Option A) (content : Input) (offset : ℕ) (f g : Found) → StandsInWhole read content offset f → StandsInWhole read content offset g → f ≡ g
one_whole read content offset Around Around h k = refl
one_whole read content offset Past Past h k = refl
one_whole read content offset Around Past (inl none) k = absurd (k.1 none)
one_whole read content offset Around Past (inr lt) k = absurd omega (arith, lt, k.0)
one_whole read content offset Past Around h (inl none) = absurd (h.1 none)
one_whole read content offset Past Around h (inr lt) = absurd omega (arith, lt, h.0)
one_whole read content offset (Entry n) g h k = absurd h
one_whole read content offset f (Entry n) h k = absurd k

-- a section whose id the format doesn't have
beyond : (content : Input) (offset id : ℕ) (found : Found) → FindsIn content offset id found → 14 ≤ id → found ≡ Around
beyond content offset id found (in_custom h) le = absurd omega (arith, le)
beyond content offset id found (in_types h) le = absurd omega (arith, le)
beyond content offset id found (in_imports h) le = absurd omega (arith, le)
beyond content offset id found (in_functions h) le = absurd omega (arith, le)
beyond content offset id found (in_tables h) le = absurd omega (arith, le)
beyond content offset id found (in_memories h) le = absurd omega (arith, le)
beyond content offset id found (in_globals h) le = absurd omega (arith, le)
beyond content offset id found (in_exports h) le = absurd omega (arith, le)
beyond content offset id found (in_start h) le = absurd omega (arith, le)
beyond content offset id found (in_elements h) le = absurd omega (arith, le)
beyond content offset id found (in_segments h) le = absurd omega (arith, le)
beyond content offset id found (in_data_count h) le = absurd omega (arith, le)
beyond content offset id found (in_tags h) le = absurd omega (arith, le)
beyond content offset id found (in_unknown i h) le = refl

one_found : (content : Input) (offset id : ℕ) (f g : Found) (h : FindsIn content offset id f) (k : FindsIn content offset id g) → ¬ (IsLargeEntry content offset id f h) → ¬ (IsLargeEntry content offset id g k) → f ≡ g
one_found content offset id f g (in_custom h) (in_custom k) small other = one_whole (name_at content.rest) content offset f g h k
one_found content offset id f g (in_types h) (in_types k) small other = one_in_list (λ (features : Features). rec_group_at) group_refs content offset f g h k small other
one_found content offset id f g (in_imports h) (in_imports k) small other = one_in_list (λ (features : Features). import_at (has features CompactImports)) entry_refs content offset f g h k small other
one_found content offset id f g (in_functions h) (in_functions k) small other = one_in_list (λ (features : Features). unsigned_at 32) no_refs content offset f g h k small other
one_found content offset id f g (in_tables h) (in_tables k) small other = one_in_list (λ (features : Features). table_at) refs_of_table content offset f g h k small other
one_found content offset id f g (in_memories h) (in_memories k) small other = one_in_list (λ (features : Features). limits_at) no_refs content offset f g h k small other
one_found content offset id f g (in_globals h) (in_globals k) small other = one_in_list (λ (features : Features). global_at) refs_of_global content offset f g h k small other
one_found content offset id f g (in_exports h) (in_exports k) small other = one_in_list (λ (features : Features). export_at) no_refs content offset f g h k small other
one_found content offset id f g (in_start h) (in_start k) small other = one_whole (filled (unsigned_at 32 content.rest)) content offset f g h k
one_found content offset id f g (in_elements h) (in_elements k) small other = one_in_list (λ (features : Features). element_at) refs_of_element content offset f g h k small other
one_found content offset id f g (in_segments h) (in_segments k) small other = one_in_list (λ (features : Features). data_at) no_refs content offset f g h k small other
one_found content offset id f g (in_data_count h) (in_data_count k) small other = one_whole (filled (unsigned_at 32 content.rest)) content offset f g h k
one_found content offset id f g (in_tags h) (in_tags k) small other = one_in_list (λ (features : Features). tag_type_at) no_refs content offset f g h k small other
one_found content offset id f g (in_unknown i le) k small other = sym (beyond content offset i g k le)
one_found content offset id f g h (in_unknown i le) small other = beyond content offset i f h le

-- code sections aren't among those of entries
unlisted : (content : Input) (offset id : ℕ) (found : Found) → FindsIn content offset id found → id ≢ 10
unlisted content offset id found (in_custom h) = λ e. absurd omega (arith, e)
unlisted content offset id found (in_types h) = λ e. absurd omega (arith, e)
unlisted content offset id found (in_imports h) = λ e. absurd omega (arith, e)
unlisted content offset id found (in_functions h) = λ e. absurd omega (arith, e)
unlisted content offset id found (in_tables h) = λ e. absurd omega (arith, e)
unlisted content offset id found (in_memories h) = λ e. absurd omega (arith, e)
unlisted content offset id found (in_globals h) = λ e. absurd omega (arith, e)
unlisted content offset id found (in_exports h) = λ e. absurd omega (arith, e)
unlisted content offset id found (in_start h) = λ e. absurd omega (arith, e)
unlisted content offset id found (in_elements h) = λ e. absurd omega (arith, e)
unlisted content offset id found (in_segments h) = λ e. absurd omega (arith, e)
unlisted content offset id found (in_data_count h) = λ e. absurd omega (arith, e)
unlisted content offset id found (in_tags h) = λ e. absurd omega (arith, e)
unlisted content offset id found (in_unknown i h) = λ e. absurd omega (arith, e, h)

around_small : (content : Input) (offset id : ℕ) (h : FindsIn content offset id Around) → ¬ (IsLargeEntry content offset id Around h)
around_small content offset id (in_custom h) l = l
around_small content offset id (in_types h) l = l
around_small content offset id (in_imports h) l = l
around_small content offset id (in_functions h) l = l
around_small content offset id (in_tables h) l = l
around_small content offset id (in_memories h) l = l
around_small content offset id (in_globals h) l = l
around_small content offset id (in_exports h) l = l
around_small content offset id (in_start h) l = l
around_small content offset id (in_elements h) l = l
around_small content offset id (in_segments h) l = l
around_small content offset id (in_data_count h) l = l
around_small content offset id (in_tags h) l = l
around_small content offset id (in_unknown i h) l = l

past_small : (content : Input) (offset id : ℕ) (h : FindsIn content offset id Past) → ¬ (IsLargeEntry content offset id Past h)
past_small content offset id (in_custom h) l = l
past_small content offset id (in_types h) l = l
past_small content offset id (in_imports h) l = l
past_small content offset id (in_functions h) l = l
past_small content offset id (in_tables h) l = l
past_small content offset id (in_memories h) l = l
past_small content offset id (in_globals h) l = l
past_small content offset id (in_exports h) l = l
past_small content offset id (in_start h) l = l
past_small content offset id (in_elements h) l = l
past_small content offset id (in_segments h) l = l
past_small content offset id (in_data_count h) l = l
past_small content offset id (in_tags h) l = l

in_content_or_end : (imported : ℕ) (content : Input) (offset id : ℕ) (place : Place) (h : IsInContent imported content offset id place) → ¬ (IsLargeInContent imported content offset id place h) → ¬ (EndsContent content offset id)
in_content_or_end imported content offset id place (in_code p h) small (code e) = in_code_or_end imported content offset p h small e
in_content_or_end imported content offset id place (in_code p h) small (others i e) = by_id 10 e refl
  where
    by_id : (i : ℕ) → FindsIn content offset i Past → ¬ (i ≡ 10)
    by_id i f = unlisted content offset i Past f
in_content_or_end imported content offset id place (around i h) small (code e) = unlisted content offset 10 Around h refl
in_content_or_end imported content offset id place (around i h) small (others j e) = let f = one_found content offset i Around Past h e (λ l. around_small content offset i h l) (λ l. past_small content offset i e l) in absurd cc
in_content_or_end imported content offset id place (in_entry i number h) small (code e) = unlisted content offset 10 (Entry number) h refl
in_content_or_end imported content offset id place (in_entry i number h) small (others j e) = let f = one_found content offset i (Entry number) Past h e small (λ l. past_small content offset i e l) in absurd cc

one_in_content : (imported : ℕ) (content : Input) (offset id : ℕ) (p q : Place) (h : IsInContent imported content offset id p) (k : IsInContent imported content offset id q) → ¬ (IsLargeInContent imported content offset id p h)
    → ¬ (IsLargeInContent imported content offset id q k) → place_text p ≡ place_text q
one_in_content imported content offset id p q (in_code r h) (in_code s k) small other = one_in_code imported content offset r s h k small other
one_in_content imported content offset id p q (in_code r h) (around i k) small other = absurd (unlisted content offset 10 Around k refl)
one_in_content imported content offset id p q (in_code r h) (in_entry i n k) small other = absurd (unlisted content offset 10 (Entry n) k refl)
one_in_content imported content offset id p q (around i h) (in_code s k) small other = absurd (unlisted content offset 10 Around h refl)
one_in_content imported content offset id p q (in_entry i n h) (in_code s k) small other = absurd (unlisted content offset 10 (Entry n) h refl)
one_in_content imported content offset id p q (around i h) (around j k) small other = refl
one_in_content imported content offset id p q (around i h) (in_entry j n k) small other = let f = one_found content offset i Around (Entry n) h k (λ l. around_small content offset i h l) other in absurd cc
one_in_content imported content offset id p q (in_entry i n h) (around j k) small other = let f = one_found content offset i (Entry n) Around h k small (λ l. around_small content offset i k l) in absurd cc
one_in_content imported content offset id p q (in_entry i n h) (in_entry j m k) small other = ap (λ (f : Found). entry_text i f) (one_found content offset i (Entry n) (Entry m) h k small other)
  where
    entry_text : ℕ → Found → List ℕ
    entry_text i (Entry n) = place_text (places.Entry i n)
    entry_text i _ = []

-- ---- sections

pub same_frame : (old a b : Input) (i j : ℕ) (rest left : List ℕ) → IsFrame old i a rest → IsFrame old j b left → (i ≡ j) × (a ≡ b) × (rest ≡ left)
same_frame old a b i j rest left p q =
    let same = some_is ((i, a.rest), rest) ((j, b.rest), left) (sym p.reads ∙ q.reads) in
    let first : a.rest ≡ b.rest = ap (λ x. x.0.1) same in
    let second : rest ≡ left = ap (λ x. x.1) same in
    let n : length a.rest ≡ length b.rest = ap length first in
    let m : length rest ≡ length left = ap length second in
    (ap (λ x. x.0.0) same, same_input a b first (omega (arith, n, m, p.ends, q.ends)) (p.same_features ∙ sym q.same_features), second)

abbrev framed : ℕ → List ℕ × List ℕ → Option ((ℕ × List ℕ) × List ℕ)
framed id content = Some ((id, content.0), content.1)

abbrev sized : ℕ → ℕ × List ℕ → Option ((ℕ × List ℕ) × List ℕ)
sized id n = bytes_at n.0 n.1 >>= framed id

-- a section that is passed ends where the next one begins
passed_end : (offset : ℕ) (old new : Input) (p : PassesSection offset old new) → end p.content ≡ new.position
passed_end offset old new p = omega (arith, p.frame.ends, p.goes_on.same_end)

frame_byte : (bytes : List ℕ) (id : ℕ) (content rest : List ℕ) → frame_at bytes ≡ Some ((id, content), rest) → (mid : List ℕ) × (byte_at bytes ≡ Some (id, mid))
unfolding frame_at byte_at
frame_byte [] id content rest e = absurd cc
frame_byte (b ∷ bs) id content rest e =
    let n = bind_some (unsigned_at 32 bs) (sized b) ((id, content), rest) e in
    let c = bind_some (bytes_at n.0.0 n.0.1) (framed b) ((id, content), rest) n.2 in
    (bs, ap (λ x. Some (x.0.0, bs)) (some_is ((b, c.0.0), c.0.1) ((id, content), rest) c.2))

frame_first : (old : Input) (id : ℕ) (content : Input) (rest : List ℕ) → IsFrame old id content rest → (mid : List ℕ) × (byte_at old.rest ≡ Some (id, mid))
frame_first old id content rest frame = frame_byte old.rest id content.rest rest frame.reads

frame_reads : (old : Input) (id wanted : ℕ) (content : Input) (rest : List ℕ) (offset : ℕ) → IsFrame old id content rest → content.position ≤ offset → ¬ (StopsFrame old offset wanted)
frame_reads old id wanted content rest offset frame le (unread mid h none) = let f = sym frame.reads ∙ none in absurd cc
frame_reads old id wanted content rest offset frame le (before other left other_frame lt) =
    let same : content ≡ other = (same_frame old content other id wanted rest left frame other_frame).1 in
    let at : content.position ≡ other.position = ap (λ (i : Input). i.position) same in
    absurd omega (arith, at, le, lt)

frame_id : (old : Input) (offset i j : ℕ) → StopsFrame old offset i → StopsFrame old offset j → i ≡ j
frame_id old offset i j (unread mid h none) (unread other k nothing) = ap (λ x. x.0) (some_is (i, mid) (j, other) (sym h ∙ k))
frame_id old offset i j (unread mid h none) (before content rest frame lt) = let f = sym frame.reads ∙ none in absurd cc
frame_id old offset i j (before content rest frame lt) (unread mid h none) = let f = sym frame.reads ∙ none in absurd cc
frame_id old offset i j (before content rest frame lt) (before other left other_frame less) = (same_frame old content other i j rest left frame other_frame).0

first_byte : (old : Input) (offset id : ℕ) → StopsFrame old offset id → ¬ (byte_at old.rest ≡ None)
first_byte old offset id (unread mid h none) e = let f = sym h ∙ e in absurd cc
first_byte old offset id (before content rest frame lt) e = let f = sym (frame_first old id content rest frame).1 ∙ e in absurd cc

by_frame : (imported : ℕ) (offset i j : ℕ) (a b : Input) (p : Place) (P : Type 0) → i ≡ j → a ≡ b → ((h : IsInContent imported b offset j p) → ¬ (IsLargeInContent imported b offset j p h) → P) → (h : IsInContent imported a offset i p) → ¬ (IsLargeInContent imported a offset i p h) → P
by_frame imported offset i j a b p P e same f =
    subst (λ (c : Input). (h : IsInContent imported c offset i p) → ¬ (IsLargeInContent imported c offset i p h) → P) (sym same)
    (subst (λ (k : ℕ). (h : IsInContent imported b offset k p) → ¬ (IsLargeInContent imported b offset k p h) → P) (sym e) f)

within_last : (imported : ℕ) (old t : Input) (offset : ℕ) (place : Place) (h : IsWithinSection imported old offset place) → ¬ (IsLargeInContent imported h.content offset h.id place h.stands) → ¬ (PassesSection offset old t)
within_last imported old t offset place h small p =
    let same = same_frame old h.content p.content h.id p.id h.rest t.rest h.frame p.frame in
    let at : end h.content ≡ end p.content = ap end same.1 in
    by_whole p.whole same.0 same.1 (omega (arith, at, passed_end offset old t p, h.ends))
  where
    by_whole : (t.position < offset) ⊎ EndsContent p.content offset p.id → h.id ≡ p.id → h.content ≡ p.content → offset ≤ t.position → ⊥
    by_whole (inl lt) e same le = absurd omega (arith, lt, le)
    by_whole (inr ends) e same le = by_frame imported offset h.id p.id h.content p.content place ⊥ e same (λ x y. in_content_or_end imported p.content offset p.id place x y ends) h.stands small

pub at_section_last : (imported : ℕ) (old : Input) (offset : ℕ) (place : Place) (h : IsAtSection imported old offset place) → ¬ (IsLargeAtSection imported old offset place h) → IsLast (PassesSection offset) old
at_section_last imported old offset place (no_section none) small t p = let f = sym (frame_first old p.id p.content t.rest p.frame).1 ∙ none in absurd cc
at_section_last imported old offset place (at_frame id h) small t p =
    let at = passed_end offset old t p in
    frame_reads old p.id id p.content t.rest offset p.frame (omega (arith, at, p.ends)) h
at_section_last imported old offset place (within q h) small t p = within_last imported old t offset q h small p

within_same : (imported : ℕ) (old : Input) (offset : ℕ) (p q : Place) (h : IsWithinSection imported old offset p) (k : IsWithinSection imported old offset q) → ¬ (IsLargeInContent imported h.content offset h.id p h.stands)
    → ¬ (IsLargeInContent imported k.content offset k.id q k.stands) → place_text p ≡ place_text q
within_same imported old offset p q h k small other =
    let same = same_frame old h.content k.content h.id k.id h.rest k.rest h.frame k.frame in
    by_frame imported offset h.id k.id h.content k.content p (place_text p ≡ place_text q) same.0 same.1 (λ x y. one_in_content imported k.content offset k.id p q x k.stands y other) h.stands small

pub one_at_section : (imported : ℕ) (old : Input) (offset : ℕ) (p q : Place) (h : IsAtSection imported old offset p) (k : IsAtSection imported old offset q) → ¬ (IsLargeAtSection imported old offset p h) → ¬ (IsLargeAtSection imported old offset q k)
    → place_text p ≡ place_text q
one_at_section imported old offset p q (no_section none) (no_section nothing) small other = refl
one_at_section imported old offset p q (no_section none) (at_frame j k) small other = absurd (first_byte old offset j k none)
one_at_section imported old offset p q (no_section none) (within r k) small other = let f = sym (frame_first old k.id k.content k.rest k.frame).1 ∙ none in absurd cc
one_at_section imported old offset p q (at_frame i h) (no_section none) small other = absurd (first_byte old offset i h none)
one_at_section imported old offset p q (at_frame i h) (at_frame j k) small other = ap (λ (n : ℕ). place_text (places.Section n)) (frame_id old offset i j h k)
one_at_section imported old offset p q (at_frame i h) (within r k) small other = absurd (frame_reads old k.id i k.content k.rest offset k.frame k.begins h)
one_at_section imported old offset p q (within r h) (no_section none) small other = let f = sym (frame_first old h.id h.content h.rest h.frame).1 ∙ none in absurd cc
one_at_section imported old offset p q (within r h) (at_frame j k) small other = absurd (frame_reads old h.id j h.content h.rest offset h.frame h.begins k)
one_at_section imported old offset p q (within r h) (within s k) small other = within_same imported old offset r s h k small other
