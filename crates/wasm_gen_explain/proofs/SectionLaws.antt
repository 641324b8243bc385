-- Where in a section a place is.
use Rattle.std.proofs.Common.{◌≡◌, ◌≤◌, ◌<◌, inl, inr, ℕ, length, List, [], ◌∷◌, Option, Some, None, Result, Ok, Err, IfOk, refl, sym, subst, ◌∙◌, arith}
use Rattle.wasm_core_read.specs.Input.{Input, GoesOn, end}
use Rattle.wasm_core_read.specs.ModuleReading.{frame_at}
use Rattle.wasm_core_read.specs.PartReading.{body_at, import_at, table_at, global_at, export_at, element_at, data_at}
use Rattle.wasm_core_read.specs.Reading.{◌>>=◌, ReadingOf, byte_at, bytes_at, filled, name_at, unsigned_at}
use Rattle.wasm_core_read.specs.TypeReading.{rec_group_at, limits_at, tag_type_at}
use Rattle.wasm_core_read.proofs.ReadingLaws.{bind_some, goes_further}
use Rattle.wasm_spec.specs.Features.{Features, CompactImports, has}
use Rattle.wasm_spec.specs.TypeReferences.{group_refs}
use Rattle.wasmparser_entries.specs.Entries.{refs_of_element, refs_of_global, refs_of_table}
use Rattle.wasmparser_entries.specs.ImportEntries.{entry_refs}
use Rattle.wasm_gen_explain.specs.Bodies.{PassesBody}
use Rattle.wasm_gen_explain.specs.Items.{PassesItem}
use Rattle.wasm_gen_explain.specs.Lists.{EndsList, StandsInList}
use Rattle.wasm_gen_explain.specs.Searches.{FindsAtSection, FindsInCode, FindsInContent}
use Rattle.wasm_gen_explain.specs.Sections.{FindsIn, in_custom, in_types, in_imports, in_functions, in_tables, in_memories, in_globals, in_exports, in_start, in_elements, in_segments, in_data_count, in_tags, in_unknown, no_refs, StandsInWhole, EndsContent, code, others, IsFrame, IsAtSection, no_section, at_frame, within, IsInContent, in_code, around, in_entry, PassesSection, unread, before}
use Rattle.wasm_gen_explain.specs.declared.lists.Found.TheVariants.{Around, Entry, Past}
use Rattle.wasm_gen_explain.specs.declared.lists.Found.{Found}
use Rattle.wasm_gen_explain.specs.declared.place.Place.{Place}
use Rattle.wasm_gen_explain.specs.declared.place.Place.TheVariants as places
use Rattle.wasm_gen_explain.proofs.ListLaws.{list_ends}

-- ---- contents

pub unfilled : {A : Type 0} (read : Option (A × List ℕ)) (x : A) (rest : List ℕ) → read ≡ Some (x, rest) → 0 < length rest → filled read ≡ None
unfilled read x [] e more = absurd omega (arith, more)
unfilled read x (b ∷ bs) e more = rw e refl

pub is_filled : {A : Type 0} (read : Option (A × List ℕ)) (x : A) (rest : List ℕ) → read ≡ Some (x, rest) → length rest ≡ 0 → ¬ (filled read ≡ None)
is_filled read x [] e none = rw e (λ f. absurd cc)
is_filled read x (b ∷ bs) e none = absurd omega (arith, none)

pub no_number : {A : Type 0} (read : Option (A × List ℕ)) → read ≡ None → filled read ≡ None
no_number read e = rw e refl

pub is_read : {A : Type 0} (read : Option A) (x : A) → read ≡ Some x → ¬ (read ≡ None)
is_read read x e = rw e (λ f. absurd cc)

-- (cited by the search in a content that is read whole)
pub ruleset whole_steps = (unfilled, is_filled, no_number, is_read)

-- ---- contents by ids

if_ok : {E : Type 0} {P Q : Found → Type 0} (result : Result Found E) → ((found : Found) → P found → Q found) → IfOk result P → IfOk result Q
if_ok (Ok found) f h = f found h
if_ok (Err e) f h = h

pub finds_custom : (content : Input) (offset id : ℕ) (found : Found) → id ≡ 0 → StandsInWhole (name_at content.rest) content offset found → FindsIn content offset id found
finds_custom content offset id found e h = subst (λ (k : ℕ). FindsIn content offset k found) (sym e) (in_custom h)

pub finds_start : (content : Input) (offset id : ℕ) (found : Found) → id ≡ 8 → StandsInWhole (filled (unsigned_at 32 content.rest)) content offset found → FindsIn content offset id found
finds_start content offset id found e h = subst (λ (k : ℕ). FindsIn content offset k found) (sym e) (in_start h)

pub finds_data_count : (content : Input) (offset id : ℕ) (found : Found) → id ≡ 12 → StandsInWhole (filled (unsigned_at 32 content.rest)) content offset found → FindsIn content offset id found
finds_data_count content offset id found e h = subst (λ (k : ℕ). FindsIn content offset k found) (sym e) (in_data_count h)

pub finds_unknown : (content : Input) (offset id : ℕ) → 14 ≤ id → FindsIn content offset id Around
finds_unknown content offset id le = in_unknown id le

pub finds_types : {E : Type 0} (content : Input) (offset id : ℕ) (result : Result Found E) → id ≡ 1 → IfOk result (StandsInList (λ (features : Features). rec_group_at) group_refs content offset) → IfOk result (FindsIn content offset id)
finds_types content offset id result e h = subst (λ (k : ℕ). IfOk result (FindsIn content offset k)) (sym e) (if_ok result (λ found h. in_types h) h)

pub finds_imports : {E : Type 0} (content : Input) (offset id : ℕ) (result : Result Found E) → id ≡ 2 → IfOk result (StandsInList (λ (features : Features). import_at (has features CompactImports)) entry_refs content offset) → IfOk result (FindsIn content offset id)
finds_imports content offset id result e h = subst (λ (k : ℕ). IfOk result (FindsIn content offset k)) (sym e) (if_ok result (λ found h. in_imports h) h)

pub finds_functions : {E : Type 0} (content : Input) (offset id : ℕ) (result : Result Found E) → id ≡ 3 → IfOk result (StandsInList (λ (features : Features). unsigned_at 32) no_refs content offset) → IfOk result (FindsIn content offset id)
finds_functions content offset id result e h = subst (λ (k : ℕ). IfOk result (FindsIn content offset k)) (sym e) (if_ok result (λ found h. in_functions h) h)

pub finds_tables : {E : Type 0} (content : Input) (offset id : ℕ) (result : Result Found E) → id ≡ 4 → IfOk result (StandsInList (λ (features : Features). table_at) refs_of_table content offset) → IfOk result (FindsIn content offset id)
finds_tables content offset id result e h = subst (λ (k : ℕ). IfOk result (FindsIn content offset k)) (sym e) (if_ok result (λ found h. in_tables h) h)

pub finds_memories : {E : Type 0} (content : Input) (offset id : ℕ) (result : Result Found E) → id ≡ 5 → IfOk result (StandsInList (λ (features : Features). limits_at) no_refs content offset) → IfOk result (FindsIn content offset id)
finds_memories content offset id result e h = subst (λ (k : ℕ). IfOk result (FindsIn content offset k)) (sym e) (if_ok result (λ found h. in_memories h) h)

pub finds_globals : {E : Type 0} (content : Input) (offset id : ℕ) (result : Result Found E) → id ≡ 6 → IfOk result (StandsInList (λ (features : Features). global_at) refs_of_global content offset) → IfOk result (FindsIn content offset id)
finds_globals content offset id result e h = subst (λ (k : ℕ). IfOk result (FindsIn content offset k)) (sym e) (if_ok result (λ found h. in_globals h) h)

pub finds_exports : {E : Type 0} (content : Input) (offset id : ℕ) (result : Result Found E) → id ≡ 7 → IfOk result (StandsInList (λ (features : Features). export_at) no_refs content offset) → IfOk result (FindsIn content offset id)
finds_exports content offset id result e h = subst (λ (k : ℕ). IfOk result (FindsIn content offset k)) (sym e) (if_ok result (λ found h. in_exports h) h)

pub finds_elements : {E : Type 0} (content : Input) (offset id : ℕ) (result : Result Found E) → id ≡ 9 → IfOk result (StandsInList (λ (features : Features). element_at) refs_of_element content offset) → IfOk result (FindsIn content offset id)
finds_elements content offset id result e h = subst (λ (k : ℕ). IfOk result (FindsIn content offset k)) (sym e) (if_ok result (λ found h. in_elements h) h)

pub finds_segments : {E : Type 0} (content : Input) (offset id : ℕ) (result : Result Found E) → id ≡ 11 → IfOk result (StandsInList (λ (features : Features). data_at) no_refs content offset) → IfOk result (FindsIn content offset id)
finds_segments content offset id result e h = subst (λ (k : ℕ). IfOk result (FindsIn content offset k)) (sym e) (if_ok result (λ found h. in_segments h) h)

pub finds_tags : {E : Type 0} (content : Input) (offset id : ℕ) (result : Result Found E) → id ≡ 13 → IfOk result (StandsInList (λ (features : Features). tag_type_at) no_refs content offset) → IfOk result (FindsIn content offset id)
finds_tags content offset id result e h = subst (λ (k : ℕ). IfOk result (FindsIn content offset k)) (sym e) (if_ok result (λ found h. in_tags h) h)

-- (cited by the search by an id)
pub ruleset id_steps = (finds_custom, finds_start, finds_data_count, finds_unknown, finds_types, finds_imports, finds_functions, finds_tables, finds_memories, finds_globals, finds_exports, finds_elements, finds_segments, finds_tags)

pub stands_in_code : (imported : ℕ) (content : Input) (offset id : ℕ) (place : Option Place) → id ≡ 10 → FindsInCode imported content offset place → FindsInContent imported content offset id place
stands_in_code imported content offset id (Some place) e h = subst (λ (k : ℕ). IsInContent imported content offset k place) (sym e) (in_code place h)
stands_in_code imported content offset id None e h = subst (λ (k : ℕ). EndsContent content offset k) (sym e) (code h)

pub stands_around : (imported : ℕ) (content : Input) (offset id : ℕ) (found : Found) → FindsIn content offset id found → found ≡ Around → IsInContent imported content offset id (places.Section id)
stands_around imported content offset id found h e = around id (subst (λ f. FindsIn content offset id f) e h)

pub stands_in_entry : (imported : ℕ) (content : Input) (offset id number : ℕ) (found : Found) → FindsIn content offset id found → found ≡ Entry number → IsInContent imported content offset id (places.Entry id number)
stands_in_entry imported content offset id number found h e = in_entry id number (subst (λ f. FindsIn content offset id f) e h)

pub stands_past : (content : Input) (offset id : ℕ) (found : Found) → FindsIn content offset id found → found ≡ Past → EndsContent content offset id
stands_past content offset id found h e = others id (subst (λ f. FindsIn content offset id f) e h)

-- (cited by the search in a content)
pub ruleset content_steps = (stands_in_code, stands_around, stands_in_entry, stands_past)

-- ---- the next section

pub frame_reads : (bytes : List ℕ) (id : ℕ) (mid content rest : List ℕ) → byte_at bytes ≡ Some (id, mid) → body_at mid ≡ Some (content, rest) → frame_at bytes ≡ Some ((id, content), rest)
unfolding frame_at body_at
frame_reads bytes id mid content rest h k =
    let n = bind_some (unsigned_at 32 mid) (λ n. bytes_at n.0 n.1) (content, rest) k in
    let size = n.1 in
    let part = n.2 in
    rw (h, size, part) refl

abbrev with_id : ℕ → List ℕ × List ℕ → Option ((ℕ × List ℕ) × List ℕ)
with_id id c = Some ((id, c.0), c.1)

none_sized : (read : Option (ℕ × List ℕ)) (id : ℕ) → (read >>= λ n. bytes_at n.0 n.1) ≡ None → (read >>= λ n. bytes_at n.0 n.1 >>= with_id id) ≡ None
none_sized None id e = refl
none_sized (Some n) id e = rw e refl

pub frame_unread : (bytes : List ℕ) (id : ℕ) (mid : List ℕ) → byte_at bytes ≡ Some (id, mid) → body_at mid ≡ None → frame_at bytes ≡ None
unfolding frame_at body_at
frame_unread bytes id mid h k = rw h (none_sized (unsigned_at 32 mid) id k)

is_frame : (old mid new content : Input) (id : ℕ) → byte_at old.rest ≡ Some (id, mid.rest) → GoesOn old mid → body_at mid.rest ≡ Some (content.rest, new.rest) → GoesOn mid new → content.features ≡ mid.features → end content ≡ new.position
    → IsFrame old id content new.rest
is_frame old mid new content id h g k m f at = record {
  reads = frame_reads old.rest id mid.rest content.rest new.rest h k;
  same_features = f ∙ g.same_features;
  ends = omega (arith, at, g.same_end, m.same_end);
}

pub ended : (imported : ℕ) (old : Input) (offset : ℕ) → byte_at old.rest ≡ None → IsAtSection imported old offset places.End
ended imported old offset e = no_section e

pub frame_none : (imported : ℕ) (old mid : Input) (offset id : ℕ) → byte_at old.rest ≡ Some (id, mid.rest) → body_at mid.rest ≡ None → IsAtSection imported old offset (places.Section id)
frame_none imported old mid offset id h k = at_frame id (unread mid.rest h (frame_unread old.rest id mid.rest h k))

pub frame_before : (imported : ℕ) (old mid new content : Input) (offset id : ℕ) → byte_at old.rest ≡ Some (id, mid.rest) → GoesOn old mid → body_at mid.rest ≡ Some (content.rest, new.rest) → GoesOn mid new → content.features ≡ mid.features
    → end content ≡ new.position → offset < content.position → IsAtSection imported old offset (places.Section id)
frame_before imported old mid new content offset id h g k m f at lt = at_frame id (before content new.rest (is_frame old mid new content id h g k m f at) lt)

pub frame_passed : (old mid new content : Input) (offset id : ℕ) → byte_at old.rest ≡ Some (id, mid.rest) → GoesOn old mid → body_at mid.rest ≡ Some (content.rest, new.rest) → GoesOn mid new → content.features ≡ mid.features
    → end content ≡ new.position → new.position < offset → PassesSection offset old new
frame_passed old mid new content offset id h g k m f at lt =
    record { id = id; content = content; frame = is_frame old mid new content id h g k m f at; goes_on = goes_further old mid new g m; ends = omega (arith, lt); whole = inl lt }

-- a list of entries that ends at a place or before it
entries_end : {A : Type 0} (item_at : Features → ReadingOf A) (content : Input) (offset : ℕ) → EndsList (PassesItem item_at offset) content offset → end content ≤ offset
entries_end item_at content offset h = list_ends (PassesItem item_at offset) content offset (λ old new p. (p.goes_on, p.ends)) h

finds_end : (content : Input) (offset id : ℕ) → FindsIn content offset id Past → end content ≤ offset
finds_end content offset id (in_custom h) = h.0
finds_end content offset id (in_types h) = entries_end (λ (features : Features). rec_group_at) content offset h
finds_end content offset id (in_imports h) = entries_end (λ (features : Features). import_at (has features CompactImports)) content offset h
finds_end content offset id (in_functions h) = entries_end (λ (features : Features). unsigned_at 32) content offset h
finds_end content offset id (in_tables h) = entries_end (λ (features : Features). table_at) content offset h
finds_end content offset id (in_memories h) = entries_end (λ (features : Features). limits_at) content offset h
finds_end content offset id (in_globals h) = entries_end (λ (features : Features). global_at) content offset h
finds_end content offset id (in_exports h) = entries_end (λ (features : Features). export_at) content offset h
finds_end content offset id (in_start h) = h.0
finds_end content offset id (in_elements h) = entries_end (λ (features : Features). element_at) content offset h
finds_end content offset id (in_segments h) = entries_end (λ (features : Features). data_at) content offset h
finds_end content offset id (in_data_count h) = h.0
finds_end content offset id (in_tags h) = entries_end (λ (features : Features). tag_type_at) content offset h

content_ends : (content : Input) (offset id : ℕ) → EndsContent content offset id → end content ≤ offset
content_ends content offset id (code h) = list_ends (PassesBody offset) content offset (λ old new p. (p.goes_on, p.ends)) h
content_ends content offset id (others k h) = finds_end content offset id h

pub frame_stands : (imported : ℕ) (old mid new content : Input) (offset id : ℕ) (place : Option Place) → byte_at old.rest ≡ Some (id, mid.rest) → GoesOn old mid → body_at mid.rest ≡ Some (content.rest, new.rest) → GoesOn mid new
    → content.features ≡ mid.features → end content ≡ new.position → content.position ≤ offset → offset ≤ new.position → FindsInContent imported content offset id place → FindsAtSection imported old new offset place
frame_stands imported old mid new content offset id (Some place) h g k m f at le ge s =
    within place (record { id = id; content = content; rest = new.rest; frame = is_frame old mid new content id h g k m f at; begins = le; ends = omega (arith, at, ge); stands = s })
frame_stands imported old mid new content offset id None h g k m f at le ge s =
    let last = content_ends content offset id s in
    record { id = id; content = content; frame = is_frame old mid new content id h g k m f at; goes_on = goes_further old mid new g m; ends = omega (arith, at, last); whole = inr s }

-- (cited by the search for a place at the next section)
pub ruleset section_steps = (ended, frame_none, frame_before, frame_passed, frame_stands)
