-- The items of a piece, where they read.
use Rattle.std.proofs.Common.{◌≡◌, ℕ, zero, suc, List, [], ◌∷◌, ◌++◌, length, map, flat_map, Option, Some, None, option_map, refl, sym, ap, ap₂, ◌∙◌}
use Rattle.std.proofs.lemmas.Grind.{flat_map-append}
use Rattle.wasm_core_read.specs.PartReading.{import_at, table_at, global_at, export_at, element_at, data_at}
use Rattle.wasm_core_read.specs.Reading.{◌>>=◌, ReadingOf, filled, seen_at, unsigned_at}
use Rattle.wasm_core_read.specs.TypeReading.{items_at, rec_group_at, limits_at, tag_type_at}
use Rattle.wasm_core_read.proofs.Forms.{bind_some, some_is}
use Rattle.wasm_spec.specs.Features.{Features, CompactImports, has}
use Rattle.wasm_validity.specs.Entries.{Entry, OfCustom, OfType, OfImport, OfFunction, OfTable, OfMemory, OfTags, OfTag, OfGlobal, OfExport, OfStart, OfElement, OfDataCount, OfBody, OfData}
use Rattle.wasmparser_payloads.specs.EntryReading.{EntryReading}
use Rattle.wasmparser_payloads.specs.PieceEntries.{items_of, said_first, with_items, entries_said}
use Rattle.wasmparser_payloads.specs.Pieces.{Piece, Version, Types, Imports, Functions, Tables, Memories, Tags, Globals, Exports, Start, Elements, DataCount, CodeStart, Body, Segments, Custom, Unknown, End}
use Rattle.wasmparser_readers.specs.Sections.{Left, left_items}
use Rattle.wasmparser_validator.specs.PieceJudging.{body_in, count_in}
use Rattle.wasmparser_validator.specs.Sections.{contents_of}
use Rattle.wasmparser_validator.proofs.SectionEntries.{body_said, bodies_said, count_said, data_counts_said, none_said}

-- items of one kind as entries
abbrev pub as_entries : {A : Type 0} → (A → Entry) → (Features → ReadingOf A) → EntryReading
as_entries made form_at = λ features. seen_at made (form_at features)

-- entries that are so many items of one kind
pub record AreMade {A : Type 0} (made : A → Entry) (count : ℕ) (entries : List Entry) : Type 0 where
  pub items : List A
  pub are : entries ≡ map made items
  pub counted : length items ≡ count

abbrev read_as : {A : Type 0} → A → List ℕ → Option (A × List ℕ)
read_as x rest = Some (x, rest)

-- one item before others
one_more : {A : Type 0} (made : A → Entry) (n : ℕ) (entries : List Entry) (rest : List ℕ) (first : Entry × List ℕ) (others : List Entry × List ℕ) (a : A × List ℕ) → read_as (made a.0) a.1 ≡ Some first
    → AreMade made n others.0 → read_as (first.0 ∷ others.0) others.1 ≡ read_as entries rest → AreMade made (suc n) entries
one_more made n entries rest first others a is m whole =
    record {
      items = a.0 ∷ m.items;
      are = sym (ap (λ (q : List Entry × List ℕ). q.0) (some_is (first.0 ∷ others.0, others.1) (entries, rest) whole))
          ∙ ap₂ (λ (v : Entry) (l : List Entry). v ∷ l) (sym (ap (λ (q : Entry × List ℕ). q.0) (some_is (made a.0, a.1) first is))) m.are;
      counted = ap (λ n. suc n) m.counted;
    }

made_items : {A : Type 0} (made : A → Entry) (item_at : ReadingOf A) (n : ℕ) (bytes : List ℕ) (entries : List Entry) (rest : List ℕ) → items_at (seen_at made item_at) n bytes ≡ Some (entries, rest) → AreMade made n entries
unfolding items_at
made_items made item_at zero bytes entries rest e = record { items = []; are = sym (ap (λ (q : List Entry × List ℕ). q.0) (some_is ([], bytes) (entries, rest) e)); counted = refl }
made_items made item_at (suc n) bytes entries rest e =
    let f = bind_some (seen_at made item_at bytes) (λ first. items_at (seen_at made item_at) n first.1 >>= λ others. Some (first.0 ∷ others.0, others.1)) (entries, rest) e in
    let o = bind_some (items_at (seen_at made item_at) n f.0.1) (λ others. Some (f.0.0 ∷ others.0, others.1)) (entries, rest) f.2 in
    let a = bind_some (item_at bytes) (λ a. Some (made a.0, a.1)) f.0 f.1 in
    one_more made n entries rest f.0 o.0 a.0 a.2 (made_items made item_at n f.0.1 o.0.0 o.0.1 o.1) o.2

-- the items that are left of a section
made_left : {A : Type 0} (made : A → Entry) (form_at : Features → ReadingOf A) (left : Left) (entries : List Entry) → left_items (as_entries made form_at) left ≡ Some entries → AreMade made left.count entries
unfolding left_items
made_left made form_at left entries e = by_read (items_at (seen_at made (form_at left.input.features)) left.count left.input.rest) refl e
  where
    by_read : (read : Option (List Entry × List ℕ)) → items_at (seen_at made (form_at left.input.features)) left.count left.input.rest ≡ read → filled read ≡ Some entries → AreMade made left.count entries
    by_read None h e = absurd cc
    by_read (Some (es, [])) h e = made_items made (form_at left.input.features) left.count left.input.rest entries [] (h ∙ ap (λ (l : List Entry). Some (l, [])) (some_is es entries e))
    by_read (Some (es, b ∷ rest)) h e = absurd cc

-- what a piece says whose items are of one kind: some entries first, and its items
pub record SaysItems {A : Type 0} (first : List Entry) (made : A → Entry) (left : Left) (entries : List Entry) (others : List Entry) : Type 0 where
  pub say : entries ≡ first ++ others
  pub are : AreMade made left.count others

pub items_said : {A : Type 0} (first : List Entry) (made : A → Entry) (form_at : Features → ReadingOf A) (left : Left) (entries : List Entry)
    → with_items first (Some (record { entry_at = as_entries made form_at; left = left })) ≡ Some entries → (others : List Entry) × SaysItems first made left entries others
items_said first made form_at left entries e = by_read (left_items (as_entries made form_at) left) refl e
  where
    by_read : (read : Option (List Entry)) → left_items (as_entries made form_at) left ≡ read → option_map (λ others. first ++ others) read ≡ Some entries → (others : List Entry) × SaysItems first made left entries others
    by_read None h e = absurd cc
    by_read (Some others) h e = (others, record { say = sym (some_is (first ++ others) entries e); are = made_left made form_at left others h })

-- ---- which bodies and data counts there are

-- what entries say that are items of one kind after some first, of which none says it
none_of_items : {A B : Type 0} (said : Entry → List B) (first : List Entry) (made : A → Entry) (form_at : Features → ReadingOf A) (left : Left) (entries : List Entry) → flat_map said first ≡ [] → ((x : A) → said (made x) ≡ [])
    → with_items first (Some (record { entry_at = as_entries made form_at; left = left })) ≡ Some entries → flat_map said entries ≡ []
none_of_items said first made form_at left entries none each e =
    let s = items_said first made form_at left entries e in
    ap (flat_map said) (s.1.say ∙ ap (λ (l : List Entry). first ++ l) s.1.are.are) ∙ flat_map-append said first (map made s.1.are.items)
    ∙ ap₂ (λ a b. a ++ b) none (none_said said made each s.1.are.items)

-- entries without items
alone : {B : Type 0} (said : Entry → List B) (first entries : List Entry) → Some first ≡ Some entries → flat_map said entries ≡ flat_map said first
alone said first entries e = ap (flat_map said) (sym (some_is first entries e))

-- The bodies in what a piece says are the body that it is.
pub body_of_piece : (piece : Piece) (entries : List Entry) → entries_said piece ≡ Some entries → bodies_said entries ≡ contents_of (body_in piece)
unfolding entries_said said_first items_of body_in
body_of_piece (Version num place) entries e = alone body_said [] entries e
body_of_piece (Types items) entries e = none_of_items body_said [] (λ x. OfType x) (λ _. rec_group_at) items.left entries refl (λ x. refl) e
body_of_piece (Imports items) entries e = none_of_items body_said [] (λ x. OfImport x) (λ features. import_at (has features CompactImports)) items.left entries refl (λ x. refl) e
body_of_piece (Functions items) entries e = none_of_items body_said [] (λ x. OfFunction x) (λ _. unsigned_at 32) items.left entries refl (λ x. refl) e
body_of_piece (Tables items) entries e = none_of_items body_said [] (λ x. OfTable x) (λ _. table_at) items.left entries refl (λ x. refl) e
body_of_piece (Memories items) entries e = none_of_items body_said [] (λ x. OfMemory x) (λ _. limits_at) items.left entries refl (λ x. refl) e
body_of_piece (Tags items) entries e = none_of_items body_said (OfTags ∷ []) (λ x. OfTag x) (λ _. tag_type_at) items.left entries refl (λ x. refl) e
body_of_piece (Globals items) entries e = none_of_items body_said [] (λ x. OfGlobal x) (λ _. global_at) items.left entries refl (λ x. refl) e
body_of_piece (Exports items) entries e = none_of_items body_said [] (λ x. OfExport x) (λ _. export_at) items.left entries refl (λ x. refl) e
body_of_piece (Start function place) entries e = alone body_said (OfStart function ∷ []) entries e
body_of_piece (Elements items) entries e = none_of_items body_said [] (λ x. OfElement x) (λ _. element_at) items.left entries refl (λ x. refl) e
body_of_piece (DataCount count place) entries e = alone body_said (OfDataCount count ∷ []) entries e
body_of_piece (CodeStart count place size) entries e = alone body_said [] entries e
body_of_piece (Body body) entries e = alone body_said (OfBody body.rest ∷ []) entries e
body_of_piece (Segments items) entries e = none_of_items body_said [] (λ x. OfData x) (λ _. data_at) items.left entries refl (λ x. refl) e
body_of_piece (Custom section) entries e = alone body_said (OfCustom section.name ∷ []) entries e
body_of_piece (Unknown id contents place) entries e = absurd cc
body_of_piece (End place) entries e = alone body_said [] entries e

-- The data counts in what a piece says are the one that it states.
pub count_of_piece : (piece : Piece) (entries : List Entry) → entries_said piece ≡ Some entries → data_counts_said entries ≡ count_in piece
unfolding entries_said said_first items_of count_in
count_of_piece (Version num place) entries e = alone count_said [] entries e
count_of_piece (Types items) entries e = none_of_items count_said [] (λ x. OfType x) (λ _. rec_group_at) items.left entries refl (λ x. refl) e
count_of_piece (Imports items) entries e = none_of_items count_said [] (λ x. OfImport x) (λ features. import_at (has features CompactImports)) items.left entries refl (λ x. refl) e
count_of_piece (Functions items) entries e = none_of_items count_said [] (λ x. OfFunction x) (λ _. unsigned_at 32) items.left entries refl (λ x. refl) e
count_of_piece (Tables items) entries e = none_of_items count_said [] (λ x. OfTable x) (λ _. table_at) items.left entries refl (λ x. refl) e
count_of_piece (Memories items) entries e = none_of_items count_said [] (λ x. OfMemory x) (λ _. limits_at) items.left entries refl (λ x. refl) e
count_of_piece (Tags items) entries e = none_of_items count_said (OfTags ∷ []) (λ x. OfTag x) (λ _. tag_type_at) items.left entries refl (λ x. refl) e
count_of_piece (Globals items) entries e = none_of_items count_said [] (λ x. OfGlobal x) (λ _. global_at) items.left entries refl (λ x. refl) e
count_of_piece (Exports items) entries e = none_of_items count_said [] (λ x. OfExport x) (λ _. export_at) items.left entries refl (λ x. refl) e
count_of_piece (Start function place) entries e = alone count_said (OfStart function ∷ []) entries e
count_of_piece (Elements items) entries e = none_of_items count_said [] (λ x. OfElement x) (λ _. element_at) items.left entries refl (λ x. refl) e
count_of_piece (DataCount count place) entries e = alone count_said (OfDataCount count ∷ []) entries e
count_of_piece (CodeStart count place size) entries e = alone count_said [] entries e
count_of_piece (Body body) entries e = alone count_said (OfBody body.rest ∷ []) entries e
count_of_piece (Segments items) entries e = none_of_items count_said [] (λ x. OfData x) (λ _. data_at) items.left entries refl (λ x. refl) e
count_of_piece (Custom section) entries e = alone count_said (OfCustom section.name ∷ []) entries e
count_of_piece (Unknown id contents place) entries e = absurd cc
count_of_piece (End place) entries e = alone count_said [] entries e
