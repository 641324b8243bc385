-- Items that are read at the front of a section's content stand there as the grammar says.
use Rattle.std.proofs.Common.{◌≡◌, ◌≤◌, ℕ, zero, suc, Bool, true, false, cond, eqb, List, [], ◌∷◌, ◌++◌, length, Option, Some, None, refl, sym, ap, subst, ◌∙◌, arith}
use Rattle.std.proofs.lemmas.Bool.{eqb-true}
use Rattle.wasm_spec.specs.Bytes.{AreBytes, IsU32, IsItems}
use Rattle.wasm_spec.specs.Features.{CompactImports, has}
use Rattle.wasm_spec.specs.Grammar.{section_id}
use Rattle.wasm_spec.specs.ModuleParts.{IsImport, IsTable, IsGlobal, IsExport, IsElementSegment, IsDataSegment}
use Rattle.wasm_spec.specs.Syntax as syntax
use Rattle.wasm_spec.specs.Syntax.{Section}
use Rattle.wasm_spec.specs.TypeGrammar.{IsRecGroup, IsMemoryType, IsTagType}
use Rattle.wasm_core_read.specs.Input.{Input}
use Rattle.wasm_core_read.specs.Laws.{ReadsExactly}
use Rattle.wasm_core_read.specs.PartReading.{import_at, table_at, global_at, export_at, element_at, data_at}
use Rattle.wasm_core_read.specs.Reading.{◌>>=◌, ReadingOf, seen_at, unsigned_at}
use Rattle.wasm_core_read.specs.TypeReading.{items_at, rec_group_at, limits_at, tag_type_at}
use Rattle.wasm_core_read.proofs.ExternalForms.{reads_limits, reads_tag_type}
use Rattle.wasm_core_read.proofs.Forms.{Found, bind_some, some_is, joined, rest_bytes, reads_unsigned, unsigned_found}
use Rattle.wasm_core_read.proofs.PartForms.{reads_import, reads_table, reads_global, reads_export, reads_element, reads_data}
use Rattle.wasm_core_read.proofs.TypeForms.{reads_rec_group}
use Rattle.wasm_validity.specs.Entries.{Entry, OfType, OfImport, OfFunction, OfTable, OfMemory, OfTags, OfTag, OfGlobal, OfExport, OfElement, OfData, IsItem}
use Rattle.wasm_validity.specs.Fronts.{begun_by}
use Rattle.wasmparser_payloads.specs.EntryReading.{EntryReading, type_entry_at, import_entry_at, function_entry_at, table_entry_at, memory_entry_at, tag_entry_at, global_entry_at, export_entry_at, element_entry_at, data_entry_at}
use Rattle.wasmparser_payloads.specs.PieceEntries.{Items, items_of, said_first, HasFront}
use Rattle.wasmparser_payloads.proofs.FrontStates.{counted}
use Rattle.wasmparser_payloads.proofs.UnreadLaws.{limited_features}
use Rattle.wasmparser_payloads.specs.Pieces.{Piece, Types, Imports, Functions, Tables, Memories, Tags, Globals, Exports, Start, Elements, DataCount, CodeStart, Segments, Custom, Unknown, whole_of, piece_of}
use Rattle.wasmparser_readers.specs.Sections.{Limited, limited_of}

-- some items at the front of the content of a section of this id, whose piece says this first
pub record FrontOf (compact : Bool) (id : ℕ) (content : List ℕ) (first front : List Entry) : Type 0 where
  pub like : Section
  pub like_id : section_id like ≡ id
  pub is_first : first ≡ begun_by id
  pub stated : ℕ
  pub count_encoding : List ℕ
  pub encoding : List ℕ
  pub rest : List ℕ
  pub parts : content ≡ count_encoding ++ (encoding ++ rest)
  pub counted : IsU32 count_encoding stated
  pub among : length front ≤ stated
  pub holds : IsItems (IsItem compact id) encoding front

-- ---- items that were found

abbrev Finds : (List ℕ → Entry → Type 0) → ReadingOf Entry → Type 0
Finds IsE e_at = (bytes : List ℕ) (e : Entry) (rest : List ℕ) → AreBytes bytes → e_at bytes ≡ Some (e, rest) → Found IsE bytes e rest

seen_found : {A : Type 0} (IsA : List ℕ → A → Type 0) (a_at : ReadingOf A) (view : A → Entry) (IsE : List ℕ → Entry → Type 0) → ReadsExactly IsA a_at
    → ((bytes : List ℕ) (a : A) → IsA bytes a → IsE bytes (view a)) → Finds IsE (seen_at view a_at)
seen_found IsA a_at view IsE law is bytes e rest are read =
    let a = bind_some (a_at bytes) (λ a. Some (view a.0, a.1)) (e, rest) read in
    let f = law.found bytes a.0.0 a.0.1 are a.1 in
    subst (λ (x : Entry × List ℕ). Found IsE bytes x.0 x.1) (some_is (view a.0.0, a.0.1) (e, rest) a.2) (f.0, f.1, is f.0 a.0.0 f.2)

items_found : (IsE : List ℕ → Entry → Type 0) (e_at : ReadingOf Entry) → Finds IsE e_at → (n : ℕ) (bytes : List ℕ) (es : List Entry) (rest : List ℕ)
    → AreBytes bytes → items_at e_at n bytes ≡ Some (es, rest) → Found (IsItems IsE) bytes es rest × (length es ≡ n)
unfolding items_at
items_found IsE e_at law zero bytes es rest are e =
    subst (λ x. Found (IsItems IsE) bytes x.0 x.1 × (length x.0 ≡ 0)) (some_is ([], bytes) (es, rest) e) (([], refl, refl), refl)
items_found IsE e_at law (suc n) bytes es rest are e =
    let a = bind_some (e_at bytes) (λ first. items_at e_at n first.1 >>= λ others. Some (first.0 ∷ others.0, others.1)) (es, rest) e in
    let b = bind_some (items_at e_at n a.0.1) (λ others. Some (a.0.0 ∷ others.0, others.1)) (es, rest) a.2 in
    let first = law bytes a.0.0 a.0.1 are a.1 in
    let others = items_found IsE e_at law n a.0.1 b.0.0 b.0.1 (rest_bytes bytes first.0 a.0.1 are first.1) b.1 in
    subst (λ x. Found (IsItems IsE) bytes x.0 x.1 × (length x.0 ≡ suc n)) (some_is (a.0.0 ∷ b.0.0, b.0.1) (es, rest) b.2)
    ((first.0 ++ others.0.0, joined bytes first.0 a.0.1 others.0.0 b.0.1 first.1 others.0.1, (first.0, others.0.0, refl {a = first.0 ++ others.0.0}, first.2, others.0.2)), ap suc others.1)

-- ---- one kind of section

abbrev Fronts : Bool → ℕ → Input → Option Piece → Type 0
Fronts compact id content read = (p : Piece) (items : Items) (front : List Entry) → read ≡ Some p → items_of p ≡ Some items → HasFront items front → FrontOf compact id content.rest (said_first p) front

-- items that were read after the count of a content
front_made : (compact : Bool) (id : ℕ) (content left rest : List ℕ) (stated number : ℕ) (e_at : ReadingOf Entry) (like : Section) (first front : List Entry) → AreBytes content → unsigned_at 32 content ≡ Some (stated, left)
    → Finds (IsItem compact id) e_at → section_id like ≡ id → first ≡ begun_by id → number ≤ stated → items_at e_at number left ≡ Some (front, rest) → FrontOf compact id content first front
front_made compact id content left rest stated number e_at like first front are count finds like_id begins le read =
    let c = unsigned_found 32 content stated left are count in
    let f = items_found (IsItem compact id) e_at finds number left front rest (rest_bytes content c.0 left are c.1) read in
    record {
      like = like;
      like_id = like_id;
      is_first = begins;
      stated = stated;
      count_encoding = c.0;
      encoding = f.0.0;
      rest = rest;
      parts = c.1 ∙ ap (λ (l : List ℕ). c.0 ++ l) f.0.1;
      counted = c.2;
      among = omega (arith, f.1, le);
      holds = f.0.2;
    }

items_front : {A : Type 0} (compact : Bool) (id wanted : ℕ) (content : Input) (IsA : List ℕ → A → Type 0) (a_at : ReadingOf A) (view : A → Entry) (entry_at : EntryReading) (first : List Entry) (like : Section) (piece : Limited → Piece)
    → AreBytes content.rest → eqb id wanted ≡ true → ReadsExactly IsA a_at → ((bytes : List ℕ) (a : A) → IsA bytes a → IsItem compact wanted bytes (view a)) → section_id like ≡ wanted → first ≡ begun_by wanted
    → ((x : Limited) → items_of (piece x) ≡ Some (record { entry_at = entry_at; left = x.left })) → ((x : Limited) → said_first (piece x) ≡ first)
    → entry_at content.features ≡ seen_at view a_at → Fronts compact id content (limited_of content >>= λ x. Some (piece x))
items_front compact id wanted content IsA a_at view entry_at first like piece are t law is like_id begins of says reads p items front e has h =
    let x = bind_some (limited_of content) (λ x. Some (piece x)) p e in
    by_limited x.0 x.1 (some_is (piece x.0) p x.2)
  where
    by_limited : (x : Limited) → limited_of content ≡ Some x → piece x ≡ p → FrontOf compact id content.rest (said_first p) front
    by_limited x e same =
        let its : record { entry_at = entry_at; left = x.left } ≡ items = some_is _ items (sym (of x) ∙ ap items_of same ∙ has) in
        let k : HasFront (record { entry_at = entry_at; left = x.left }) front = subst (λ (i : Items). HasFront i front) (sym its) h in
        let read : items_at (seen_at view a_at) k.number x.left.input.rest ≡ Some (front, k.rest) =
        ap (λ (r : ReadingOf Entry). items_at r k.number x.left.input.rest) (sym (ap entry_at (limited_features content x e) ∙ reads)) ∙ k.reads in
        let finds = seen_found IsA a_at view (IsItem compact wanted) law is in
        let says-first : said_first p ≡ begun_by wanted = ap said_first (sym same) ∙ says x ∙ begins in
        subst (λ (i : ℕ). FrontOf compact i content.rest (said_first p) front) (sym (eqb-true id wanted t))
        (front_made compact wanted content.rest x.left.input.rest k.rest x.left.count k.number (seen_at view a_at) like (said_first p) front are (counted content x e) finds like_id says-first k.among read)

-- a piece without items
bare : {A : Type 0} (compact : Bool) (id : ℕ) (content : Input) (read : Option A) (piece : A → Piece) → ((x : A) → items_of (piece x) ≡ None) → Fronts compact id content (read >>= λ x. Some (piece x))
bare compact id content read piece is p items front e has h =
    let x = bind_some read (λ x. Some (piece x)) p e in
    let w = sym (is x.0) ∙ ap items_of (some_is (piece x.0) p x.2) ∙ has in absurd cc

unknown : (compact : Bool) (id : ℕ) (content : Input) → Fronts compact id content (Some (Unknown id content.rest (whole_of content)))
unfolding items_of
unknown compact id content p items front e has h = let w = ap items_of (some_is (Unknown id content.rest (whole_of content)) p e) ∙ has in absurd cc

-- ---- any content

-- one id, and the others
step : (compact : Bool) (id : ℕ) (content : Input) (t : Bool) (a b : Option Piece) → (t ≡ true → Fronts compact id content a) → Fronts compact id content b → Fronts compact id content (cond t a b)
step compact id content true a b h k = h refl
step compact id content false a b h k = k

pub content_front : (id : ℕ) (content : Input) → AreBytes content.rest → Fronts (has content.features CompactImports) id content (piece_of id content)
unfolding piece_of items_of said_first
content_front id content are =
    let c = has content.features CompactImports in
    step c id content (eqb id 0) _ _ (λ t. bare c id content _ (λ x. Custom x) (λ x. refl)) (
    step c id content (eqb id 1) _ _ (λ t. items_front c id 1 content IsRecGroup rec_group_at (λ x. OfType x) type_entry_at [] (syntax.TypeSection []) (λ x. Types x) are t reads_rec_group (λ bytes a h. (refl, h)) refl refl (λ x. refl) (λ x. refl) refl) (
    step c id content (eqb id 2) _ _ (λ t. items_front c id 2 content (IsImport c) (import_at c) (λ x. OfImport x) import_entry_at [] (syntax.ImportSection []) (λ x. Imports x) are t (reads_import c) (λ bytes a h. (refl, h)) refl refl (λ x. refl) (λ x. refl) refl) (
    step c id content (eqb id 3) _ _ (λ t. items_front c id 3 content IsU32 (unsigned_at 32) (λ x. OfFunction x) function_entry_at [] (syntax.FunctionSection []) (λ x. Functions x) are t (reads_unsigned 32) (λ bytes a h. (refl, h)) refl refl (λ x. refl) (λ x. refl) refl) (
    step c id content (eqb id 4) _ _ (λ t. items_front c id 4 content IsTable table_at (λ x. OfTable x) table_entry_at [] (syntax.TableSection []) (λ x. Tables x) are t reads_table (λ bytes a h. (refl, h)) refl refl (λ x. refl) (λ x. refl) refl) (
    step c id content (eqb id 5) _ _ (λ t. items_front c id 5 content IsMemoryType limits_at (λ x. OfMemory x) memory_entry_at [] (syntax.MemorySection []) (λ x. Memories x) are t reads_limits (λ bytes a h. (refl, h)) refl refl (λ x. refl) (λ x. refl) refl) (
    step c id content (eqb id 6) _ _ (λ t. items_front c id 6 content IsGlobal global_at (λ x. OfGlobal x) global_entry_at [] (syntax.GlobalSection []) (λ x. Globals x) are t reads_global (λ bytes a h. (refl, h)) refl refl (λ x. refl) (λ x. refl) refl) (
    step c id content (eqb id 7) _ _ (λ t. items_front c id 7 content IsExport export_at (λ x. OfExport x) export_entry_at [] (syntax.ExportSection []) (λ x. Exports x) are t reads_export (λ bytes a h. (refl, h)) refl refl (λ x. refl) (λ x. refl) refl) (
    step c id content (eqb id 8) _ _ (λ t. bare c id content _ (λ n. Start n _) (λ x. refl)) (
    step c id content (eqb id 9) _ _ (λ t. items_front c id 9 content IsElementSegment element_at (λ x. OfElement x) element_entry_at [] (syntax.ElementSection []) (λ x. Elements x) are t reads_element (λ bytes a h. (refl, h)) refl refl (λ x. refl) (λ x. refl) refl) (
    step c id content (eqb id 10) _ _ (λ t. bare c id content _ (λ x. CodeStart _ _ _) (λ x. refl)) (
    step c id content (eqb id 11) _ _ (λ t. items_front c id 11 content IsDataSegment data_at (λ x. OfData x) data_entry_at [] (syntax.DataSection []) (λ x. Segments x) are t reads_data (λ bytes a h. (refl, h)) refl refl (λ x. refl) (λ x. refl) refl) (
    step c id content (eqb id 12) _ _ (λ t. bare c id content _ (λ n. DataCount n _) (λ x. refl)) (
    step c id content (eqb id 13) _ _ (λ t. items_front c id 13 content IsTagType tag_type_at (λ x. OfTag x) tag_entry_at (OfTags ∷ []) (syntax.TagSection []) (λ x. Tags x) are t reads_tag_type (λ bytes a h. (refl, h)) refl refl (λ x. refl) (λ x. refl) refl) (
    unknown c id content))))))))))))))
