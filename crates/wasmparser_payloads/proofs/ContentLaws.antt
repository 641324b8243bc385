-- The first piece of a section, and its bodies, are its content.
use Rattle.std.proofs.Common.{◌≡◌, ℕ, ◌-◌, Bool, true, false, cond, eqb, List, length, Option, Some, None, refl, sym, ap, ◌∙◌}
use Rattle.wasm_core_read.specs.Input.{Input, end}
use Rattle.wasm_core_read.specs.ModuleReading.{content_of}
use Rattle.wasm_core_read.specs.PartReading.{body_at, import_at, table_at, global_at, export_at, element_at, data_at}
use Rattle.wasm_core_read.specs.Reading.{◌>>=◌, ReadingOf, unsigned_at, name_at, filled}
use Rattle.wasm_core_read.specs.TypeReading.{items_at, list_at, rec_group_at, limits_at, tag_type_at}
use Rattle.wasm_spec.specs.Syntax as syntax
use Rattle.wasm_spec.specs.Syntax.{Section}
use Rattle.wasmparser_readers.specs.Sections.{Left, Limited, limited_of, left_items}
use Rattle.wasmparser_readers.proofs.SectionLaws.{section_begins}
use Rattle.wasmparser_payloads.specs.Modules.{Gathered, add_section, add_items, add_piece}
use Rattle.wasmparser_payloads.specs.Pieces.{Piece, Types, Imports, Functions, Tables, Memories, Tags, Globals, Exports, Start, Elements, DataCount, Segments, Custom, Named, whole_of, number_of, named_of, code_start, bodies_in, bodies_after, piece_of}

-- ---- one content

abbrev pub with_piece : Bool → Gathered → Option Piece → Option Gathered
with_piece compact after read = read >>= λ p. add_piece compact p after

abbrev pub with_section : Gathered → Option Section → Option Gathered
with_section after read = read >>= add_section after

abbrev started : Input → ℕ × List ℕ → Option Limited
started i n = Some (record { start = i.position; left = record { count = n.0; input = record i { rest = n.1; position = end i - length n.1 } } })

abbrev name_and_data : Input → List ℕ × List ℕ → Option Named
name_and_data content x = Some (record { start = content.position; name = x.0; contents = x.1; contents_start = end content - length x.1 })

no_items : {A : Type 0} (a_at : ReadingOf A) (i : Input) → limited_of i ≡ None → filled (list_at a_at i.rest) ≡ None
unfolding limited_of list_at
no_items {A} a_at i e = by_count (unsigned_at 32 i.rest) e
  where
    by_count : (read : Option (ℕ × List ℕ)) → (read >>= started i) ≡ None
        → filled (read >>= λ n. items_at a_at n.0 n.1) ≡ None
    by_count None h = refl
    by_count (Some n) h = absurd cc

-- a section of items
items : {A : Type 0} (compact : Bool) (after : Gathered) (a_at : ReadingOf A) (piece : Limited → Piece) (section : List A → Section) (content : Input)
    → ((x : Limited) → add_piece compact (piece x) after ≡ add_items a_at section x after)
    → with_piece compact after (limited_of content >>= λ x. Some (piece x)) ≡ with_section after (filled (list_at a_at content.rest) >>= λ xs. Some (section xs))
items {A} compact after a_at piece section content is = by_read (limited_of content) refl
  where
    by_items : (read : Option (List A)) → (read >>= λ xs. add_section after (section xs)) ≡ with_section after (read >>= λ xs. Some (section xs))
    by_items None = refl
    by_items (Some xs) = refl

    by_read : (read : Option Limited) → limited_of content ≡ read
        → with_piece compact after (read >>= λ x. Some (piece x)) ≡ with_section after (filled (list_at a_at content.rest) >>= λ xs. Some (section xs))
    by_read None e = rw (no_items a_at content e) refl
    by_read (Some x) e =
        is x ∙ by_items (left_items (λ _. a_at) x.left)
        ∙ ap (λ (read : Option (List A)). with_section after (read >>= λ xs. Some (section xs))) (section_begins (λ _. a_at) content x e)

-- a number that fills its content
number : (compact : Bool) (after : Gathered) (piece : ℕ → Piece) (section : ℕ → Section) (content : Input) → ((n : ℕ) → add_piece compact (piece n) after ≡ add_section after (section n))
    → with_piece compact after (number_of content >>= λ n. Some (piece n)) ≡ with_section after (filled (unsigned_at 32 content.rest) >>= λ n. Some (section n))
unfolding number_of
number compact after piece section content is = by_read (filled (unsigned_at 32 content.rest))
  where
    by_read : (read : Option ℕ) → with_piece compact after (read >>= λ n. Some (piece n)) ≡ with_section after (read >>= λ n. Some (section n))
    by_read None = refl
    by_read (Some n) = is n

-- a name, and any bytes
named : (compact : Bool) (after : Gathered) (content : Input)
    → with_piece compact after (named_of content >>= λ x. Some (Custom x)) ≡ with_section after (name_at content.rest >>= λ name. Some (syntax.Custom name.0 name.1))
unfolding named_of
named compact after content = by_read (name_at content.rest)
  where
    by_read : (read : Option (List ℕ × List ℕ))
        → with_piece compact after ((read >>= name_and_data content) >>= λ x. Some (Custom x))
        ≡ with_section after (read >>= λ name. Some (syntax.Custom name.0 name.1))
    by_read None = refl
    by_read (Some x) = refl

-- bodies, which are gathered after their count
code : (compact : Bool) (sections : List Section) (before : Left) (content : Input) (bodies : List (List ℕ)) → left_items (λ _. body_at) (bodies_in before (limited_of content)) ≡ Some bodies
    → with_piece compact (bodies, sections) (limited_of content >>= λ x. Some (code_start content x)) ≡ with_section (bodies, sections) (filled (list_at body_at content.rest) >>= λ xs. Some (syntax.CodeSection xs))
code compact sections before content bodies h = by_read (limited_of content) refl h
  where
    by_read : (read : Option Limited) → limited_of content ≡ read → left_items (λ _. body_at) (bodies_in before read) ≡ Some bodies
        → with_piece compact (bodies, sections) (read >>= λ x. Some (code_start content x)) ≡ with_section (bodies, sections) (filled (list_at body_at content.rest) >>= λ xs. Some (syntax.CodeSection xs))
    by_read None e k = rw (no_items body_at content e) refl
    by_read (Some x) e k =
        let all : filled (list_at body_at content.rest) ≡ Some bodies = sym (section_begins (λ _. body_at) content x e) ∙ k in
        rw all refl

-- ---- any content

-- one id, and the others
step : (compact : Bool) (after : Gathered) (t : Bool) (p q : Option Piece) (s r : Option Section) → (t ≡ true → with_piece compact after p ≡ with_section after s) → (t ≡ false → with_piece compact after q ≡ with_section after r)
    → with_piece compact after (cond t p q) ≡ with_section after (cond t s r)
step compact after true p q s r h k = h refl
step compact after false p q s r h k = k refl

pub content_is : (compact : Bool) (sections : List Section) (before : Left) (id : ℕ) (content : Input) (bodies : List (List ℕ)) → left_items (λ _. body_at) (bodies_after before id content) ≡ Some bodies
    → with_piece compact (bodies, sections) (piece_of id content) ≡ with_section (bodies, sections) (content_of compact id content.rest)
unfolding piece_of content_of bodies_after
content_is compact sections before id content bodies h =
    let after : Gathered = (bodies, sections) in
    step compact after (eqb id 0) _ _ _ _ (λ t. named compact after content) (λ f.
    step compact after (eqb id 1) _ _ _ _ (λ t. items compact after rec_group_at (λ x. Types x) (λ xs. syntax.TypeSection xs) content (λ x. refl)) (λ f.
    step compact after (eqb id 2) _ _ _ _ (λ t. items compact after (import_at compact) (λ x. Imports x) (λ xs. syntax.ImportSection xs) content (λ x. refl)) (λ f.
    step compact after (eqb id 3) _ _ _ _ (λ t. items compact after (unsigned_at 32) (λ x. Functions x) (λ xs. syntax.FunctionSection xs) content (λ x. refl)) (λ f.
    step compact after (eqb id 4) _ _ _ _ (λ t. items compact after table_at (λ x. Tables x) (λ xs. syntax.TableSection xs) content (λ x. refl)) (λ f.
    step compact after (eqb id 5) _ _ _ _ (λ t. items compact after limits_at (λ x. Memories x) (λ xs. syntax.MemorySection xs) content (λ x. refl)) (λ f.
    step compact after (eqb id 6) _ _ _ _ (λ t. items compact after global_at (λ x. Globals x) (λ xs. syntax.GlobalSection xs) content (λ x. refl)) (λ f.
    step compact after (eqb id 7) _ _ _ _ (λ t. items compact after export_at (λ x. Exports x) (λ xs. syntax.ExportSection xs) content (λ x. refl)) (λ f.
    step compact after (eqb id 8) _ _ _ _ (λ t. number compact after (λ n. Start n (whole_of content)) (λ n. syntax.StartSection n) content (λ n. refl)) (λ f.
    step compact after (eqb id 9) _ _ _ _ (λ t. items compact after element_at (λ x. Elements x) (λ xs. syntax.ElementSection xs) content (λ x. refl)) (λ f.
    step compact after (eqb id 10) _ _ _ _ (λ t. code compact sections before content bodies (rw t at h)) (λ f.
    step compact after (eqb id 11) _ _ _ _ (λ t. items compact after data_at (λ x. Segments x) (λ xs. syntax.DataSection xs) content (λ x. refl)) (λ f.
    step compact after (eqb id 12) _ _ _ _ (λ t. number compact after (λ n. DataCount n (whole_of content)) (λ n. syntax.DataCountSection n) content (λ n. refl)) (λ f.
    step compact after (eqb id 13) _ _ _ _ (λ t. items compact after tag_type_at (λ x. Tags x) (λ xs. syntax.TagSection xs) content (λ x. refl)) (λ f. refl))))))))))))))
