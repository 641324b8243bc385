-- What the first piece of a section says is what its content says.
use Rattle.std.proofs.Common.{◌≡◌, ℕ, ◌-◌, Bool, true, false, cond, eqb, List, [], ◌∷◌, ◌++◌, length, Option, Some, None, refl, sym, ap, ◌∙◌}
use Rattle.std.specs.Prelude.{map, option_map}
use Rattle.std.proofs.lemmas.Bool.{eqb-true}
use Rattle.wasm_spec.specs.Features.{CompactImports, has}
use Rattle.wasm_spec.specs.Syntax as syntax
use Rattle.wasm_spec.specs.Syntax.{Section}
use Rattle.wasm_core_read.specs.Input.{Input, end}
use Rattle.wasm_core_read.specs.ModuleReading.{content_of}
use Rattle.wasm_core_read.specs.PartReading.{import_at, table_at, global_at, export_at, element_at, data_at}
use Rattle.wasm_core_read.specs.Reading.{◌>>=◌, ReadingOf, seen_at, unsigned_at, name_at, filled}
use Rattle.wasm_core_read.specs.TypeReading.{list_at, rec_group_at, limits_at, tag_type_at}
use Rattle.wasm_core_read.proofs.Forms.{bind_some, some_is}
use Rattle.wasm_validity.specs.Entries.{Entry, OfType, OfImport, OfFunction, OfTable, OfMemory, OfTags, OfTag, OfGlobal, OfExport, OfElement, OfData, entries_in}
use Rattle.wasmparser_payloads.specs.PieceEntries.{items_of, said_first, entries_said}
use Rattle.wasmparser_payloads.proofs.UnreadLaws.{left_seen, limited_features}
use Rattle.wasmparser_payloads.specs.Pieces.{Piece, Types, Imports, Functions, Tables, Memories, Tags, Globals, Exports, Start, Elements, DataCount, Segments, Custom, Unknown, whole_of, number_of, named_of, code_start, piece_of}
use Rattle.wasmparser_readers.specs.Sections.{Limited, limited_of, left_items}
use Rattle.wasmparser_readers.proofs.SectionLaws.{section_begins}

-- a section was read, which says this
abbrev pub Says : Option Section → List Entry → Type 0
Says read said = (section : Section) × (read ≡ Some section) × (said ≡ entries_in section)

-- what the piece says, the section says
abbrev Agrees : Option Piece → Option Section → Type 0
Agrees piece section = (p : Piece) (said : List Entry) → piece ≡ Some p → entries_said p ≡ Some said → Says section said

-- items of a section, as entries
items : {A : Type 0} (first : List Entry) (view : A → Entry) (a_at : ReadingOf A) (piece : Limited → Piece) (section : List A → Section) (content : Input)
    → ((x : Limited) → limited_of content ≡ Some x → entries_said (piece x) ≡ option_map (λ entries. first ++ entries) (left_items (λ _. seen_at view a_at) x.left))
    → ((xs : List A) → entries_in (section xs) ≡ first ++ map view xs)
    → Agrees (limited_of content >>= λ x. Some (piece x)) (filled (list_at a_at content.rest) >>= λ xs. Some (section xs))
items {A} first view a_at piece section content is says p said e s =
    let x = bind_some (limited_of content) (λ x. Some (piece x)) p e in
    let h : option_map (λ entries. first ++ entries) (option_map (map view) (left_items (λ _. a_at) x.0.left)) ≡ Some said =
    ap (option_map (λ entries. first ++ entries)) (sym (left_seen view a_at x.0.left)) ∙ sym (is x.0 x.1) ∙ ap entries_said (some_is (piece x.0) p x.2) ∙ s in
    by_read (left_items (λ _. a_at) x.0.left) (section_begins (λ _. a_at) content x.0 x.1) h
  where
    by_read : (read : Option (List A)) → read ≡ filled (list_at a_at content.rest) → option_map (λ entries. first ++ entries) (option_map (map view) read) ≡ Some said
        → Says (filled (list_at a_at content.rest) >>= λ xs. Some (section xs)) said
    by_read None r h = absurd cc
    by_read (Some xs) r h = (section xs, rw (← r) refl, sym (some_is (first ++ map view xs) said h) ∙ sym (says xs))

number : (piece : ℕ → Piece) (section : ℕ → Section) (content : Input) → ((n : ℕ) → entries_said (piece n) ≡ Some (entries_in (section n)))
    → Agrees (number_of content >>= λ n. Some (piece n)) (filled (unsigned_at 32 content.rest) >>= λ n. Some (section n))
unfolding number_of
number piece section content is p said e s =
    let n = bind_some (filled (unsigned_at 32 content.rest)) (λ n. Some (piece n)) p e in
    (section n.0, ap (λ (r : Option ℕ). r >>= λ n. Some (section n)) n.1, sym (some_is (entries_in (section n.0)) said (sym (is n.0) ∙ ap entries_said (some_is (piece n.0) p n.2) ∙ s)))

named : (content : Input) → Agrees (named_of content >>= λ x. Some (Custom x)) (name_at content.rest >>= λ name. Some (syntax.Custom name.0 name.1))
unfolding named_of entries_said items_of said_first
named content p said e s =
    let x = bind_some (named_of content) (λ x. Some (Custom x)) p e in
    let n = bind_some (name_at content.rest) (λ x. Some (record { start = content.position; name = x.0; contents = x.1; contents_start = end content - length x.1 })) x.0 x.1 in
    let name : n.0.0 ≡ x.0.name = ap (λ y. y.name) (some_is _ x.0 n.2) in
    (syntax.Custom n.0.0 n.0.1, ap (λ (r : Option (List ℕ × List ℕ)). r >>= λ name. Some (syntax.Custom name.0 name.1)) n.1, sym (some_is (entries_in (syntax.Custom n.0.0 n.0.1)) said (ap (λ (l : List ℕ). Some (entries_in (syntax.Custom l n.0.1))) name ∙ ap entries_said (some_is (Custom x.0) p x.2) ∙ s)))

unknown : (id : ℕ) (content : Input) → Agrees (Some (Unknown id content.rest (whole_of content))) None
unfolding entries_said
unknown id content p said e s = let w = ap entries_said (some_is (Unknown id content.rest (whole_of content)) p e) ∙ s in absurd cc

-- ---- any content

-- one id, and the others
step : (t : Bool) (p q : Option Piece) (s r : Option Section) → (t ≡ true → Agrees p s) → (t ≡ false → Agrees q r) → Agrees (cond t p q) (cond t s r)
step true p q s r h k = h refl
step false p q s r h k = k refl

-- the imports of a piece are read under its features
imports : (content : Input) → Agrees (limited_of content >>= λ x. Some (Imports x)) (filled (list_at (import_at (has content.features CompactImports)) content.rest) >>= λ xs. Some (syntax.ImportSection xs))
unfolding entries_said items_of said_first left_items
imports content = items [] (λ x. OfImport x) (import_at (has content.features CompactImports)) (λ x. Imports x) (λ xs. syntax.ImportSection xs) content (λ x e. rw (limited_features content x e) refl) (λ xs. refl)

pub content_says : (id : ℕ) (content : Input) → ¬ (id ≡ 10) → Agrees (piece_of id content) (content_of (has content.features CompactImports) id content.rest)
unfolding piece_of content_of entries_said items_of said_first left_items
content_says id content other =
    step (eqb id 0) _ _ _ _ (λ t. named content) (λ f.
    step (eqb id 1) _ _ _ _ (λ t. items [] (λ x. OfType x) rec_group_at (λ x. Types x) (λ xs. syntax.TypeSection xs) content (λ x e. refl) (λ xs. refl)) (λ f.
    step (eqb id 2) _ _ _ _ (λ t. imports content) (λ f.
    step (eqb id 3) _ _ _ _ (λ t. items [] (λ x. OfFunction x) (unsigned_at 32) (λ x. Functions x) (λ xs. syntax.FunctionSection xs) content (λ x e. refl) (λ xs. refl)) (λ f.
    step (eqb id 4) _ _ _ _ (λ t. items [] (λ x. OfTable x) table_at (λ x. Tables x) (λ xs. syntax.TableSection xs) content (λ x e. refl) (λ xs. refl)) (λ f.
    step (eqb id 5) _ _ _ _ (λ t. items [] (λ x. OfMemory x) limits_at (λ x. Memories x) (λ xs. syntax.MemorySection xs) content (λ x e. refl) (λ xs. refl)) (λ f.
    step (eqb id 6) _ _ _ _ (λ t. items [] (λ x. OfGlobal x) global_at (λ x. Globals x) (λ xs. syntax.GlobalSection xs) content (λ x e. refl) (λ xs. refl)) (λ f.
    step (eqb id 7) _ _ _ _ (λ t. items [] (λ x. OfExport x) export_at (λ x. Exports x) (λ xs. syntax.ExportSection xs) content (λ x e. refl) (λ xs. refl)) (λ f.
    step (eqb id 8) _ _ _ _ (λ t. number (λ n. Start n (whole_of content)) (λ n. syntax.StartSection n) content (λ n. refl)) (λ f.
    step (eqb id 9) _ _ _ _ (λ t. items [] (λ x. OfElement x) element_at (λ x. Elements x) (λ xs. syntax.ElementSection xs) content (λ x e. refl) (λ xs. refl)) (λ f.
    step (eqb id 10) _ _ _ _ (λ t. absurd (other (eqb-true id 10 t))) (λ f.
    step (eqb id 11) _ _ _ _ (λ t. items [] (λ x. OfData x) data_at (λ x. Segments x) (λ xs. syntax.DataSection xs) content (λ x e. refl) (λ xs. refl)) (λ f.
    step (eqb id 12) _ _ _ _ (λ t. number (λ n. DataCount n (whole_of content)) (λ n. syntax.DataCountSection n) content (λ n. refl)) (λ f.
    step (eqb id 13) _ _ _ _ (λ t. items (OfTags ∷ []) (λ x. OfTag x) tag_type_at (λ x. Tags x) (λ xs. syntax.TagSection xs) content (λ x e. refl) (λ xs. refl)) (λ f.
    unknown id content))))))))))))))

-- the piece that a code section begins with says nothing, and its content begins with a count
pub code_says : (id : ℕ) (content : Input) (p : Piece) (said : List Entry) → id ≡ 10 → piece_of id content ≡ Some p → entries_said p ≡ Some said
    → (said ≡ []) × (x : Limited) × (limited_of content ≡ Some x)
unfolding piece_of entries_said items_of said_first
code_says id content p said is e s =
    let h : (limited_of content >>= λ x. Some (code_start content x)) ≡ Some p = ap (λ (i : ℕ). piece_of i content) (sym is) ∙ e in
    let x = bind_some (limited_of content) (λ x. Some (code_start content x)) p h in
    (sym (some_is [] said (ap entries_said (some_is (code_start content x.0) p x.2) ∙ s)), x.0, x.1)
