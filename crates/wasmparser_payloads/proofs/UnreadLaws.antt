-- Where a piece is refused, or its items don't read, the bytes are no module.
use Rattle.std.proofs.Common.{◌≡◌, ℕ, zero, suc, Bool, true, false, cond, eqb, List, [], ◌∷◌, ◌++◌, length, Option, Some, None, refl, sym, ap, subst, ◌∙◌}
use Rattle.std.specs.Prelude.{⊤, map, option_map}
use Rattle.wasm_spec.specs.Bytes.{AreBytes}
use Rattle.wasm_spec.specs.Features.{Features, CompactImports, has}
use Rattle.wasm_spec.specs.Grammar.{IsModule}
use Rattle.wasm_spec.specs.Syntax as syntax
use Rattle.wasm_spec.specs.Syntax.{Section}
use Rattle.wasm_core_read.specs.Input.{Input}
use Rattle.wasm_core_read.specs.PartReading.{import_at, table_at, global_at, export_at, element_at, data_at}
use Rattle.wasm_core_read.specs.Reading.{◌>>=◌, ReadingOf, seen_at, unsigned_at, filled}
use Rattle.wasm_core_read.specs.TypeReading.{items_at, rec_group_at, limits_at, tag_type_at}
use Rattle.wasm_core_read.proofs.Forms.{bind_some, some_is}
use Rattle.wasm_validity.specs.Entries.{Entry, OfType, OfImport, OfFunction, OfTable, OfMemory, OfTags, OfTag, OfGlobal, OfExport, OfElement, OfData}
use Rattle.wasmparser_payloads.specs.PieceEntries.{items_of, said_first, entries_said, Reaches, Begun, Further, IsUnread, no_piece, no_items}
use Rattle.wasmparser_payloads.proofs.Steps.{IsStep, is_header, is_body, is_section, is_end, step_of}
use Rattle.wasmparser_payloads.specs.declared.payloads.Stage.{Stage}
use Rattle.wasmparser_payloads.specs.declared.payloads.Stage.TheVariants.{Header, Parts, Done}
use Rattle.wasmparser_payloads.specs.Modules.{pieces_from, pieces_of, Gathered, add_section, add_items, add_piece, gathered, where_counted, sections_in}
use Rattle.wasmparser_payloads.specs.Parsing.{Settings, whole_module}
use Rattle.wasmparser_payloads.specs.Pieces.{Piece, Types, Imports, Functions, Tables, Memories, Tags, Globals, Exports, Start, Elements, DataCount, CodeStart, Body, Segments, Custom, Unknown, End, Version, Remains, framed, piece_of, next_piece}
use Rattle.wasmparser_payloads.proofs.ModuleLaws.{module_exactly}
use Rattle.wasmparser_readers.specs.Sections.{Left, Limited, limited_of, left_items}

-- ---- items as entries

abbrev seen : {A B : Type 0} → (A → B) → Option (List A × List ℕ) → Option (List B × List ℕ)
seen view read = read >>= λ x. Some (map view x.0, x.1)

abbrev item_seen : {A B : Type 0} → (A → B) → A × List ℕ → Option (B × List ℕ)
item_seen view a = Some (view a.0, a.1)

abbrev with_first : {A : Type 0} → A → List A × List ℕ → Option (List A × List ℕ)
with_first a others = Some (a ∷ others.0, others.1)

pub items_seen : {A B : Type 0} (view : A → B) (a_at : ReadingOf A) (n : ℕ) (bytes : List ℕ) → items_at (seen_at view a_at) n bytes ≡ seen view (items_at a_at n bytes)
unfolding items_at
items_seen view a_at zero bytes = refl
items_seen {A} {B} view a_at (suc n) bytes = by_first (items_seen view a_at n) (a_at bytes)
  where
    by_others : (a : A) (read : Option (List A × List ℕ)) → (seen view read >>= with_first (view a)) ≡ seen view (read >>= with_first a)
    by_others a None = refl
    by_others a (Some x) = refl

    by_first : ((bytes : List ℕ) → items_at (seen_at view a_at) n bytes ≡ seen view (items_at a_at n bytes)) → (first : Option (A × List ℕ))
        → ((first >>= item_seen view) >>= λ a. items_at (seen_at view a_at) n a.1 >>= with_first a.0) ≡ seen view (first >>= λ a. items_at a_at n a.1 >>= with_first a.0)
    by_first ih None = refl
    by_first ih (Some a) = ap (λ (r : Option (List B × List ℕ)). r >>= with_first (view a.0)) (ih a.1) ∙ by_others a.0 (items_at a_at n a.1)

filled_seen : {A B : Type 0} (view : A → B) (read : Option (List A × List ℕ)) → filled (seen view read) ≡ option_map (map view) (filled read)
filled_seen view None = refl
filled_seen view (Some (xs, [])) = refl
filled_seen view (Some (xs, b ∷ bs)) = refl

-- what is left of a section, as entries
pub left_seen : {A B : Type 0} (view : A → B) (a_at : ReadingOf A) (left : Left) → left_items (λ _. seen_at view a_at) left ≡ option_map (map view) (left_items (λ _. a_at) left)
unfolding left_items
left_seen view a_at left = ap filled (items_seen view a_at left.count left.input.rest) ∙ filled_seen view (items_at a_at left.count left.input.rest)

-- ---- pieces that say nothing

unread : {A : Type 0} (first : List Entry) (view : A → Entry) (a_at : ReadingOf A) (section : List A → Section) (items : Limited) (after : Gathered)
    → option_map (λ entries. first ++ entries) (left_items (λ _. seen_at view a_at) items.left) ≡ None → add_items a_at section items after ≡ None
unread {A} first view a_at section items after e = by_read (left_items (λ _. a_at) items.left) (ap (option_map (λ entries. first ++ entries)) (sym (left_seen view a_at items.left)) ∙ e)
  where
    by_read : (read : Option (List A)) → option_map (λ entries. first ++ entries) (option_map (map view) read) ≡ None → (read >>= λ xs. add_section after (section xs)) ≡ None
    by_read None h = refl
    by_read (Some xs) h = absurd cc

-- the features under which the imports of a piece are read
abbrev pub HasFeatures : Features → Piece → Type 0
HasFeatures features (Imports items) = items.left.input.features ≡ features
HasFeatures features _ = ⊤

says_nothing : (features : Features) (piece : Piece) (after : Gathered) → HasFeatures features piece → entries_said piece ≡ None → add_piece (has features CompactImports) piece after ≡ None
unfolding entries_said items_of said_first left_items
says_nothing features (Types items) after h e = unread [] (λ x. OfType x) rec_group_at (λ xs. syntax.TypeSection xs) items after e
says_nothing features (Imports items) after h e =
    subst (λ (f : Features). add_items (import_at (has f CompactImports)) (λ xs. syntax.ImportSection xs) items after ≡ None) h
    (unread [] (λ x. OfImport x) (import_at (has items.left.input.features CompactImports)) (λ xs. syntax.ImportSection xs) items after e)
says_nothing features (Functions items) after h e = unread [] (λ x. OfFunction x) (unsigned_at 32) (λ xs. syntax.FunctionSection xs) items after e
says_nothing features (Tables items) after h e = unread [] (λ x. OfTable x) table_at (λ xs. syntax.TableSection xs) items after e
says_nothing features (Memories items) after h e = unread [] (λ x. OfMemory x) limits_at (λ xs. syntax.MemorySection xs) items after e
says_nothing features (Tags items) after h e = unread (OfTags ∷ []) (λ x. OfTag x) tag_type_at (λ xs. syntax.TagSection xs) items after e
says_nothing features (Globals items) after h e = unread [] (λ x. OfGlobal x) global_at (λ xs. syntax.GlobalSection xs) items after e
says_nothing features (Exports items) after h e = unread [] (λ x. OfExport x) export_at (λ xs. syntax.ExportSection xs) items after e
says_nothing features (Elements items) after h e = unread [] (λ x. OfElement x) element_at (λ xs. syntax.ElementSection xs) items after e
says_nothing features (Segments items) after h e = unread [] (λ x. OfData x) data_at (λ xs. syntax.DataSection xs) items after e
says_nothing features (Unknown id contents place) after h e = refl
says_nothing features (Version num place) after h e = absurd cc
says_nothing features (Start function place) after h e = absurd cc
says_nothing features (DataCount count place) after h e = absurd cc
says_nothing features (CodeStart count place size) after h e = absurd cc
says_nothing features (Body body) after h e = absurd cc
says_nothing features (Custom section) after h e = absurd cc
says_nothing features (End place) after h e = absurd cc

-- ---- features

pub limited_features : (content : Input) (items : Limited) → limited_of content ≡ Some items → items.left.input.features ≡ content.features
unfolding limited_of
limited_features content items e =
    let n = bind_some (unsigned_at 32 content.rest) _ items e in
    sym (ap (λ (x : Limited). x.left.input.features) (some_is _ items n.2))

-- one id, and the others
has_step : (features : Features) (p : Piece) (t : Bool) (a b : Option Piece) → (a ≡ Some p → HasFeatures features p) → (b ≡ Some p → HasFeatures features p) → cond t a b ≡ Some p → HasFeatures features p
has_step features p true a b h k e = h e
has_step features p false a b h k e = k e

-- a piece that is no section of imports
plain : {A : Type 0} (features : Features) (p : Piece) (read : Option A) (piece : A → Piece) → ((x : A) → HasFeatures features (piece x)) → (read >>= λ x. Some (piece x)) ≡ Some p → HasFeatures features p
plain features p read piece h e = let x = bind_some read (λ x. Some (piece x)) p e in subst (HasFeatures features) (some_is (piece x.0) p x.2) (h x.0)

imports : (content : Input) (p : Piece) → (limited_of content >>= λ x. Some (Imports x)) ≡ Some p → HasFeatures content.features p
imports content p e =
    let x = bind_some (limited_of content) (λ x. Some (Imports x)) p e in
    subst (HasFeatures content.features) (some_is (Imports x.0) p x.2) (limited_features content x.0 x.1)

content_features : (id : ℕ) (content : Input) (p : Piece) → piece_of id content ≡ Some p → HasFeatures content.features p
unfolding piece_of
content_features id content p =
    let f = content.features in
    has_step f p (eqb id 0) _ _ (plain f p _ (λ x. Custom x) (λ x. tt)) (
    has_step f p (eqb id 1) _ _ (plain f p _ (λ x. Types x) (λ x. tt)) (
    has_step f p (eqb id 2) _ _ (imports content p) (
    has_step f p (eqb id 3) _ _ (plain f p _ (λ x. Functions x) (λ x. tt)) (
    has_step f p (eqb id 4) _ _ (plain f p _ (λ x. Tables x) (λ x. tt)) (
    has_step f p (eqb id 5) _ _ (plain f p _ (λ x. Memories x) (λ x. tt)) (
    has_step f p (eqb id 6) _ _ (plain f p _ (λ x. Globals x) (λ x. tt)) (
    has_step f p (eqb id 7) _ _ (plain f p _ (λ x. Exports x) (λ x. tt)) (
    has_step f p (eqb id 8) _ _ (plain f p _ (λ n. Start n _) (λ x. tt)) (
    has_step f p (eqb id 9) _ _ (plain f p _ (λ x. Elements x) (λ x. tt)) (
    has_step f p (eqb id 10) _ _ (plain f p _ (λ x. CodeStart _ _ _) (λ x. tt)) (
    has_step f p (eqb id 11) _ _ (plain f p _ (λ x. Segments x) (λ x. tt)) (
    has_step f p (eqb id 12) _ _ (plain f p _ (λ n. DataCount n _) (λ x. tt)) (
    has_step f p (eqb id 13) _ _ (plain f p _ (λ x. Tags x) (λ x. tt)) (
    λ e. subst (HasFeatures f) (some_is _ p e) tt))))))))))))))

pub step_features : (s : Remains) (p : Piece) (new : Remains) → IsStep s p new → HasFeatures s.input.features p × (new.input.features ≡ s.input.features)
step_features s p new (is_header num place rest stage begins is leaves) = (subst (HasFeatures s.input.features) (sym is) tt, ap (λ (x : Remains). x.input.features) leaves)
step_features s p new (is_body others body rest stage count reads is leaves) = (subst (HasFeatures s.input.features) (sym is) tt, ap (λ (x : Remains). x.input.features) leaves)
step_features s p new (is_section f stage count ended frame after reads leaves) = (content_features f.0.0 (framed s.input f).content p reads, ap (λ (x : Remains). x.input.features) leaves)
step_features s p new (is_end place stage count ended rest is leaves) = (subst (HasFeatures s.input.features) (sym is) tt, ap (λ (x : Remains). x.input.features) leaves)

pub reached_features : {start now : Remains} {entries : List Entry} → Reaches start entries now → now.input.features ≡ start.input.features
reached_features Begun = refl
reached_features (Further {now = now} piece said {next = next} r e s) = (step_features now piece next (step_of now piece next e)).1 ∙ reached_features r

-- ---- nothing is gathered

abbrev IsLost : Bool → Remains → Type 0
IsLost compact s = (fuel : ℕ) → (pieces_from s.stage fuel s >>= gathered compact) ≡ None

after_piece : (compact : Bool) (p : Piece) (read : Option (List Piece)) → ((read >>= λ others. Some (p ∷ others)) >>= gathered compact) ≡ ((read >>= gathered compact) >>= add_piece compact p)
unfolding gathered
after_piece compact p None = refl
after_piece compact p (Some others) = refl

-- where nothing is gathered after a piece, or the piece adds nothing to it, nothing is gathered from it on
lost_before : (compact : Bool) (s new : Remains) (p : Piece) → next_piece s ≡ Some (p, new) → ((fuel : ℕ) → ((pieces_from new.stage fuel new >>= gathered compact) >>= add_piece compact p) ≡ None) → IsLost compact s
unfolding pieces_from
lost_before compact s new p e h fuel = by_stage s.stage fuel refl
  where
    again : (fuel : ℕ) → ((next_piece s >>= λ x. pieces_from x.1.stage fuel x.1 >>= λ others. Some (x.0 ∷ others)) >>= gathered compact) ≡ None
    again fuel = rw e (after_piece compact p (pieces_from new.stage fuel new) ∙ h fuel)

    done : (read : IsStep s p new) → s.stage ≡ Done → ⊥
    done (is_header num place rest stage begins is leaves) t = let w = sym stage ∙ t in absurd cc
    done (is_body others body rest stage count reads is leaves) t = let w = sym stage ∙ t in absurd cc
    done (is_section f stage count ended frame after reads leaves) t = let w = sym stage ∙ t in absurd cc
    done (is_end place stage count ended rest is leaves) t = let w = sym stage ∙ t in absurd cc

    by_stage : (stage : Stage) (fuel : ℕ) → s.stage ≡ stage → (pieces_from stage fuel s >>= gathered compact) ≡ None
    by_stage Header zero t = refl
    by_stage Header (suc fuel) t = again fuel
    by_stage Parts zero t = refl
    by_stage Parts (suc fuel) t = again fuel
    by_stage Done fuel t = absurd (done (step_of s p new e) t)

refused : (compact : Bool) (s : Remains) → ¬ (s.stage ≡ Done) → next_piece s ≡ None → IsLost compact s
unfolding pieces_from
refused compact s going e fuel = by_stage s.stage fuel refl
  where
    by_stage : (stage : Stage) (fuel : ℕ) → s.stage ≡ stage → (pieces_from stage fuel s >>= gathered compact) ≡ None
    by_stage Header zero t = refl
    by_stage Header (suc fuel) t = rw e refl
    by_stage Parts zero t = refl
    by_stage Parts (suc fuel) t = rw e refl
    by_stage Done fuel t = absurd (going t)

lost_first : (compact : Bool) {start now : Remains} {entries : List Entry} → Reaches start entries now → IsLost compact now → IsLost compact start
lost_first compact Begun h = h
lost_first compact (Further {now = now} piece said {next = next} r e s) h = lost_first compact r (lost_before compact now next piece e (λ fuel. rw (h fuel) refl))

nothing_added : (compact : Bool) (p : Piece) (read : Option Gathered) → ((after : Gathered) → add_piece compact p after ≡ None) → (read >>= add_piece compact p) ≡ None
nothing_added compact p None h = refl
nothing_added compact p (Some after) h = h after

lost : {start : Remains} → IsUnread start → IsLost (has start.input.features CompactImports) start
lost {start} (no_piece {now = now} r going e) = lost_first (has start.input.features CompactImports) r (refused (has start.input.features CompactImports) now going e)
lost {start} (no_items {now = now} piece {next = next} r e none) =
    let f = start.input.features in
    let features : HasFeatures f piece = subst (λ (g : Features). HasFeatures g piece) (reached_features r) (step_features now piece next (step_of now piece next e)).0 in
    lost_first (has f CompactImports) r (lost_before (has f CompactImports) now next piece e (λ fuel. nothing_added (has f CompactImports) piece _ (λ after. says_nothing f piece after features none)))

pub unread_is_none : (settings : Settings) (bytes : List ℕ) → AreBytes bytes → IsUnread (whole_module settings bytes) → (sections : List Section) → ¬ (IsModule (has settings.features CompactImports) bytes sections)
unread_is_none settings bytes are u sections m =
    let given = (module_exactly settings (has settings.features CompactImports) bytes sections are).0 m in
    by_pieces (pieces_of settings bytes) (lost u (suc (length bytes))) given
  where
    by_gathered : (read : Option Gathered) → read ≡ None → ¬ ((read >>= λ x. where_counted x.1) ≡ Some sections)
    by_gathered None e h = absurd cc
    by_gathered (Some x) e h = absurd cc

    by_pieces : (read : Option (List Piece)) → (read >>= gathered (has settings.features CompactImports)) ≡ None → ¬ ((read >>= sections_in (has settings.features CompactImports)) ≡ Some sections)
    by_pieces None e h = absurd cc
    by_pieces (Some pieces) e h = absurd (by_gathered (gathered (has settings.features CompactImports) pieces) e h)
