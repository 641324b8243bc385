-- What the pieces of a module say as far as some point, its bytes say at their front.
use Rattle.std.proofs.Common.{◌≡◌, ◌<◌, ◌+◌, ℕ, suc, Bool, true, List, [], ◌∷◌, ◌++◌, length, Option, Some, None, refl, sym, ap, subst, ◌∙◌, append_assoc, length-append, arith, inl, inr, ◌⊎◌}
use Rattle.std.specs.Prelude.{map}
use Rattle.std.proofs.lemmas.List.{append-nil}
use Rattle.wasm_spec.specs.Bytes.{AreBytes, IsItems}
use Rattle.wasm_spec.specs.Features.{CompactImports, has}
use Rattle.wasm_spec.specs.Grammar.{place_of, ComesAfter}
use Rattle.wasm_spec.specs.ModuleParts.{IsBody}
use Rattle.wasm_spec.specs.Syntax.{CodeSection}
use Rattle.wasm_core_read.specs.Input.{Input}
use Rattle.wasm_core_read.specs.ModuleReading.{frame_at, is_after}
use Rattle.wasm_core_read.specs.TypeReading.{items_at}
use Rattle.wasm_validity.specs.Entries.{Entry, OfBody, IsItem}
use Rattle.wasm_validity.specs.Fronts.{BeginsWithItems, HasSections, HasItems, BeginsWith, complete, within, begun_by}
use Rattle.wasmparser_payloads.specs.PieceEntries.{Items, items_of, said_first, entries_said, Reaches, Further, ReachesFront, ReachesSaid, HasFront}
use Rattle.wasmparser_payloads.proofs.FrontItems.{FrontOf, content_front}
use Rattle.wasmparser_payloads.proofs.FrontParts.{Between, Within, Framed, frame_parts, after_comes, place_is}
use Rattle.wasmparser_payloads.proofs.FrontStates as states
use Rattle.wasmparser_payloads.proofs.FrontStates.{IsFront, completed, IsReached, nothing, some, reached, past_piece}
use Rattle.wasmparser_payloads.proofs.Steps.{IsStep, is_header, is_body, is_section, is_end, step_of, after_start}
use Rattle.wasmparser_payloads.proofs.UnreadLaws.{reached_features}
use Rattle.wasmparser_payloads.specs.declared.payloads.Stage.TheVariants.{Header, Parts}
use Rattle.wasmparser_payloads.specs.Parsing.{Settings, whole_module}
use Rattle.wasmparser_payloads.specs.Pieces.{Piece, Place, Version, Types, Imports, Functions, Tables, Memories, Tags, Globals, Exports, Start, Elements, DataCount, CodeStart, Body, Segments, Custom, Unknown, End, Remains, framed, place_of_id, next_piece}

-- ---- states

abbrev has_sections : (compact : Bool) (bytes : List ℕ) (last : ℕ) (rest : List ℕ) (entries : List Entry) → Between compact bytes last rest entries → HasSections compact bytes entries
has_sections compact bytes last rest entries b = record { sections = b.sections; front = b.front; rest = rest; begins = b.begins; holds = b.holds; ordered = b.ordered; say = b.say }

bodies_seen : (compact : Bool) (encoding : List ℕ) (bodies : List (List ℕ)) → IsItems IsBody encoding bodies → IsItems (IsItem compact 10) encoding (map (λ x. OfBody x) bodies)
bodies_seen compact encoding [] h = h
bodies_seen compact encoding (body ∷ bodies) h = (h.0, h.1, h.2, (refl, h.3), bodies_seen compact h.1 bodies h.4)

length_seen : (bodies : List (List ℕ)) → length (map (λ x. OfBody x) bodies) ≡ length bodies
length_seen [] = refl
length_seen (body ∷ bodies) = ap suc (length_seen bodies)

has_bodies : (compact : Bool) (bytes : List ℕ) (count : ℕ) (left rest : List ℕ) (entries : List Entry) → Within compact bytes count left rest entries → HasItems compact bytes entries
has_bodies compact bytes count left rest entries w = record {
  before = w.before;
  complete = has_sections compact bytes w.last w.code w.before w.outside;
  like = CodeSection [];
  comes_after = subst (λ (n : ℕ). n < 12) (sym w.outside.ends) w.comes_after;
  items = map (λ x. OfBody x) w.bodies;
  begun = record {
    stated = length w.bodies + count;
    size = length w.count_encoding + (length w.encoding + length left);
    size_encoding = w.size_encoding;
    count_encoding = w.count_encoding;
    encoding = w.encoding;
    rest = left ++ rest;
    begins = w.opens;
    sized = w.sized;
    inside = omega arith;
    framed = omega (arith, length-append left rest);
    counted = w.counted;
    among = omega (arith, length_seen w.bodies);
    holds = bodies_seen compact w.encoding w.bodies w.holds;
  };
  say = w.say;
}

front_begins : (compact : Bool) (bytes : List ℕ) (s : Remains) (entries : List Entry) → IsFront compact bytes s entries → BeginsWith compact bytes entries
front_begins compact bytes s entries (states.between going count ended b) = complete (has_sections compact bytes s.last s.input.rest entries b)
front_begins compact bytes s entries (states.within going last w) = within (has_bodies compact bytes s.bodies.count s.bodies.input.rest s.input.rest entries w)

-- ---- items at the front of a section

begun_items : (compact : Bool) (id : ℕ) (bytes content after : List ℕ) (first front : List Entry) → Framed bytes id content after → FrontOf compact id content first front → BeginsWithItems compact id bytes front
begun_items compact id bytes content after first front x f = record {
  stated = f.stated;
  size = length content;
  size_encoding = x.size_encoding;
  count_encoding = f.count_encoding;
  encoding = f.encoding;
  rest = f.rest ++ after;
  begins = x.parts ∙ ap (λ (l : List ℕ). id ∷ (x.size_encoding ++ l))
      (ap (λ (l : List ℕ). l ++ after) f.parts ∙ append_assoc f.count_encoding (f.encoding ++ f.rest) after ∙ ap (λ (l : List ℕ). f.count_encoding ++ l) (append_assoc f.encoding f.rest after));
  sized = x.sized;
  inside = omega (arith, ap length f.parts, length-append f.count_encoding (f.encoding ++ f.rest), length-append f.encoding f.rest);
  framed = omega (arith, ap length f.parts, length-append f.count_encoding (f.encoding ++ f.rest), length-append f.encoding f.rest, length-append f.rest after);
  counted = f.counted;
  among = f.among;
  holds = f.holds;
}

has_items : (compact : Bool) (bytes : List ℕ) (last : ℕ) (rest : List ℕ) (before first front : List Entry) (f : (ℕ × List ℕ) × List ℕ) → Between compact bytes last rest before
    → frame_at rest ≡ Some f → is_after last (place_of_id f.0.0) ≡ true → FrontOf compact f.0.0 f.0.1 first front → HasItems compact bytes (before ++ (first ++ front))
has_items compact bytes last rest before first front f b e after o =
    let place : place_of o.like ≡ place_of_id f.0.0 = place_is o.like ∙ ap place_of_id o.like_id in
    let comes : ComesAfter last (place_of o.like) = subst (ComesAfter last) (sym place) (after_comes last (place_of_id f.0.0) after) in
    let begun = begun_items compact f.0.0 rest f.0.1 f.1 first front (frame_parts rest f b.are e) o in
    record {
      before = before;
      complete = has_sections compact bytes last rest before b;
      like = o.like;
      comes_after = subst (λ (n : ℕ). ComesAfter n (place_of o.like)) (sym b.ends) comes;
      items = front;
      begun = subst (λ (i : ℕ). BeginsWithItems compact i rest front) (sym o.like_id) begun;
      say = ap (λ (l : List Entry). before ++ (l ++ front)) (o.is_first ∙ ap begun_by (sym o.like_id));
    }

no_items_of : (p q : Piece) (items : Items) → items_of q ≡ None → p ≡ q → items_of p ≡ Some items → ⊥
no_items_of p q items none same has = let w = sym none ∙ ap items_of (sym same) ∙ has in absurd cc

version_bare : (num : ℕ) (place : Place) → items_of (Version num place) ≡ None
unfolding items_of
version_bare num place = refl

body_bare : (body : Input) → items_of (Body body) ≡ None
unfolding items_of
body_bare body = refl

end_bare : (place : ℕ) → items_of (End place) ≡ None
unfolding items_of
end_bare place = refl

parts_apart : (settings : Settings) (bytes : List ℕ) (now : Remains) → now.stage ≡ Parts → now ≡ whole_module settings bytes → ⊥
parts_apart settings bytes now stage same = let w = sym stage ∙ ap (λ (x : Remains). x.stage) same in absurd cc

-- ---- what is reached

abbrev pub Says : Settings → List ℕ → List Entry → Type 0
Says settings bytes entries = BeginsWith (has settings.features CompactImports) bytes entries

pub reached_begins : (settings : Settings) (bytes : List ℕ) (entries : List Entry) (now : Remains) → AreBytes bytes → Reaches (whole_module settings bytes) entries now → ¬ (now.stage ≡ Header) → Says settings bytes entries
reached_begins settings bytes entries now are r going = by_state (reached settings bytes are r)
  where
    by_state : IsReached (has settings.features CompactImports) bytes (whole_module settings bytes) now entries → Says settings bytes entries
    by_state (nothing same none) = absurd (going (ap (λ (x : Remains). x.stage) same))
    by_state (some front) = front_begins (has settings.features CompactImports) bytes now entries front

-- items at the front of the next piece
items_begin : (settings : Settings) (bytes : List ℕ) (before : List Entry) (now : Remains) (p : Piece) (next : Remains) (items : Items) (front : List Entry) → AreBytes bytes → Reaches (whole_module settings bytes) before now
    → next_piece now ≡ Some (p, next) → items_of p ≡ Some items → HasFront items front → Says settings bytes (before ++ (said_first p ++ front))
items_begin settings bytes before now p next items front are r e has-items h = by_step (step_of now p next e) (reached settings bytes are r)
  where
    by_step : IsStep now p next → IsReached (has settings.features CompactImports) bytes (whole_module settings bytes) now before → Says settings bytes (before ++ (said_first p ++ front))
    by_step (is_header num place rest stage begins is leaves) o = absurd (no_items_of p (Version num place) items (version_bare num place) is has-items)
    by_step (is_body others body rest stage count reads is leaves) o = absurd (no_items_of p (Body _) items (body_bare _) is has-items)
    by_step (is_end place stage count ended rest is leaves) o = absurd (no_items_of p (End place) items (end_bare place) is has-items)
    by_step (is_section f stage count ended frame after reads leaves) (nothing same none) = absurd (parts_apart settings bytes now stage same)
    by_step (is_section f stage count ended frame after reads leaves) (some o) =
        let b = completed (has settings.features CompactImports) bytes now before o count ended in
        let are-content = (frame_parts now.input.rest f b.are frame).are in
        let read : FrontOf (has now.input.features CompactImports) f.0.0 f.0.1 (said_first p) front = content_front f.0.0 (framed now.input f).content are-content p items front reads has-items h in
        let of : FrontOf (has settings.features CompactImports) f.0.0 f.0.1 (said_first p) front = subst (λ g. FrontOf (has g CompactImports) f.0.0 f.0.1 (said_first p) front) (reached_features r) read in
        within (has_items (has settings.features CompactImports) bytes now.last now.input.rest before (said_first p) front f b frame after of)

pub front_is_begun : (settings : Settings) (bytes : List ℕ) (entries : List Entry) → AreBytes bytes → ReachesFront (whole_module settings bytes) entries → Says settings bytes entries
front_is_begun settings bytes entries are r =
    subst (Says settings bytes) (sym r.say) (items_begin settings bytes r.before r.now r.piece r.next r.items r.front are r.reached r.is_next r.has r.reads)

-- ---- what the next piece says by itself

-- before the header nothing is said
no_sections : (settings : Settings) (bytes : List ℕ) (p : Piece) (next : Remains) → IsStep (whole_module settings bytes) p next → HasSections (has settings.features CompactImports) bytes []
no_sections settings bytes p next (is_header num place rest stage begins is leaves) = record { sections = []; front = []; rest = rest; begins = begins; holds = refl; ordered = tt; say = refl }
no_sections settings bytes p next (is_body others body rest stage count reads is leaves) = absurd cc
no_sections settings bytes p next (is_section f stage count ended frame after reads leaves) = absurd cc
no_sections settings bytes p next (is_end place stage count ended rest is leaves) = absurd cc

-- what is said before a piece that is given
pub given_begins : (settings : Settings) (bytes : List ℕ) (entries : List Entry) (now : Remains) (p : Piece) (next : Remains) → AreBytes bytes → Reaches (whole_module settings bytes) entries now
    → next_piece now ≡ Some (p, next) → Says settings bytes entries
given_begins settings bytes entries now p next are r e = by_state (reached settings bytes are r)
  where
    by_state : IsReached (has settings.features CompactImports) bytes (whole_module settings bytes) now entries → Says settings bytes entries
    by_state (some front) = front_begins (has settings.features CompactImports) bytes now entries front
    by_state (nothing same none) =
        let start = subst (λ (x : Remains). IsStep x p next) same (step_of now p next e) in
        subst (Says settings bytes) (sym none) (complete (no_sections settings bytes p next start))

-- a piece without items says what it says, where it says anything
said_alone : (p : Piece) → items_of p ≡ None → (entries_said p ≡ Some (said_first p)) ⊎ (said_first p ≡ [])
unfolding entries_said items_of said_first
said_alone (Version num place) e = inl refl
said_alone (Types items) e = absurd cc
said_alone (Imports items) e = absurd cc
said_alone (Functions items) e = absurd cc
said_alone (Tables items) e = absurd cc
said_alone (Memories items) e = absurd cc
said_alone (Tags items) e = absurd cc
said_alone (Globals items) e = absurd cc
said_alone (Exports items) e = absurd cc
said_alone (Start function place) e = inl refl
said_alone (Elements items) e = absurd cc
said_alone (DataCount count place) e = inl refl
said_alone (CodeStart count place size) e = inl refl
said_alone (Body body) e = inl refl
said_alone (Segments items) e = absurd cc
said_alone (Custom section) e = inl refl
said_alone (Unknown id contents place) e = inr refl
said_alone (End place) e = inl refl

-- none of the items of a piece
none_of : (items : Items) → HasFront items []
unfolding items_at
none_of items = record { number = 0; rest = items.left.input.rest; among = omega arith; reads = refl }

pub said_is_begun : (settings : Settings) (bytes : List ℕ) (entries : List Entry) → AreBytes bytes → ReachesSaid (whole_module settings bytes) entries → Says settings bytes entries
said_is_begun settings bytes entries are r = subst (Says settings bytes) (sym r.say) (by_items (items_of r.piece) refl)
  where
    by_items : (read : Option Items) → items_of r.piece ≡ read → Says settings bytes (r.before ++ said_first r.piece)
    by_items (Some items) e =
        subst (λ (l : List Entry). Says settings bytes (r.before ++ l)) (append-nil (said_first r.piece)) (items_begin settings bytes r.before r.now r.piece r.next items [] are r.reached r.is_next e (none_of items))
    by_items None e = elim (said_alone r.piece e) [
      | inl says ↦ reached_begins settings bytes (r.before ++ said_first r.piece) r.next are (Further r.piece (said_first r.piece) r.reached r.is_next says) (after_start r.now r.piece r.next r.is_next)
      | inr none ↦
          let all : r.before ≡ r.before ++ said_first r.piece = sym (append-nil r.before) ∙ ap (λ (l : List Entry). r.before ++ l) (sym none) in
          subst (Says settings bytes) all (given_begins settings bytes r.before r.now r.piece r.next are r.reached r.is_next)
    ]
