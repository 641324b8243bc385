-- The places of a piece's bytes lie where what was left before it lies.
use Rattle.std.proofs.Common.{[], ◌≡◌, ◌≤◌, ◌<◌, ◌⊎◌, inl, inr, ℕ, ◌+◌, ◌-◌, Bool, true, false, cond, eqb, List, length, Option, Some, refl, sym, ap, subst, arith}
use Rattle.wasm_core_read.specs.Input.{Input, end, IsWithin}
use Rattle.wasm_core_read.specs.ModuleReading.{frame_at}
use Rattle.wasm_core_read.specs.PartReading.{body_at}
use Rattle.wasm_core_read.specs.Reading.{◌>>=◌, bytes_at, name_at, unsigned_at}
use Rattle.wasm_core_read.proofs.BytesLaws.{bytes_length}
use Rattle.wasm_core_read.proofs.Forms.{bind_some, some_is}
use Rattle.wasm_core_read.proofs.ModuleForms.{number_shorter}
use Rattle.wasmparser_payloads.specs.PieceEntries.{items_of}
use Rattle.wasmparser_payloads.proofs.Steps.{IsStep, is_header, is_body, is_section, is_end, step_of}
use Rattle.wasmparser_payloads.specs.Parsing.{IsBetween, LieBetween}
use Rattle.wasmparser_payloads.specs.Pieces.{Piece, Place, Version, Types, Imports, Functions, Tables, Memories, Tags, Globals, Exports, Start, Elements, DataCount, Body, Segments, Custom, Unknown, End, Named, Remains, whole_of, input_before, framed, frame_of, named_of, code_start, piece_of, next_piece}
use Rattle.wasmparser_payloads.proofs.Progress.{frame_smaller}
use Rattle.wasmparser_readers.specs.Sections.{Limited, limited_of}
use Rattle.wasmparser_validator.specs.PieceJudging.{IsFirstOf, IsInPiece, body_in}
use Rattle.wasmparser_validator.specs.Sections.{EndBy}

-- the bytes of a piece lie between two places
pub record PieceLies (first last : ℕ) (piece : Piece) : Type 0 where
  pub places : (offset : ℕ) → IsInPiece piece offset → (first ≤ offset) × (offset ≤ last)
  pub body : EndBy last (body_in piece)

abbrev IsBelow : ℕ → ℕ → ℕ → Type 0
IsBelow first last place = (first ≤ place) × (place ≤ last)

-- ---- kinds of pieces

-- a section of items lies between two places
abbrev LimitedLies : ℕ → ℕ → Limited → Type 0
LimitedLies first last items = IsBelow first last items.start × IsBetween first last items.left.input

of_items : (first last : ℕ) (items : Limited) (offset : ℕ) → LimitedLies first last items → (offset ≡ items.start) ⊎ IsWithin items.left.input offset → (first ≤ offset) × (offset ≤ last)
of_items first last items offset h (inl e) = (omega (arith, e, h.0.0), omega (arith, e, h.0.1))
of_items first last items offset h (inr w) = (omega (arith, h.1.0, w.from), omega (arith, h.1.1, w.to))

of_place : (first last place offset : ℕ) → IsBelow first last place → (offset ≡ place) ⊎ ⊥ → (first ≤ offset) × (offset ≤ last)
of_place first last place offset h (inl e) = (omega (arith, e, h.0), omega (arith, e, h.1))
of_place first last place offset h (inr w) = absurd w

nowhere : (first last offset : ℕ) → ⊥ ⊎ ⊥ → (first ≤ offset) × (offset ≤ last)
nowhere first last offset (inl w) = absurd w
nowhere first last offset (inr w) = absurd w

-- ---- contents of sections

-- a piece, if there is one, lies between two places
abbrev LiesIfRead : ℕ → ℕ → Option Piece → Type 0
LiesIfRead first last read = (p : Piece) → read ≡ Some p → PieceLies first last p

-- one id, and the others
step : (first last : ℕ) (t : Bool) (a b : Option Piece) → LiesIfRead first last a → LiesIfRead first last b → LiesIfRead first last (cond t a b)
step first last true a b h k = h
step first last false a b h k = k

made : {A : Type 0} (first last : ℕ) (read : Option A) (piece : A → Piece) → ((x : A) → read ≡ Some x → PieceLies first last (piece x)) → LiesIfRead first last (read >>= λ x. Some (piece x))
made first last read piece h p e = let x = bind_some read (λ x. Some (piece x)) p e in subst (PieceLies first last) (some_is (piece x.0) p x.2) (h x.0 x.1)

limited_lies : (first last : ℕ) (content : Input) (items : Limited) → IsBetween first last content → limited_of content ≡ Some items → LimitedLies first last items
unfolding limited_of
limited_lies first last content items h e =
    let n = bind_some (unsigned_at 32 content.rest) (λ n. Some (record { start = content.position; left = record { count = n.0; input = record content { rest = n.1; position = end content - length n.1 } } })) items e in
    let lt = number_shorter 32 content.rest n.0.0 n.0.1 n.1 in
    subst (LimitedLies first last) (some_is (record { start = content.position; left = record { count = n.0.0; input = record content { rest = n.0.1; position = end content - length n.0.1 } } }) items n.2)
    ((omega (arith, h.0), omega (arith, h.0, h.1)), (omega (arith, lt, h.0), omega (arith, lt, h.1)))

named_starts : (content : Input) (section : Named) → named_of content ≡ Some section → section.start ≡ content.position
unfolding named_of
named_starts content section e =
    let x = bind_some (name_at content.rest) (λ x. Some (record { start = content.position; name = x.0; contents = x.1; contents_start = end content - length x.1 })) section e in
    sym (ap (λ (s : Named). s.start) (some_is (record { start = content.position; name = x.0.0; contents = x.0.1; contents_start = end content - length x.0.1 }) section x.2))

content_lies : (first last id : ℕ) (content : Input) → IsBetween first last content → LiesIfRead first last (piece_of id content)
unfolding piece_of IsFirstOf items_of body_in
content_lies first last id content h =
    step first last (eqb id 0) _ _ (made first last _ (λ x. Custom x) named) (
    step first last (eqb id 1) _ _ (listed (λ x. Types x) (λ x offset w. w) (λ x. refl)) (
    step first last (eqb id 2) _ _ (listed (λ x. Imports x) (λ x offset w. w) (λ x. refl)) (
    step first last (eqb id 3) _ _ (listed (λ x. Functions x) (λ x offset w. w) (λ x. refl)) (
    step first last (eqb id 4) _ _ (listed (λ x. Tables x) (λ x offset w. w) (λ x. refl)) (
    step first last (eqb id 5) _ _ (listed (λ x. Memories x) (λ x offset w. w) (λ x. refl)) (
    step first last (eqb id 6) _ _ (listed (λ x. Globals x) (λ x offset w. w) (λ x. refl)) (
    step first last (eqb id 7) _ _ (listed (λ x. Exports x) (λ x offset w. w) (λ x. refl)) (
    step first last (eqb id 8) _ _ (made first last _ (λ n. Start n (whole_of content)) (λ n e. alone (Start n (whole_of content)) (λ offset w. w) refl)) (
    step first last (eqb id 9) _ _ (listed (λ x. Elements x) (λ x offset w. w) (λ x. refl)) (
    step first last (eqb id 10) _ _ (made first last _ (code_start content) (λ x e. record { places = λ offset w. nowhere first last offset w; body = tt })) (
    step first last (eqb id 11) _ _ (listed (λ x. Segments x) (λ x offset w. w) (λ x. refl)) (
    step first last (eqb id 12) _ _ (made first last _ (λ n. DataCount n (whole_of content)) (λ n e. alone (DataCount n (whole_of content)) (λ offset w. w) refl)) (
    step first last (eqb id 13) _ _ (listed (λ x. Tags x) (λ x offset w. w) (λ x. refl)) (
    λ p e. subst (PieceLies first last) (some_is (Unknown id content.rest (whole_of content)) p e) (alone (Unknown id content.rest (whole_of content)) (λ offset w. w) refl)))))))))))))))
  where
    place : IsBelow first last content.position
    place = (h.0, omega (arith, h.0, h.1))

    -- a section of items, and a section without
    listed : (piece : Limited → Piece) → ((x : Limited) (offset : ℕ) → IsInPiece (piece x) offset → (offset ≡ x.start) ⊎ IsWithin x.left.input offset) → ((x : Limited) → body_in (piece x) ≡ [])
        → LiesIfRead first last (limited_of content >>= λ x. Some (piece x))
    listed piece is none = made first last _ piece (λ x e. record { places = λ offset w. of_items first last x offset (limited_lies first last content x h e) (is x offset w); body = subst (EndBy last) (sym (none x)) tt })

    alone : (p : Piece) → ((offset : ℕ) → IsInPiece p offset → (offset ≡ content.position) ⊎ ⊥) → body_in p ≡ [] → PieceLies first last p
    alone p is none = record { places = λ offset w. of_place first last content.position offset place (is offset w); body = subst (EndBy last) (sym none) tt }

    named : (x : Named) → named_of content ≡ Some x → PieceLies first last (Custom x)
    named x e = record { places = λ offset w. of_place first last x.start offset (subst (IsBelow first last) (sym (named_starts content x e)) place) w; body = tt }

-- ---- bodies

body_fits : (bytes body rest : List ℕ) → body_at bytes ≡ Some (body, rest) → length body + length rest ≤ length bytes
unfolding body_at
body_fits bytes body rest e =
    let n = bind_some (unsigned_at 32 bytes) (λ n. bytes_at n.0 n.1) (body, rest) e in
    let l = bytes_length n.0.0 n.0.1 body rest n.2 in
    omega (arith, number_shorter 32 bytes n.0.0 n.0.1 n.1, l.0, l.1)

body_lies : (first last : ℕ) (i : Input) (body rest : List ℕ) → IsBetween first last i → length body + length rest ≤ length i.rest → PieceLies first last (Body (input_before i body rest))
unfolding IsFirstOf items_of body_in
body_lies first last i body rest h fits =
    record {
      places = λ offset w. of_place first last (input_before i body rest).position offset (omega (arith, fits, h.0), omega (arith, fits, h.0, h.1)) w;
      body = (omega (arith, fits, h.1), tt);
    }

-- ---- all pieces

nowhere_in : (first last : ℕ) (num : ℕ) (place : Place) → PieceLies first last (Version num place)
unfolding IsFirstOf items_of body_in
nowhere_in first last num place = record { places = λ offset w. nowhere first last offset w; body = tt }

end_lies : (first last : ℕ) (place : ℕ) → PieceLies first last (End place)
unfolding IsFirstOf items_of body_in
end_lies first last place = record { places = λ offset w. nowhere first last offset w; body = tt }

frame_fits : (s : Remains) (f : (ℕ × List ℕ) × List ℕ) → frame_at s.input.rest ≡ Some f → length f.0.1 + length f.1 < length s.input.rest
unfolding frame_of
frame_fits s f e = frame_smaller s.input (framed s.input f) (rw e refl)

pub piece_lies : (first last : ℕ) (s new : Remains) (p : Piece) → LieBetween first last s → next_piece s ≡ Some (p, new) → PieceLies first last p
piece_lies first last s new p h e = by_step (step_of s p new e)
  where
    content : (f : (ℕ × List ℕ) × List ℕ) → frame_at s.input.rest ≡ Some f → IsBetween first last (framed s.input f).content
    content f frame = let lt = frame_fits s f frame in (omega (arith, lt, h.others.0), omega (arith, lt, h.others.1))

    by_step : IsStep s p new → PieceLies first last p
    by_step (is_header num place rest stage begins is leaves) = subst (PieceLies first last) (sym is) (nowhere_in first last num place)
    by_step (is_body others body rest stage count reads is leaves) = subst (PieceLies first last) (sym is) (body_lies first last s.bodies.input body rest h.bodies (body_fits s.bodies.input.rest body rest reads))
    by_step (is_section f stage count ended frame after reads leaves) = content_lies first last f.0.0 (framed s.input f).content (content f frame) p reads
    by_step (is_end place stage count ended rest is leaves) = subst (PieceLies first last) (sym is) (end_lies first last place)
