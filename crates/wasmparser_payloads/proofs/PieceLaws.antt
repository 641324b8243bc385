-- The next piece, step by step.
use Rattle.std.proofs.Common.{◌≡◌, ◌≢◌, ◌<◌, ℕ, zero, suc, ◌-◌, true, false, List, [], ◌∷◌, length, Some, None, Result, refl, sym, ap, subst, ◌∙◌, arith}
use Rattle.std.specs.Prelude.{nat_eq}
use Rattle.std.specs.List.{starts_with}
use Rattle.wasm_spec.specs.Grammar.{header, last_place}
use Rattle.wasm_core_read.specs.Input.{Input, GoesOn, end}
use Rattle.wasm_core_read.specs.ModuleReading.{frame_at, is_after}
use Rattle.wasm_core_read.specs.PartReading.{body_at}
use Rattle.wasm_core_read.specs.Reading.{byte_at, unsigned_at, bytes_at}
use Rattle.wasm_core_read.specs.declared.malformed.Malformed.{Malformed}
use Rattle.wasmparser_payloads.specs.declared.payload.Payload.{Payload}
use Rattle.wasmparser_payloads.specs.declared.payloads.Stage.{Stage}
use Rattle.wasmparser_payloads.specs.declared.payloads.Stage.TheVariants.{Header, Parts, Done}
use Rattle.wasmparser_payloads.specs.Parsing.{GivesPiece}
use Rattle.wasmparser_payloads.specs.Pieces.{Piece, Version, Body, End, Remains, whole_of, input_before, input_after, framed, frame_of, piece_of, place_of_id, bodies_after, header_piece, bodied, body_piece, section_piece, piece_within, piece_between, piece_in, next_piece}

-- ---- frames

-- a part of an input is the same part of what the input was before
same_before : (i now : Input) (bytes rest : List ℕ) → GoesOn i now → input_before now bytes rest ≡ input_before i bytes rest
same_before i now bytes rest g = rw (g.same_features, g.same_end) refl

same_after : (i now : Input) (rest : List ℕ) → GoesOn i now → input_after now rest ≡ input_after i rest
same_after i now rest g = rw (g.same_features, g.same_end) refl

pub frame_read : (i sized unsized content after : Input) (id size : ℕ) → byte_at i.rest ≡ Some (id, sized.rest) → GoesOn i sized → unsigned_at 32 sized.rest ≡ Some (size, unsized.rest) → GoesOn sized unsized
    → bytes_at size unsized.rest ≡ Some (content.rest, after.rest) → content ≡ input_before unsized content.rest after.rest → after ≡ input_after unsized after.rest
    → frame_of i ≡ Some (record { id = id; content = content; after = after })
unfolding frame_of frame_at
frame_read i sized unsized content after id size h g k f m c a =
    let read : frame_of i ≡ Some (framed i ((id, content.rest), after.rest)) = rw (h, k, m) refl in
    let content-is : input_before i content.rest after.rest ≡ content = sym (c ∙ same_before sized unsized content.rest after.rest f ∙ same_before i sized content.rest after.rest g) in
    let after-is : input_after i after.rest ≡ after = sym (a ∙ same_after sized unsized after.rest f ∙ same_after i sized after.rest g) in
    read ∙ ap (λ (x : Input). Some (record { id = id; content = x; after = input_after i after.rest })) content-is ∙ ap (λ (x : Input). Some (record { id = id; content = content; after = x })) after-is

-- ---- the header

pub no_header : (s : Remains) → bytes_at 8 s.input.rest ≡ None → header_piece s ≡ None
unfolding header_piece
no_header s e = rw e refl

pub other_header : (s : Remains) (front rest : List ℕ) → bytes_at 8 s.input.rest ≡ Some (front, rest) → starts_with nat_eq front header ≡ false → header_piece s ≡ None
unfolding header_piece
other_header s front rest e other = rw (e, other) refl

-- the header, as what was read
pub is_header : (s : Remains) (front after : Input) (start last : ℕ) → bytes_at 8 s.input.rest ≡ Some (front.rest, after.rest) → starts_with nat_eq front.rest header ≡ true
    → front ≡ input_before s.input front.rest after.rest → after ≡ input_after s.input after.rest
    → start ≡ front.position → last ≡ end front
    → header_piece s ≡ Some (Version 1 (record { start = start; after = last }), record s { stage = Parts; input = after })
unfolding header_piece
is_header s front after start last e same f a p q =
    let read : header_piece s ≡ Some (Version 1 (whole_of (input_before s.input front.rest after.rest)), record s { stage = Parts; input = input_after s.input after.rest }) = rw (e, same) refl in
    let place : whole_of front ≡ record { start = start; after = last } = rw (p, q) refl in
    read ∙ ap (λ (x : Input). Some (Version 1 (whole_of x), record s { stage = Parts; input = input_after s.input after.rest })) (sym f)
    ∙ ap (λ (x : Input). Some (Version 1 (whole_of front), record s { stage = Parts; input = x })) (sym a)
    ∙ ap (λ x. Some (Version 1 x, record s { stage = Parts; input = after })) place

pub ruleset header_steps = (no_header, other_header, is_header)

-- ---- bodies

pub no_size : (s : Remains) (others : ℕ) → unsigned_at 32 s.bodies.input.rest ≡ None → body_piece others s ≡ None
unfolding body_piece body_at
no_size s others e = rw e refl

pub no_body : (s : Remains) (others size : ℕ) (rest : List ℕ) → unsigned_at 32 s.bodies.input.rest ≡ Some (size, rest) → bytes_at size rest ≡ None → body_piece others s ≡ None
unfolding body_piece body_at
no_body s others size rest e h = rw (e, h) refl

pub is_body : (s : Remains) (others size : ℕ) (unsized body after : Input) → unsigned_at 32 s.bodies.input.rest ≡ Some (size, unsized.rest) → GoesOn s.bodies.input unsized
    → bytes_at size unsized.rest ≡ Some (body.rest, after.rest) → body ≡ input_before unsized body.rest after.rest → after ≡ input_after unsized after.rest
    → body_piece others s ≡ Some (Body body, record s { bodies = record { count = others; input = after } })
unfolding body_piece body_at
is_body s others size unsized body after e g h b a =
    let read : body_piece others s ≡ bodied s others (body.rest, after.rest) = rw (e, h) refl in
    let body-is : input_before s.bodies.input body.rest after.rest ≡ body = sym (b ∙ same_before s.bodies.input unsized body.rest after.rest g) in
    let after-is : input_after s.bodies.input after.rest ≡ after = sym (a ∙ same_after s.bodies.input unsized after.rest g) in
    read ∙ ap (λ (x : Input). Some (Body x, record s { bodies = record { count = others; input = input_after s.bodies.input after.rest } })) body-is
    ∙ ap (λ (x : Input). Some (Body body, record s { bodies = record { count = others; input = x } })) after-is

pub ruleset body_steps = (no_size, no_body, is_body)

-- ---- sections

pub no_frame : (s : Remains) → frame_of s.input ≡ None → section_piece s ≡ None
unfolding section_piece
no_frame s e = rw e refl

pub comes_before : (s : Remains) (id : ℕ) (content after : Input) → frame_of s.input ≡ Some (record { id = id; content = content; after = after }) → is_after s.last (place_of_id id) ≡ false → section_piece s ≡ None
unfolding section_piece
comes_before s id content after e h = rw (e, h) refl

pub no_content : (s : Remains) (id : ℕ) (content after : Input) → frame_of s.input ≡ Some (record { id = id; content = content; after = after }) → is_after s.last (place_of_id id) ≡ true → piece_of id content ≡ None → section_piece s ≡ None
unfolding section_piece
no_content s id content after e h k = rw (e, h, k) refl

pub is_section : (s : Remains) (id : ℕ) (content after : Input) (p : Piece) → frame_of s.input ≡ Some (record { id = id; content = content; after = after }) → is_after s.last (place_of_id id) ≡ true → piece_of id content ≡ Some p
    → section_piece s ≡ Some (p, record s { last = last_place s.last (place_of_id id); bodies = bodies_after s.bodies id content; input = after })
unfolding section_piece
is_section s id content after p e h k = rw (e, h, k) refl

pub ruleset section_steps = (no_frame, comes_before, no_content, is_section)

-- ---- parts after the header

pub within_code : (s : Remains) → 0 < s.bodies.count → piece_within s.bodies.count s.bodies.input.rest s ≡ body_piece (s.bodies.count - 1) s
within_code s lt = by_count s.bodies.count lt
  where
    by_count : (n : ℕ) → 0 < n → piece_within n s.bodies.input.rest s ≡ body_piece (n - 1) s
    by_count zero lt = absurd (omega (arith, lt))
    by_count (suc n) lt = let k : suc n - 1 ≡ n = omega arith in rw k refl

pub after_bodies : (s : Remains) → s.bodies.count ≡ 0 → length s.bodies.input.rest ≢ 0 → piece_within s.bodies.count s.bodies.input.rest s ≡ None
after_bodies s e some = ap (λ (n : ℕ). piece_within n s.bodies.input.rest s) e ∙ by_rest s.bodies.input.rest some
  where
    by_rest : (rest : List ℕ) → length rest ≢ 0 → piece_within 0 rest s ≡ None
    by_rest [] k = absurd (k refl)
    by_rest (b ∷ bs) k = refl

between : (s : Remains) → s.bodies.count ≡ 0 → length s.bodies.input.rest ≡ 0 → piece_within s.bodies.count s.bodies.input.rest s ≡ piece_between s.input.rest s
between s e none = ap (λ (n : ℕ). piece_within n s.bodies.input.rest s) e ∙ by_rest s.bodies.input.rest none
  where
    by_rest : (rest : List ℕ) → length rest ≡ 0 → piece_within 0 rest s ≡ piece_between s.input.rest s
    by_rest [] k = refl
    by_rest (b ∷ bs) k = absurd (omega (arith, k))

pub at_end : (s : Remains) → s.bodies.count ≡ 0 → length s.bodies.input.rest ≡ 0 → length s.input.rest ≡ 0 → piece_within s.bodies.count s.bodies.input.rest s ≡ Some (End s.input.position, record s { stage = Done })
at_end s e none ended = between s e none ∙ by_rest s.input.rest ended
  where
    by_rest : (rest : List ℕ) → length rest ≡ 0 → piece_between rest s ≡ Some (End s.input.position, record s { stage = Done })
    by_rest [] k = refl
    by_rest (b ∷ bs) k = absurd (omega (arith, k))

pub at_section : (s : Remains) → s.bodies.count ≡ 0 → length s.bodies.input.rest ≡ 0 → length s.input.rest ≢ 0 → piece_within s.bodies.count s.bodies.input.rest s ≡ section_piece s
at_section s e none some = between s e none ∙ by_rest s.input.rest some
  where
    by_rest : (rest : List ℕ) → length rest ≢ 0 → piece_between rest s ≡ section_piece s
    by_rest [] k = absurd (k refl)
    by_rest (b ∷ bs) k = refl

pub ruleset part_steps = (within_code, after_bodies, at_end, at_section)

next_is : (s : Remains) (stage : Stage) → s.stage ≡ stage → next_piece s ≡ piece_in stage s
unfolding next_piece
next_is s stage e = ap (λ (x : Stage). piece_in x s) e

-- what a call gives at each stage is the next piece
pub at_header : (s new : Remains) (result : Result Payload Malformed) → s.stage ≡ Header → GivesPiece s new result (header_piece s) → GivesPiece s new result (next_piece s)
at_header s new result e h = subst (GivesPiece s new result) (sym (next_is s Header e)) h

pub at_part : (s new : Remains) (result : Result Payload Malformed) → s.stage ≡ Parts → GivesPiece s new result (piece_within s.bodies.count s.bodies.input.rest s) → GivesPiece s new result (next_piece s)
at_part s new result e h = subst (GivesPiece s new result) (sym (next_is s Parts e)) h

pub is_done : (s : Remains) → s.stage ≡ Done → next_piece s ≡ None
is_done s e = next_is s Done e

pub ruleset next_steps = (at_header, at_part, is_done)
