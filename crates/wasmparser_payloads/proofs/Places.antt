-- What is left after a piece lies where what was left before it lies.
use Rattle.std.proofs.Common.{◌≡◌, ◌≤◌, ◌<◌, ℕ, zero, suc, ◌+◌, Bool, true, false, cond, eqb, List, [], ◌∷◌, length, Option, Some, None, refl, subst, arith, inl, inr}
use Rattle.std.specs.Prelude.{⊤, nat_eq}
use Rattle.std.specs.List.{starts_with}
use Rattle.wasm_spec.specs.Grammar.{header}
use Rattle.wasm_core_read.specs.Input.{Input}
use Rattle.wasm_core_read.specs.ModuleReading.{frame_at, is_after}
use Rattle.wasm_core_read.specs.PartReading.{body_at}
use Rattle.wasm_core_read.specs.Reading.{◌>>=◌, unsigned_at, bytes_at}
use Rattle.wasm_core_read.proofs.BytesLaws.{bytes_length}
use Rattle.wasm_core_read.proofs.ModuleForms.{number_shorter}
use Rattle.wasmparser_readers.specs.Sections.{Left, limited_of}
use Rattle.wasmparser_payloads.specs.declared.payloads.Stage.{Stage}
use Rattle.wasmparser_payloads.specs.declared.payloads.Stage.TheVariants.{Header, Parts, Done}
use Rattle.wasmparser_payloads.specs.Parsing.{Settings, whole_module, IsInside, IsBetween, LieBetween}
use Rattle.wasmparser_payloads.specs.Pieces.{Piece, Version, Remains, whole_of, input_before, input_after, framed, frame_of, piece_of, place_of_id, bodies_in, bodies_after, header_piece, headed, bodied, body_piece, after_section, sectioned, section_piece, piece_within, piece_between, piece_in, next_piece}
use Rattle.wasmparser_payloads.proofs.Progress.{body_shorter, frame_smaller}

after_lies : (a z : ℕ) (i : Input) (rest : List ℕ) → length rest ≤ length i.rest → IsBetween a z i → IsBetween a z (input_after i rest)
after_lies a z i rest le h = (omega (arith, le, h.0), omega (arith, le, h.1))

before_lies : (a z : ℕ) (i : Input) (bytes rest : List ℕ) → length bytes + length rest ≤ length i.rest → IsBetween a z i → IsBetween a z (input_before i bytes rest)
before_lies a z i bytes rest le h = (omega (arith, le, h.0), omega (arith, le, h.1))

bodies_lie : (a z : ℕ) (before : Left) (id : ℕ) (content : Input) → IsBetween a z before.input → IsBetween a z content → IsBetween a z (bodies_after before id content).input
unfolding bodies_after limited_of
bodies_lie a z before id content h k = by_test (eqb id 10)
  where
    by_read : (read : Option (ℕ × List ℕ)) → unsigned_at 32 content.rest ≡ read
        → IsBetween a z (bodies_in before (read >>= λ n. Some (record { start = content.position; left = record { count = n.0; input = input_after content n.1 } }))).input
    by_read None e = h
    by_read (Some n) e = let lt = number_shorter 32 content.rest n.0 n.1 e in after_lies a z content n.1 (omega (arith, lt)) k

    by_test : (b : Bool) → IsBetween a z (cond b (bodies_in before (limited_of content)) before).input
    by_test true = by_read (unsigned_at 32 content.rest) refl
    by_test false = h

-- what is left after a piece, if there is one, lies between two places
abbrev Stays : ℕ → ℕ → Option (Piece × Remains) → Type 0
Stays a z None = ⊤
Stays a z (Some x) = LieBetween a z x.1

body_stays : (a z : ℕ) (s : Remains) (others : ℕ) → LieBetween a z s → Stays a z (body_piece others s)
unfolding body_piece
body_stays a z s others h = by_read (body_at s.bodies.input.rest) refl
  where
    by_read : (read : Option (List ℕ × List ℕ)) → body_at s.bodies.input.rest ≡ read → Stays a z (read >>= bodied s others)
    by_read None e = tt
    by_read (Some x) e =
        let lt = body_shorter s.bodies.input.rest x e in
        record { bodies = after_lies a z s.bodies.input x.1 (omega (arith, lt)) h.bodies; others = h.others }

section_stays : (a z : ℕ) (s : Remains) → LieBetween a z s → Stays a z (section_piece s)
unfolding section_piece frame_of
section_stays a z s h = by_frame (frame_at s.input.rest) refl
  where
    small : (x : (ℕ × List ℕ) × List ℕ) → frame_at s.input.rest ≡ Some x → length x.0.1 + length x.1 < length s.input.rest
    small x e = frame_smaller s.input (framed s.input x) (rw e refl)

    by_piece : (x : (ℕ × List ℕ) × List ℕ) (read : Option Piece) → frame_at s.input.rest ≡ Some x → Stays a z (read >>= λ p. Some (p, after_section s (framed s.input x)))
    by_piece x None e = tt
    by_piece x (Some p) e =
        let lt = small x e in
        record {
          bodies = bodies_lie a z s.bodies x.0.0 (input_before s.input x.0.1 x.1) h.bodies (before_lies a z s.input x.0.1 x.1 (omega (arith, lt)) h.others);
          others = after_lies a z s.input x.1 (omega (arith, lt)) h.others;
        }

    by_order : (x : (ℕ × List ℕ) × List ℕ) (b : Bool) → frame_at s.input.rest ≡ Some x
        → Stays a z (cond b (piece_of x.0.0 (framed s.input x).content >>= λ p. Some (p, after_section s (framed s.input x))) None)
    by_order x true e = by_piece x (piece_of x.0.0 (framed s.input x).content) e
    by_order x false e = tt

    by_frame : (read : Option ((ℕ × List ℕ) × List ℕ)) → frame_at s.input.rest ≡ read → Stays a z ((read >>= λ x. Some (framed s.input x)) >>= sectioned s)
    by_frame None e = tt
    by_frame (Some x) e = by_order x (is_after s.last (place_of_id x.0.0)) e

header_stays : (a z : ℕ) (s : Remains) → LieBetween a z s → Stays a z (header_piece s)
unfolding header_piece
header_stays a z s h = by_read (bytes_at 8 s.input.rest) refl
  where
    by_test : (x : List ℕ × List ℕ) (b : Bool) → bytes_at 8 s.input.rest ≡ Some x
        → Stays a z (cond b (Some (Version 1 (whole_of (input_before s.input x.0 x.1)), record s { stage = Parts; input = input_after s.input x.1 })) None)
    by_test x true e =
        let long = (bytes_length 8 s.input.rest x.0 x.1 e).1 in
        record { bodies = h.bodies; others = after_lies a z s.input x.1 (omega (arith, long)) h.others }
    by_test x false e = tt

    by_read : (read : Option (List ℕ × List ℕ)) → bytes_at 8 s.input.rest ≡ read → Stays a z (read >>= headed s)
    by_read None e = tt
    by_read (Some x) e = by_test x (starts_with nat_eq x.0 header) e

any_stays : (a z : ℕ) (s : Remains) (stage : Stage) → LieBetween a z s → Stays a z (piece_in stage s)
any_stays a z s Header h = header_stays a z s h
any_stays a z s Done h = tt
any_stays a z s Parts h = by_count s.bodies.count s.bodies.input.rest
  where
    by_rest : (rest : List ℕ) → Stays a z (piece_between rest s)
    by_rest [] = record { bodies = h.bodies; others = h.others }
    by_rest (b ∷ bs) = section_stays a z s h

    by_count : (n : ℕ) (bytes : List ℕ) → Stays a z (piece_within n bytes s)
    by_count (suc n) bytes = body_stays a z s n h
    by_count zero (b ∷ bs) = tt
    by_count zero [] = by_rest s.input.rest

pub stays : (a z : ℕ) (s new : Remains) (p : Piece) → LieBetween a z s → next_piece s ≡ Some (p, new) → LieBetween a z new
unfolding next_piece
stays a z s new p h e = subst (Stays a z) e (any_stays a z s s.stage h)

pub whole_lies : (settings : Settings) (bytes : List ℕ) → LieBetween settings.offset (settings.offset + length bytes) (whole_module settings bytes)
whole_lies settings bytes = record { bodies = (omega arith, omega arith); others = (omega arith, omega arith) }

pub place_lies : (a z : ℕ) (s : Remains) (offset : ℕ) → LieBetween a z s → IsInside s offset → (a ≤ offset) × (offset ≤ z)
place_lies a z s offset h (inl w) = (omega (arith, h.bodies.0, w.from), omega (arith, h.bodies.1, w.to))
place_lies a z s offset h (inr w) = (omega (arith, h.others.0, w.from), omega (arith, h.others.1, w.to))
