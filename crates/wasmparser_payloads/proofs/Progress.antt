-- Each piece takes bytes, but for the end, after which nothing comes.
use Rattle.std.proofs.Common.{◌≡◌, ◌≤◌, ◌<◌, ℕ, zero, suc, ◌-◌, ◌+◌, Bool, true, false, cond, eqb, List, [], ◌∷◌, length, Option, Some, None, refl, ap, subst, arith}
use Rattle.std.specs.Prelude.{⊤, nat_eq}
use Rattle.std.specs.List.{starts_with}
use Rattle.wasm_spec.specs.Grammar.{header}
use Rattle.wasm_core_read.specs.Input.{Input, end}
use Rattle.wasm_core_read.specs.ModuleReading.{frame_at, is_after}
use Rattle.wasm_core_read.specs.PartReading.{body_at}
use Rattle.wasm_core_read.specs.Reading.{◌>>=◌, byte_at, unsigned_at, bytes_at}
use Rattle.wasm_core_read.proofs.BytesLaws.{bytes_length}
use Rattle.wasm_core_read.proofs.Forms.{bind_some, some_is}
use Rattle.wasm_core_read.proofs.ModuleForms.{number_shorter}
use Rattle.wasmparser_readers.specs.Sections.{Left, limited_of}
use Rattle.wasmparser_payloads.specs.declared.payloads.Stage.{Stage}
use Rattle.wasmparser_payloads.specs.declared.payloads.Stage.TheVariants.{Header, Parts, Done}
use Rattle.wasmparser_payloads.specs.Parsing.{at_most_remaining}
use Rattle.wasmparser_payloads.specs.Pieces.{Piece, Version, Frame, Remains, whole_of, input_before, input_after, framed, frame_of, piece_of, place_of_id, bodies_in, bodies_after, header_piece, headed, bodied, body_piece, after_section, sectioned, section_piece, piece_within, piece_between, piece_in, next_piece}

abbrev bytes_left : Remains → ℕ
bytes_left s = length s.bodies.input.rest + length s.input.rest

-- fewer results come than so many after a piece
abbrev Takes : ℕ → Option (Piece × Remains) → Type 0
Takes n None = ⊤
Takes n (Some x) = at_most_remaining x.1.stage x.1 < n

bound : (stage : Stage) (s : Remains) → at_most_remaining stage s ≤ suc (bytes_left s)
bound Header s = omega arith
bound Parts s = omega arith
bound Done s = omega arith

-- ---- bodies

pub body_shorter : (bytes : List ℕ) (x : List ℕ × List ℕ) → body_at bytes ≡ Some x → length x.1 < length bytes
unfolding body_at
body_shorter bytes x e =
    let n = bind_some (unsigned_at 32 bytes) (λ n. bytes_at n.0 n.1) x e in
    omega (arith, number_shorter 32 bytes n.0.0 n.0.1 n.1, (bytes_length n.0.0 n.0.1 x.0 x.1 n.2).1)

body_takes : (s : Remains) (others : ℕ) → Takes (suc (bytes_left s)) (body_piece others s)
unfolding body_piece
body_takes s others = by_read (body_at s.bodies.input.rest) refl
  where
    by_read : (read : Option (List ℕ × List ℕ)) → body_at s.bodies.input.rest ≡ read → Takes (suc (bytes_left s)) (read >>= bodied s others)
    by_read None e = tt
    by_read (Some x) e =
        let new : Remains = record s { bodies = record { count = others; input = input_after s.bodies.input x.1 } } in
        omega (arith, bound s.stage new, body_shorter s.bodies.input.rest x e)

-- ---- sections

pub frame_smaller : (i : Input) (f : Frame) → frame_of i ≡ Some f → length f.content.rest + length f.after.rest < length i.rest
unfolding frame_of frame_at byte_at
frame_smaller i f e =
    let x = bind_some (frame_at i.rest) (λ x. Some (framed i x)) f e in
    subst (λ (g : Frame). length g.content.rest + length g.after.rest < length i.rest) (some_is (framed i x.0) f x.2) (by_bytes i.rest x.0 x.1)
  where
    by_bytes : (bytes : List ℕ) (x : (ℕ × List ℕ) × List ℕ) → frame_at bytes ≡ Some x → length x.0.1 + length x.1 < length bytes
    by_bytes [] x h = absurd cc
    by_bytes (b ∷ bs) x h =
        let n = bind_some (unsigned_at 32 bs) (λ n. bytes_at n.0 n.1 >>= λ c. Some ((b, c.0), c.1)) x h in
        let c = bind_some (bytes_at n.0.0 n.0.1) (λ c. Some ((b, c.0), c.1)) x n.2 in
        let content : c.0.0 ≡ x.0.1 = ap (λ (y : (ℕ × List ℕ) × List ℕ). y.0.1) (some_is ((b, c.0.0), c.0.1) x c.2) in
        let rest : c.0.1 ≡ x.1 = ap (λ (y : (ℕ × List ℕ) × List ℕ). y.1) (some_is ((b, c.0.0), c.0.1) x c.2) in
        let long = bytes_length n.0.0 n.0.1 c.0.0 c.0.1 c.1 in
        omega (arith, number_shorter 32 bs n.0.0 n.0.1 n.1, long.0, long.1, ap length content, ap length rest)

bodies_smaller : (before : Left) (id : ℕ) (content : Input) → length (bodies_after before id content).input.rest ≤ length content.rest + length before.input.rest
unfolding bodies_after limited_of
bodies_smaller before id content = by_test (eqb id 10)
  where
    by_read : (read : Option (ℕ × List ℕ)) → unsigned_at 32 content.rest ≡ read
        → length (bodies_in before (read >>= λ n. Some (record { start = content.position; left = record { count = n.0; input = record content { rest = n.1; position = end content - length n.1 } } }))).input.rest ≤ length content.rest + length before.input.rest
    by_read None e = omega arith
    by_read (Some n) e = omega (arith, number_shorter 32 content.rest n.0 n.1 e)

    by_test : (b : Bool) → length (cond b (bodies_in before (limited_of content)) before).input.rest ≤ length content.rest + length before.input.rest
    by_test true = by_read (unsigned_at 32 content.rest) refl
    by_test false = omega arith

section_takes : (s : Remains) → Takes (suc (bytes_left s)) (section_piece s)
unfolding section_piece
section_takes s = by_frame (frame_of s.input) refl
  where
    by_piece : (f : Frame) (read : Option Piece) → frame_of s.input ≡ Some f → Takes (suc (bytes_left s)) (read >>= λ p. Some (p, after_section s f))
    by_piece f None e = tt
    by_piece f (Some p) e = omega (arith, bound s.stage (after_section s f), bodies_smaller s.bodies f.id f.content, frame_smaller s.input f e)

    by_test : (f : Frame) (b : Bool) → frame_of s.input ≡ Some f → Takes (suc (bytes_left s)) (cond b (piece_of f.id f.content >>= λ p. Some (p, after_section s f)) None)
    by_test f true e = by_piece f (piece_of f.id f.content) e
    by_test f false e = tt

    by_frame : (read : Option Frame) → frame_of s.input ≡ read → Takes (suc (bytes_left s)) (read >>= sectioned s)
    by_frame None e = tt
    by_frame (Some f) e = by_test f (is_after s.last (place_of_id f.id)) e

-- ---- the header, and any piece

-- the header, as a piece
abbrev given : Remains → List ℕ × List ℕ → Option (Piece × Remains)
given s x = Some (Version 1 (whole_of (input_before s.input x.0 x.1)), record s { stage = Parts; input = input_after s.input x.1 })

header_takes : (s : Remains) → Takes (suc (bytes_left s)) (header_piece s)
unfolding header_piece
header_takes s = by_read (bytes_at 8 s.input.rest) refl
  where
    by_test : (x : List ℕ × List ℕ) (b : Bool) → bytes_at 8 s.input.rest ≡ Some x → Takes (suc (bytes_left s)) (cond b (given s x) None)
    by_test x true e = omega (arith, (bytes_length 8 s.input.rest x.0 x.1 e).1)
    by_test x false e = tt

    by_read : (read : Option (List ℕ × List ℕ)) → bytes_at 8 s.input.rest ≡ read → Takes (suc (bytes_left s)) (read >>= headed s)
    by_read None e = tt
    by_read (Some x) e = by_test x (starts_with nat_eq x.0 header) e

takes : (s : Remains) (stage : Stage) → Takes (at_most_remaining stage s) (piece_in stage s)
takes s Header = header_takes s
takes s Done = tt
takes s Parts = by_count s.bodies.count s.bodies.input.rest
  where
    by_rest : (rest : List ℕ) → Takes (suc (bytes_left s)) (piece_between rest s)
    by_rest [] = omega arith
    by_rest (b ∷ bs) = section_takes s

    by_count : (n : ℕ) (bytes : List ℕ) → Takes (suc (bytes_left s)) (piece_within n bytes s)
    by_count (suc n) bytes = body_takes s n
    by_count zero (b ∷ bs) = tt
    by_count zero [] = by_rest s.input.rest

-- fewer results come after a piece than before it
pub piece_less : (s new : Remains) (p : Piece) → next_piece s ≡ Some (p, new) → at_most_remaining new.stage new < at_most_remaining s.stage s
unfolding next_piece
piece_less s new p e = subst (λ (x : Option (Piece × Remains)). Takes (at_most_remaining s.stage s) x) e (takes s s.stage)
