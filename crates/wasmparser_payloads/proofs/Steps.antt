-- What the next piece of a module can be.
use Rattle.std.proofs.Common.{◌≡◌, ℕ, zero, suc, Bool, true, false, cond, List, [], ◌∷◌, ◌++◌, length, drop, Option, Some, None, refl, sym, ap, ◌∙◌, arith, length-drop}
use Rattle.std.specs.Prelude.{nat_eq}
use Rattle.std.specs.List.{starts_with}
use Rattle.std.proofs.lemmas.Bool.Decides.{Decides-eqb}
use Rattle.std.proofs.lemmas.Option.{cond_some}
use Rattle.std.proofs.lemmas.Slice.Eq.{starts_is}
use Rattle.wasm_spec.specs.Grammar.{header}
use Rattle.wasm_core_read.specs.ModuleReading.{frame_at, is_after}
use Rattle.wasm_core_read.specs.PartReading.{body_at}
use Rattle.wasm_core_read.specs.Reading.{◌>>=◌, bytes_at}
use Rattle.wasm_core_read.proofs.Forms.{bind_some, some_is, bytes_found}
use Rattle.wasmparser_payloads.specs.declared.payloads.Stage.{Stage}
use Rattle.wasmparser_payloads.specs.declared.payloads.Stage.TheVariants.{Header, Parts, Done}
use Rattle.wasmparser_payloads.specs.Pieces.{Piece, Place, Version, Body, End, Frame, Remains, whole_of, input_before, input_after, framed, frame_of, piece_of, place_of_id, header_piece, headed, bodied, body_piece, after_section, sectioned, section_piece, piece_within, piece_between, piece_in, next_piece}

pub data IsStep (s : Remains) (p : Piece) (new : Remains) : Type 0 where
  is_header : (num : ℕ) (place : Place) (rest : List ℕ) → s.stage ≡ Header → s.input.rest ≡ header ++ rest → p ≡ Version num place → new ≡ record s { stage = Parts; input = input_after s.input rest } → IsStep s p new
  is_body : (others : ℕ) (body rest : List ℕ) → s.stage ≡ Parts → s.bodies.count ≡ suc others → body_at s.bodies.input.rest ≡ Some (body, rest)
      → p ≡ Body (input_before s.bodies.input body rest) → new ≡ record s { bodies = record { count = others; input = input_after s.bodies.input rest } } → IsStep s p new
  is_section : (f : (ℕ × List ℕ) × List ℕ) → s.stage ≡ Parts → s.bodies.count ≡ 0 → s.bodies.input.rest ≡ [] → frame_at s.input.rest ≡ Some f → is_after s.last (place_of_id f.0.0) ≡ true
      → piece_of f.0.0 (framed s.input f).content ≡ Some p → new ≡ after_section s (framed s.input f) → IsStep s p new
  is_end : (place : ℕ) → s.stage ≡ Parts → s.bodies.count ≡ 0 → s.bodies.input.rest ≡ [] → s.input.rest ≡ [] → p ≡ End place → new ≡ record s { stage = Done } → IsStep s p new

abbrev both : {A B : Type 0} → A → B → A × B
both a b = (a, b)

header_step : (s : Remains) (p : Piece) (new : Remains) → s.stage ≡ Header → header_piece s ≡ Some (p, new) → IsStep s p new
unfolding header_piece
header_step s p new stage e =
    let x = bind_some (bytes_at 8 s.input.rest) (headed s) (p, new) e in
    let place : Place = whole_of (input_before s.input x.0.0 x.0.1) in
    let after : Remains = record s { stage = Parts; input = input_after s.input x.0.1 } in
    let t = cond_some (starts_with nat_eq x.0.0 header) (both (Version 1 place) after) (p, new) x.2 in
    let found = bytes_found 8 s.input.rest x.0.0 x.0.1 x.1 in
    let begins : x.0.0 ≡ header ++ drop 8 x.0.0 = (starts_is Decides-eqb x.0.0 header (starts_with nat_eq x.0.0 header) refl).0 t.0 in
    let none : drop 8 x.0.0 ≡ [] = empty (drop 8 x.0.0) (omega (arith, length-drop 8 x.0.0, found.1)) in
    let all : x.0.0 ≡ header = begins ∙ ap (λ (l : List ℕ). header ++ l) none in
    is_header 1 place x.0.1 stage (found.0 ∙ ap (λ (l : List ℕ). l ++ x.0.1) all) (sym (ap (λ (y : Piece × Remains). y.0) t.1)) (sym (ap (λ (y : Piece × Remains). y.1) t.1))
  where
    empty : (l : List ℕ) → length l ≡ 0 → l ≡ []
    empty [] e = refl
    empty (b ∷ bs) e = absurd (omega (arith, e))

body_step : (s : Remains) (p : Piece) (new : Remains) (others : ℕ) → s.stage ≡ Parts → s.bodies.count ≡ suc others → body_piece others s ≡ Some (p, new) → IsStep s p new
unfolding body_piece
body_step s p new others stage count e =
    let x = bind_some (body_at s.bodies.input.rest) (bodied s others) (p, new) e in
    let after : Remains = record s { bodies = record { count = others; input = input_after s.bodies.input x.0.1 } } in
    let same = some_is (both (Body (input_before s.bodies.input x.0.0 x.0.1)) after) (p, new) x.2 in
    is_body others x.0.0 x.0.1 stage count x.1 (sym (ap (λ (y : Piece × Remains). y.0) same)) (sym (ap (λ (y : Piece × Remains). y.1) same))

abbrev first_of : Remains → Frame → Piece → Option (Piece × Remains)
first_of s f p = Some (p, after_section s f)

section_step : (s : Remains) (p : Piece) (new : Remains) → s.stage ≡ Parts → s.bodies.count ≡ 0 → s.bodies.input.rest ≡ [] → section_piece s ≡ Some (p, new) → IsStep s p new
unfolding section_piece frame_of
section_step s p new stage count ended e =
    let g = bind_some (frame_at s.input.rest >>= λ f. Some (framed s.input f)) (sectioned s) (p, new) e in
    let f = bind_some (frame_at s.input.rest) (λ f. Some (framed s.input f)) g.0 g.1 in
    let is : framed s.input f.0 ≡ g.0 = some_is (framed s.input f.0) g.0 f.2 in
    let h : sectioned s (framed s.input f.0) ≡ Some (p, new) = ap (sectioned s) is ∙ g.2 in
    by_test f.0 (is_after s.last (place_of_id f.0.0.0)) f.1 refl h
  where
    by_test : (f : (ℕ × List ℕ) × List ℕ) (t : Bool) → frame_at s.input.rest ≡ Some f → is_after s.last (place_of_id f.0.0) ≡ t
        → cond t (piece_of f.0.0 (framed s.input f).content >>= first_of s (framed s.input f)) None ≡ Some (p, new) → IsStep s p new
    by_test f false e t h = absurd cc
    by_test f true e t h =
        let q = bind_some (piece_of f.0.0 (framed s.input f).content) (first_of s (framed s.input f)) (p, new) h in
        let same = some_is (both q.0 (after_section s (framed s.input f))) (p, new) q.2 in
        is_section f stage count ended e t (q.1 ∙ ap (λ x. Some x) (ap (λ (y : Piece × Remains). y.0) same)) (sym (ap (λ (y : Piece × Remains). y.1) same))

pub step_of : (s : Remains) (p : Piece) (new : Remains) → next_piece s ≡ Some (p, new) → IsStep s p new
unfolding next_piece
step_of s p new e = by_stage s.stage refl e
  where
    by_rest : (rest : List ℕ) → s.input.rest ≡ rest → s.stage ≡ Parts → s.bodies.count ≡ 0 → s.bodies.input.rest ≡ [] → piece_between rest s ≡ Some (p, new) → IsStep s p new
    by_rest [] r stage count ended h =
        let same = some_is (both (End s.input.position) (record s { stage = Done })) (p, new) h in
        is_end s.input.position stage count ended r (sym (ap (λ (y : Piece × Remains). y.0) same)) (sym (ap (λ (y : Piece × Remains). y.1) same))
    by_rest (b ∷ bs) r stage count ended h = section_step s p new stage count ended h

    by_count : (n : ℕ) (bytes : List ℕ) → s.bodies.count ≡ n → s.bodies.input.rest ≡ bytes → s.stage ≡ Parts → piece_within n bytes s ≡ Some (p, new) → IsStep s p new
    by_count (suc n) bytes count left stage h = body_step s p new n stage count h
    by_count zero (b ∷ bs) count left stage h = absurd cc
    by_count zero [] count left stage h = by_rest s.input.rest refl stage count left h

    by_stage : (stage : Stage) → s.stage ≡ stage → piece_in stage s ≡ Some (p, new) → IsStep s p new
    by_stage Header stage h = header_step s p new stage h
    by_stage Parts stage h = by_count s.bodies.count s.bodies.input.rest refl refl stage h
    by_stage Done stage h = absurd cc

-- no piece follows the end alone
pub is_going : (s new : Remains) (p : Piece) → next_piece s ≡ Some (p, new) → ((place : ℕ) → ¬ (p ≡ End place)) → ¬ (new.stage ≡ Done)
is_going s new p e other = by_step (step_of s p new e)
  where
    by_parts : s.stage ≡ Parts → new.stage ≡ s.stage → ¬ (new.stage ≡ Done)
    by_parts t u d = let w = sym t ∙ sym u ∙ d in absurd cc

    by_step : IsStep s p new → ¬ (new.stage ≡ Done)
    by_step (is_header num place rest stage begins is leaves) = λ d. let w = sym (ap (λ (x : Remains). x.stage) leaves) ∙ d in absurd cc
    by_step (is_body others body rest stage count reads is leaves) = by_parts stage (ap (λ (x : Remains). x.stage) leaves)
    by_step (is_section f stage count ended frame after reads leaves) = by_parts stage (ap (λ (x : Remains). x.stage) leaves)
    by_step (is_end place stage count ended rest is leaves) = absurd (other place is)

-- no piece leads back before the header
pub after_start : (s : Remains) (p : Piece) (new : Remains) → next_piece s ≡ Some (p, new) → ¬ (new.stage ≡ Header)
after_start s p new e = by_step (step_of s p new e)
  where
    by_parts : s.stage ≡ Parts → new.stage ≡ s.stage → ¬ (new.stage ≡ Header)
    by_parts t u d = let w = sym t ∙ sym u ∙ d in absurd cc

    by_step : IsStep s p new → ¬ (new.stage ≡ Header)
    by_step (is_header num place rest stage begins is leaves) = λ d. let w = sym (ap (λ (x : Remains). x.stage) leaves) ∙ d in absurd cc
    by_step (is_body others body rest stage count reads is leaves) = by_parts stage (ap (λ (x : Remains). x.stage) leaves)
    by_step (is_section f stage count ended frame after reads leaves) = by_parts stage (ap (λ (x : Remains). x.stage) leaves)
    by_step (is_end place stage count ended rest is leaves) = λ d. let w = sym (ap (λ (x : Remains). x.stage) leaves) ∙ d in absurd cc
