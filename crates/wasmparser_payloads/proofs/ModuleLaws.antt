-- The pieces of a module are its sections.
use Rattle.std.proofs.Common.{◌≡◌, ◌≤◌, ℕ, zero, suc, ◌+◌, Bool, true, false, cond, eqb, leb, List, [], ◌∷◌, length, take, drop, Option, Some, None, refl, sym, ap, subst, ◌∙◌, arith, inl, inr, length-drop}
use Rattle.std.specs.Prelude.{nat_eq, ◌&&◌, ◌↔◌}
use Rattle.std.specs.List.{starts_with}
use Rattle.std.proofs.lemmas.Bool.Decides.{eqb_tells}
use Rattle.std.proofs.lemmas.Bool.{le-leb, leb-true, and_parts}
use Rattle.wasm_spec.specs.Bytes.{AreBytes}
use Rattle.wasm_spec.specs.Features.{Features}
use Rattle.wasm_spec.specs.Grammar.{header, section_id, place_of, last_place, IsModule}
use Rattle.wasm_spec.specs.Syntax as syntax
use Rattle.wasm_spec.specs.Syntax.{Section, functions_of, bodies_of}
use Rattle.wasm_core_read.specs.Input.{Input}
use Rattle.wasm_core_read.specs.ModuleReading.{content_of, frame_at, section_at, sections_at, sections_of, is_after, are_ordered, are_counted, in_order, module_of}
use Rattle.wasm_core_read.specs.PartReading.{body_at}
use Rattle.wasm_core_read.specs.Reading.{◌>>=◌, bytes_at, filled}
use Rattle.wasm_core_read.specs.TypeReading.{items_at, list_at}
use Rattle.wasm_core_read.proofs.ContentForms.{content_id}
use Rattle.wasm_core_read.proofs.Forms.{bind_some, some_is}
use Rattle.wasm_core_read.proofs.ModuleForms.{frame_shorter, fills_module}
use Rattle.wasmparser_readers.specs.Sections.{Left, Limited, limited_of, left_items}
use Rattle.wasmparser_readers.proofs.SectionLaws.{section_begins}
use Rattle.wasmparser_payloads.specs.declared.payloads.Stage.TheVariants.{Parts}
use Rattle.wasmparser_payloads.specs.Modules.{pieces_from, pieces_of, Gathered, add_piece, gathered, where_counted, sections_in}
use Rattle.wasmparser_payloads.specs.Parsing.{Settings, whole_module, at_most_remaining}
use Rattle.wasmparser_payloads.specs.Pieces.{Piece, Place, Version, Body, Frame, Remains, whole_of, input_before, input_after, framed, frame_of, piece_of, place_of_id, bodies_in, bodies_after, after_section, body_piece, bodied, section_piece, sectioned, header_piece, headed, next_piece}
use Rattle.wasmparser_payloads.proofs.ContentLaws.{with_piece, with_section, content_is}
use Rattle.wasmparser_payloads.proofs.Progress.{piece_less}

-- ---- sections in their order, one by one

unfoldable ordered_at : Bool → List ℕ → ℕ → ℕ → Option (List Section)
ordered_at compact [] fuel last = Some []
ordered_at compact (b ∷ bs) zero last = None
ordered_at compact (b ∷ bs) (suc fuel) last =
    section_at compact (b ∷ bs) >>= λ x. cond (is_after last (place_of x.0)) (ordered_at compact x.1 fuel (last_place last (place_of x.0)) >>= λ others. Some (x.0 ∷ others)) None

abbrev where_ordered : ℕ → List Section → Option (List Section)
where_ordered last sections = cond (are_ordered last sections) (Some sections) None

ordered_are : (compact : Bool) (fuel last : ℕ) (bytes : List ℕ) → ordered_at compact bytes fuel last ≡ (sections_at compact fuel bytes >>= where_ordered last)
unfolding ordered_at sections_at
ordered_are compact zero last [] = refl
ordered_are compact (suc fuel) last [] = refl
ordered_are compact zero last (b ∷ bs) = refl
ordered_are compact (suc fuel) last (b ∷ bs) = by_section (λ l bytes. ordered_are compact fuel l bytes) (section_at compact (b ∷ bs))
  where
    by_others : (section : Section) (t : Bool) (l : ℕ) (read : Option (List Section)) → is_after last (place_of section) ≡ t → last_place last (place_of section) ≡ l
        → cond t ((read >>= where_ordered l) >>= λ others. Some (section ∷ others)) None ≡ ((read >>= λ others. Some (section ∷ others)) >>= where_ordered last)
    by_others section true l None e f = refl
    by_others section false l None e f = refl
    by_others section true l (Some others) e f = rw (e, f) (by_test (are_ordered l others))
      where
        by_test : (b : Bool) → (cond b (Some others) None >>= λ xs. Some (section ∷ xs)) ≡ cond b (Some (section ∷ others)) None
        by_test true = refl
        by_test false = refl
    by_others section false l (Some others) e f = rw e refl

    by_section : ((l : ℕ) (bytes : List ℕ) → ordered_at compact bytes fuel l ≡ (sections_at compact fuel bytes >>= where_ordered l)) → (read : Option (Section × List ℕ))
        → (read >>= λ x. cond (is_after last (place_of x.0)) (ordered_at compact x.1 fuel (last_place last (place_of x.0)) >>= λ others. Some (x.0 ∷ others)) None)
        ≡ ((read >>= λ x. sections_at compact fuel x.1 >>= λ others. Some (x.0 ∷ others)) >>= where_ordered last)
    by_section ih None = refl
    by_section ih (Some x) =
        ap (λ (r : Option (List Section)). cond (is_after last (place_of x.0)) (r >>= λ others. Some (x.0 ∷ others)) None) (ih (last_place last (place_of x.0)) x.1)
        ∙ by_others x.0 (is_after last (place_of x.0)) (last_place last (place_of x.0)) (sections_at compact fuel x.1) refl refl

place_is : (section : Section) → place_of section ≡ place_of_id (section_id section)
unfolding place_of_id
place_is (syntax.Custom name contents) = refl
place_is (syntax.TypeSection x) = refl
place_is (syntax.ImportSection x) = refl
place_is (syntax.FunctionSection x) = refl
place_is (syntax.TableSection x) = refl
place_is (syntax.MemorySection x) = refl
place_is (syntax.TagSection x) = refl
place_is (syntax.GlobalSection x) = refl
place_is (syntax.ExportSection x) = refl
place_is (syntax.StartSection x) = refl
place_is (syntax.ElementSection x) = refl
place_is (syntax.DataCountSection x) = refl
place_is (syntax.CodeSection x) = refl
place_is (syntax.DataSection x) = refl

content_place : (compact : Bool) (id : ℕ) (bytes : List ℕ) (section : Section) → content_of compact id bytes ≡ Some section → place_of section ≡ place_of_id id
content_place compact id bytes section e = place_is section ∙ ap place_of_id (content_id compact id bytes section e)

-- ---- the pieces from between two sections, or two bodies, on

abbrev left_at : ℕ → List ℕ → ℕ → Features → Left
left_at count part at f = record { count = count; input = record { rest = part; position = at; features = f } }

abbrev remains : ℕ → Left → Input → Remains
remains last bodies input = record { stage = Parts; last = last; bodies = bodies; input = input }

abbrev run : Bool → ℕ → Remains → Option Gathered
run compact fuel s = pieces_from s.stage fuel s >>= gathered compact

abbrev both : Option (List (List ℕ)) → Option (List Section) → Option Gathered
both bodies sections = bodies >>= λ b. sections >>= λ ss. Some (b, ss)

abbrev expected : Bool → ℕ → Remains → Option Gathered
expected compact n s = both (left_items (λ _. body_at) s.bodies) (ordered_at compact s.input.rest n s.last)

abbrev IsExpected : Bool → ℕ → ℕ → Remains → Type 0
IsExpected compact fuel n s = run compact fuel s ≡ expected compact n s

abbrev continued : ℕ → Piece × Remains → Option (List Piece)
continued fuel x = pieces_from x.1.stage fuel x.1 >>= λ others. Some (x.0 ∷ others)

after_piece : (compact : Bool) (p : Piece) (read : Option (List Piece)) → ((read >>= λ others. Some (p ∷ others)) >>= gathered compact) ≡ ((read >>= gathered compact) >>= add_piece compact p)
unfolding gathered
after_piece compact p None = refl
after_piece compact p (Some others) = refl

-- a body, and what follows it
body_expected : (compact : Bool) (body : Input) (items : Option (List (List ℕ) × List ℕ)) (sections : Option (List Section))
    → (both (filled items) sections >>= add_piece compact (Body body)) ≡ both (filled (items >>= λ others. Some (body.rest ∷ others.0, others.1))) sections
body_expected compact body None sections = refl
body_expected compact body (Some (xs, [])) None = refl
body_expected compact body (Some (xs, [])) (Some ss) = refl
body_expected compact body (Some (xs, b ∷ bs)) sections = refl

bodies_run : (compact : Bool) (fuel n c : ℕ) (s : Remains) → ((x : List ℕ × List ℕ) → body_at s.bodies.input.rest ≡ Some x → IsExpected compact fuel n (record s { bodies = record { count = c; input = input_after s.bodies.input x.1 } }))
    → ((body_piece c s >>= continued fuel) >>= gathered compact) ≡ both (filled (items_at body_at (suc c) s.bodies.input.rest)) (ordered_at compact s.input.rest n s.last)
unfolding body_piece items_at left_items
bodies_run compact fuel n c s ih = by_read (body_at s.bodies.input.rest) refl
  where
    by_read : (read : Option (List ℕ × List ℕ)) → body_at s.bodies.input.rest ≡ read
        → (((read >>= bodied s c) >>= continued fuel) >>= gathered compact)
        ≡ both (filled (read >>= λ first. items_at body_at c first.1 >>= λ others. Some (first.0 ∷ others.0, others.1))) (ordered_at compact s.input.rest n s.last)
    by_read None e = refl
    by_read (Some x) e =
        let body = input_before s.bodies.input x.0 x.1 in
        let new : Remains = record s { bodies = record { count = c; input = input_after s.bodies.input x.1 } } in
        after_piece compact (Body body) (pieces_from new.stage fuel new)
        ∙ ap (λ (r : Option Gathered). r >>= add_piece compact (Body body)) (ih x e)
        ∙ body_expected compact body (items_at body_at c x.1) (ordered_at compact s.input.rest n s.last)

-- where the bodies of a section don't read, the section doesn't
no_bodies : (compact : Bool) (before : Left) (id : ℕ) (content : Input) → left_items (λ _. body_at) before ≡ Some [] → left_items (λ _. body_at) (bodies_after before id content) ≡ None → content_of compact id content.rest ≡ None
unfolding bodies_after content_of
no_bodies compact before id content none h = elim (eqb_tells id 10) [
  | inl (t, same) ↦ by_read (limited_of content) refl (rw t at h) same
  | inr (t, other) ↦ let k : left_items (λ _. body_at) before ≡ None = rw t at h in let w = sym none ∙ k in absurd cc
]
  where
    by_read : (read : Option Limited) → limited_of content ≡ read → left_items (λ _. body_at) (bodies_in before read) ≡ None → id ≡ 10 → content_of compact id content.rest ≡ None
    by_read None e k same = let w = sym none ∙ k in absurd cc
    by_read (Some x) e k same =
        let all : filled (list_at body_at content.rest) ≡ None = sym (section_begins (λ _. body_at) content x e) ∙ k in
        rw (same, all) refl

-- ---- a section

-- what is left after the first piece of a section
abbrev after_frame : Remains → (ℕ × List ℕ) × List ℕ → Remains
after_frame s f = after_section s (framed s.input f)

abbrev in_section : Bool → ℕ → Remains → List ℕ → Section → Option (List Section)
in_section compact n s rest section =
    cond (is_after s.last (place_of section)) (ordered_at compact rest n (last_place s.last (place_of section)) >>= λ others. Some (section ∷ others)) None

abbrev before_sections : Option (List Section) → Option Gathered
before_sections read = read >>= λ ss. Some ([], ss)

-- a section whose place comes after the last one
in_place : (compact : Bool) (n id : ℕ) (s : Remains) (rest : List ℕ) (section : Section) → place_of section ≡ place_of_id id → is_after s.last (place_of_id id) ≡ true
    → in_section compact n s rest section ≡ (ordered_at compact rest n (last_place s.last (place_of_id id)) >>= λ others. Some (section ∷ others))
in_place compact n id s rest section p t = rw (p, t) refl

out_of_place : (compact : Bool) (n id : ℕ) (s : Remains) (rest : List ℕ) (section : Section) → place_of section ≡ place_of_id id → is_after s.last (place_of_id id) ≡ false → in_section compact n s rest section ≡ None
out_of_place compact n id s rest section p t = rw (p, t) refl

-- one content, whose piece is given and whose bodies and followers are read
content_run : (compact : Bool) (fuel n : ℕ) (s : Remains) (f : (ℕ × List ℕ) × List ℕ) → left_items (λ _. body_at) s.bodies ≡ Some [] → is_after s.last (place_of_id f.0.0) ≡ true
    → ((p : Piece) → piece_of f.0.0 (framed s.input f).content ≡ Some p → IsExpected compact fuel n (after_frame s f))
    → (((piece_of f.0.0 (framed s.input f).content >>= λ p. Some (p, after_frame s f)) >>= continued fuel) >>= gathered compact)
    ≡ before_sections (content_of compact f.0.0 f.0.1 >>= in_section compact n s f.1)
content_run compact fuel n s f none t ih = by_bodies (left_items (λ _. body_at) (bodies_after s.bodies id content)) refl
  where
    id : ℕ
    id = f.0.0

    content : Input
    content = (framed s.input f).content

    Goal : Option Piece → Option Section → Type 0
    Goal p c = (((p >>= λ p. Some (p, after_frame s f)) >>= continued fuel) >>= gathered compact) ≡ before_sections (c >>= in_section compact n s f.1)

    followers : Option (List Section)
    followers = ordered_at compact f.1 n (last_place s.last (place_of_id id))

    -- what a piece adds to what is expected after it
    piece_run : (p : Piece) → piece_of id content ≡ Some p
        → (((Some p >>= λ p. Some (p, after_frame s f)) >>= continued fuel) >>= gathered compact) ≡ (both (left_items (λ _. body_at) (bodies_after s.bodies id content)) followers >>= add_piece compact p)
    piece_run p e = after_piece compact p (pieces_from (after_frame s f).stage fuel (after_frame s f)) ∙ ap (λ (r : Option Gathered). r >>= add_piece compact p) (ih p e)

    unread : (p : Option Piece) → piece_of id content ≡ p → left_items (λ _. body_at) (bodies_after s.bodies id content) ≡ None → Goal p None
    unread None e h = refl
    unread (Some p) e h = piece_run p e ∙ rw h refl

    -- the same piece and content, with what follows them
    by_followers : (bodies : List (List ℕ)) (p : Piece) (c : Option Section) (read : Option (List Section)) → ((ss : List Section) → add_piece compact p (bodies, ss) ≡ with_section (bodies, ss) c)
        → (both (Some bodies) read >>= add_piece compact p) ≡ before_sections (c >>= λ section. read >>= λ others. Some (section ∷ others))
    by_followers bodies p None None k = refl
    by_followers bodies p (Some section) None k = refl
    by_followers bodies p None (Some ss) k = k ss
    by_followers bodies p (Some section) (Some ss) k = k ss

    placed : (c : Option Section) → content_of compact id f.0.1 ≡ c → (c >>= λ section. followers >>= λ others. Some (section ∷ others)) ≡ (c >>= in_section compact n s f.1)
    placed None e = refl
    placed (Some section) e = sym (in_place compact n id s f.1 section (content_place compact id f.0.1 section e) t)

    by_piece : (bodies : List (List ℕ)) (p : Option Piece) → left_items (λ _. body_at) (bodies_after s.bodies id content) ≡ Some bodies → piece_of id content ≡ p
        → ((ss : List Section) → with_piece compact (bodies, ss) p ≡ with_section (bodies, ss) (content_of compact id f.0.1)) → Goal p (content_of compact id f.0.1)
    by_piece bodies None h e k = by_content (content_of compact id f.0.1) (k [])
      where
        by_content : (c : Option Section) → None ≡ with_section (bodies, []) c → Goal None c
        by_content None w = refl
        by_content (Some section) w = absurd cc
    by_piece bodies (Some p) h e k =
        piece_run p e ∙ ap (λ (b : Option (List (List ℕ))). both b followers >>= add_piece compact p) h
        ∙ by_followers bodies p (content_of compact id f.0.1) followers k
        ∙ ap before_sections (placed (content_of compact id f.0.1) refl)

    by_bodies : (read : Option (List (List ℕ))) → left_items (λ _. body_at) (bodies_after s.bodies id content) ≡ read → Goal (piece_of id content) (content_of compact id f.0.1)
    by_bodies None h =
        subst (Goal (piece_of id content)) (sym (no_bodies compact s.bodies id content none h)) (unread (piece_of id content) refl h)
    by_bodies (Some bodies) h =
        by_piece bodies (piece_of id content) h refl (λ ss. content_is compact ss s.bodies id content bodies h)

section_run : (compact : Bool) (fuel n b : ℕ) (bs : List ℕ) (s : Remains) → s.input.rest ≡ b ∷ bs → left_items (λ _. body_at) s.bodies ≡ Some []
    → ((f : (ℕ × List ℕ) × List ℕ) (p : Piece) → section_piece s ≡ Some (p, after_frame s f) → IsExpected compact fuel n (after_frame s f))
    → ((section_piece s >>= continued fuel) >>= gathered compact) ≡ before_sections (ordered_at compact (b ∷ bs) (suc n) s.last)
unfolding section_piece frame_of section_at ordered_at
section_run compact fuel n b bs s all none ih = subst (λ (l : List ℕ). ((section_piece s >>= continued fuel) >>= gathered compact) ≡ before_sections ((frame_at l >>= step) >>= next)) all (by_frame (frame_at s.input.rest) refl)
  where
    step : (f : (ℕ × List ℕ) × List ℕ) → Option (Section × List ℕ)
    step f = content_of compact f.0.0 f.0.1 >>= λ section. Some (section, f.1)

    next : Section × List ℕ → Option (List Section)
    next x = cond (is_after s.last (place_of x.0)) (ordered_at compact x.1 n (last_place s.last (place_of x.0)) >>= λ others. Some (x.0 ∷ others)) None

    joined : (f : (ℕ × List ℕ) × List ℕ) (c : Option Section) → ((c >>= λ section. Some (section, f.1)) >>= next) ≡ (c >>= in_section compact n s f.1)
    joined f None = refl
    joined f (Some section) = refl

    late : (f : (ℕ × List ℕ) × List ℕ) (c : Option Section) → content_of compact f.0.0 f.0.1 ≡ c → is_after s.last (place_of_id f.0.0) ≡ false → (c >>= in_section compact n s f.1) ≡ None
    late f None e t = refl
    late f (Some section) e t = out_of_place compact n f.0.0 s f.1 section (content_place compact f.0.0 f.0.1 section e) t

    by_order : (f : (ℕ × List ℕ) × List ℕ) (t : Bool) → frame_at s.input.rest ≡ Some f → is_after s.last (place_of_id f.0.0) ≡ t
        → ((cond t (piece_of f.0.0 (framed s.input f).content >>= λ p. Some (p, after_frame s f)) None >>= continued fuel) >>= gathered compact)
        ≡ before_sections (content_of compact f.0.0 f.0.1 >>= in_section compact n s f.1)
    by_order f true e t = content_run compact fuel n s f none t (λ p h. ih f p (rw (e, t, h) refl))
    by_order f false e t = ap before_sections (sym (late f (content_of compact f.0.0 f.0.1) refl t))

    by_frame : (read : Option ((ℕ × List ℕ) × List ℕ)) → frame_at s.input.rest ≡ read
        → ((((read >>= λ f. Some (framed s.input f)) >>= sectioned s) >>= continued fuel) >>= gathered compact) ≡ before_sections ((read >>= step) >>= next)
    by_frame None e = refl
    by_frame (Some f) e = by_order f (is_after s.last (place_of_id f.0.0)) e refl ∙ ap before_sections (sym (joined f (content_of compact f.0.0 f.0.1)))

-- ---- all pieces after the header

less : (s new : Remains) (p : Piece) (fuel : ℕ) → at_most_remaining s.stage s ≤ suc fuel → next_piece s ≡ Some (p, new) → at_most_remaining new.stage new ≤ fuel
less s new p fuel le e = omega (arith, le, piece_less s new p e)

body_next : (s : Remains) (c : ℕ) (x : List ℕ × List ℕ) → body_at s.bodies.input.rest ≡ Some x → body_piece c s ≡ bodied s c x
unfolding body_piece
body_next s c x e = rw e refl

abbrev first_of : Remains → Frame → Piece → Option (Piece × Remains)
first_of s g p = Some (p, after_section s g)

-- what follows a section is shorter than what it begins
followers_few : (s : Remains) (f : (ℕ × List ℕ) × List ℕ) (p : Piece) (n : ℕ) → length s.input.rest ≤ suc n → section_piece s ≡ Some (p, after_frame s f) → length f.1 ≤ n
unfolding section_piece frame_of
followers_few s f p n few e =
    let a = bind_some (frame_of s.input) (sectioned s) (p, after_frame s f) e in
    let x = bind_some (frame_at s.input.rest) (λ f. Some (framed s.input f)) a.0 a.1 in
    let same : a.0.after.rest ≡ f.1 = by_order a.0 (is_after s.last (place_of_id a.0.id)) a.2 in
    let shown : x.0.1 ≡ a.0.after.rest = ap (λ (y : Frame). y.after.rest) (some_is (framed s.input x.0) a.0 x.2) in
    omega (arith, few, frame_shorter s.input.rest x.0.0 x.0.1 x.1, ap length same, ap length shown)
  where
    by_piece : (g : Frame) (read : Option Piece) → (read >>= first_of s g) ≡ Some (p, after_frame s f) → g.after.rest ≡ f.1
    by_piece g None h = absurd cc
    by_piece g (Some q) h = ap (λ (y : Piece × Remains). y.1.input.rest) (some_is (q, after_section s g) (p, after_frame s f) h)

    by_order : (g : Frame) (t : Bool) → cond t (piece_of g.id g.content >>= first_of s g) None ≡ Some (p, after_frame s f) → g.after.rest ≡ f.1
    by_order g true h = by_piece g (piece_of g.id g.content) h
    by_order g false h = absurd cc

parts_run : (compact : Bool) (fuel n last count at place : ℕ) (part bytes : List ℕ) (f g : Features)
    → suc (length part + length bytes) ≤ fuel → length bytes ≤ n
    → IsExpected compact fuel n (remains last (left_at count part at f) (record { rest = bytes; position = place; features = g }))
unfolding pieces_from next_piece left_items items_at ordered_at gathered
parts_run compact zero n last count at place part bytes f g le few = absurd (omega (arith, le))
parts_run compact (suc fuel) n last (suc c) at place part bytes f g le few =
    let s : Remains = remains last (left_at (suc c) part at f) (record { rest = bytes; position = place; features = g }) in
    bodies_run compact fuel n c s (λ x e.
    let new : Remains = record s { bodies = record { count = c; input = input_after s.bodies.input x.1 } } in
    parts_run compact fuel n last c new.bodies.input.position place x.1 bytes f g (less s new (Body (input_before s.bodies.input x.0 x.1)) fuel le (body_next s c x e)) few)
parts_run compact (suc fuel) n last zero at place (b ∷ bs) bytes f g le few = refl
parts_run compact (suc fuel) zero last zero at place [] [] f g le few = refl
parts_run compact (suc fuel) (suc n) last zero at place [] [] f g le few = refl
parts_run compact (suc fuel) zero last zero at place [] (b ∷ bs) f g le few = absurd (omega (arith, few))
parts_run compact (suc fuel) (suc n) last zero at place [] (b ∷ bs) f g le few =
    let s : Remains = remains last (left_at zero [] at f) (record { rest = b ∷ bs; position = place; features = g }) in
    section_run compact fuel n b bs s refl refl (λ x p e.
    let new : Remains = after_frame s x in
    let shorter : at_most_remaining Parts new ≤ fuel = less s new p fuel le e in
    parts_run compact fuel n new.last new.bodies.count new.bodies.input.position new.input.position new.bodies.input.rest new.input.rest new.bodies.input.features new.input.features
    shorter (followers_few s x p n few e))

-- ---- the header

header_taken : (h bytes : List ℕ) → starts_with nat_eq (take (length h) bytes) h ≡ starts_with nat_eq bytes h
header_taken [] bytes = refl
header_taken (x ∷ h) [] = refl
header_taken (x ∷ h) (b ∷ bs) = ap (λ (t : Bool). nat_eq x b && t) (header_taken h bs)

header_long : (h bytes : List ℕ) → starts_with nat_eq bytes h ≡ true → length h ≤ length bytes
header_long [] bytes e = omega arith
header_long (x ∷ h) [] e = absurd cc
header_long (x ∷ h) (b ∷ bs) e = omega (arith, header_long h bs (and_parts (nat_eq x b) (starts_with nat_eq bs h) e).1)

-- the order, and then the counts
checked : (read : Option (List Section)) → ((read >>= where_ordered 0) >>= where_counted) ≡ (read >>= in_order)
checked None = refl
checked (Some sections) = by_order (are_ordered 0 sections)
  where
    by_order : (t : Bool) → (cond t (Some sections) None >>= where_counted)
        ≡ cond (t && eqb (length (functions_of sections)) (length (bodies_of sections)) && are_counted sections) (Some sections) None
    by_order true = refl
    by_order false = refl

abbrev counted_sections : Option Gathered → Option (List Section)
counted_sections read = read >>= λ x. where_counted x.1

gathered_first : (compact : Bool) (read : Option (List Piece)) → (read >>= sections_in compact) ≡ counted_sections (read >>= gathered compact)
gathered_first compact None = refl
gathered_first compact (Some pieces) = refl

sections_alone : (read : Option (List Section)) → counted_sections (before_sections read) ≡ (read >>= where_counted)
sections_alone None = refl
sections_alone (Some sections) = refl

unchanged : (compact : Bool) (num : ℕ) (place : Place) (read : Option Gathered) → (read >>= add_piece compact (Version num place)) ≡ read
unchanged compact num place None = refl
unchanged compact num place (Some x) = refl

-- ---- modules

abbrev version : Settings → List ℕ → Piece
version settings bytes = Version 1 (whole_of (input_before (whole_module settings bytes).input (take 8 bytes) (drop 8 bytes)))

abbrev headless : Settings → List ℕ → Remains
headless settings bytes = record (whole_module settings bytes) { stage = Parts; input = input_after (whole_module settings bytes).input (drop 8 bytes) }

-- what comes after a header
headed_run : (settings : Settings) (compact : Bool) (bytes : List ℕ) → 8 ≤ length bytes
    → counted_sections ((pieces_from Parts (length bytes) (headless settings bytes) >>= λ others. Some (version settings bytes ∷ others)) >>= gathered compact) ≡ (sections_of compact (drop 8 bytes) >>= in_order)
unfolding left_items items_at sections_of
headed_run settings compact bytes long =
    let rest = drop 8 bytes in
    let short : suc (0 + length rest) ≤ length bytes = omega (arith, long, length-drop 8 bytes) in
    let s : Remains = headless settings bytes in
    ap counted_sections (after_piece compact (version settings bytes) (pieces_from Parts (length bytes) s)
    ∙ unchanged compact 1 (whole_of (input_before (whole_module settings bytes).input (take 8 bytes) rest)) (run compact (length bytes) s)
    ∙ parts_run compact (length bytes) (length rest) 0 0 settings.offset s.input.position [] rest settings.features settings.features short (omega arith))
    ∙ sections_alone (ordered_at compact rest (length rest) 0)
    ∙ ap (λ (r : Option (List Section)). r >>= where_counted) (ordered_are compact (length rest) 0 rest)
    ∙ checked (sections_at compact (length rest) rest)

pub module_is : (settings : Settings) (compact : Bool) (bytes : List ℕ) → (pieces_of settings bytes >>= sections_in compact) ≡ module_of compact bytes
unfolding pieces_from next_piece header_piece module_of bytes_at
module_is settings compact bytes = gathered_first compact (pieces_of settings bytes) ∙ by_length (leb 8 (length bytes)) refl
  where
    s : Remains
    s = whole_module settings bytes

    by_header : (u : Bool) → 8 ≤ length bytes
        → counted_sections ((cond u (Some (version settings bytes, headless settings bytes)) None >>= continued (length bytes)) >>= gathered compact) ≡ cond u (sections_of compact (drop 8 bytes) >>= in_order) None
    by_header true long = headed_run settings compact bytes long
    by_header false long = refl

    no_header : (u : Bool) → starts_with nat_eq bytes header ≡ u → leb 8 (length bytes) ≡ false → None ≡ cond u (sections_of compact (drop 8 bytes) >>= in_order) None
    no_header false e h = refl
    no_header true e h = let t : leb 8 (length bytes) ≡ true = le-leb 8 (length bytes) (header_long header bytes e) in let w = sym t ∙ h in absurd cc

    by_length : (t : Bool) → leb 8 (length bytes) ≡ t
        → counted_sections (((cond t (Some (take 8 bytes, drop 8 bytes)) None >>= headed s) >>= continued (length bytes)) >>= gathered compact) ≡ module_of compact bytes
    by_length true e =
        subst (λ (u : Bool). counted_sections ((cond u (Some (version settings bytes, headless settings bytes)) None >>= continued (length bytes)) >>= gathered compact) ≡ module_of compact bytes)
        (sym (header_taken header bytes)) (by_header (starts_with nat_eq bytes header) (leb-true 8 (length bytes) e))
    by_length false e = no_header (starts_with nat_eq bytes header) refl e

-- the same by the grammar
pub module_exactly : (settings : Settings) (compact : Bool) (bytes : List ℕ) (sections : List Section) → AreBytes bytes → IsModule compact bytes sections ↔ ((pieces_of settings bytes >>= sections_in compact) ≡ Some sections)
module_exactly settings compact bytes sections are =
    (λ m. module_is settings compact bytes ∙ (fills_module compact).again bytes sections m, λ e. (fills_module compact).found bytes sections are (sym (module_is settings compact bytes) ∙ e))
