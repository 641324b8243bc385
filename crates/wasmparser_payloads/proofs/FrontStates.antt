-- What is known of the bytes of a module at each of its states.
use Rattle.std.proofs.Common.{◌≡◌, ◌<◌, ℕ, Bool, true, false, eqb, List, [], ◌∷◌, ◌++◌, Option, Some, refl, sym, ap, subst, ◌∙◌, inl, inr}
use Rattle.std.proofs.lemmas.Bool.Decides.{eqb_tells}
use Rattle.std.proofs.lemmas.List.{append-nil}
use Rattle.wasm_spec.specs.Bytes.{AreBytes}
use Rattle.wasm_spec.specs.Features.{CompactImports, has}
use Rattle.wasm_spec.specs.Grammar.{header, last_place}
use Rattle.wasm_spec.specs.Syntax.{Section}
use Rattle.wasm_core_read.specs.Input.{Input}
use Rattle.wasm_core_read.specs.ModuleReading.{content_of, frame_at, is_after}
use Rattle.wasm_core_read.specs.Reading.{unsigned_at}
use Rattle.wasm_core_read.proofs.Forms.{bind_some, some_is, rest_bytes}
use Rattle.wasm_validity.specs.Entries.{Entry, OfBody, entries_in}
use Rattle.wasmparser_payloads.specs.PieceEntries.{items_of, said_first, entries_said, Reaches, Begun, Further}
use Rattle.wasmparser_payloads.proofs.ContentEntries.{content_says, code_says}
use Rattle.wasmparser_payloads.proofs.FrontParts.{Between, Within, past_section, opened, past_body, closed, after_comes}
use Rattle.wasmparser_payloads.proofs.Steps.{IsStep, is_header, is_body, is_section, is_end, step_of}
use Rattle.wasmparser_payloads.proofs.UnreadLaws.{reached_features}
use Rattle.wasmparser_payloads.specs.declared.payloads.Stage.TheVariants.{Header, Parts, Done}
use Rattle.wasmparser_payloads.specs.Parsing.{Settings, whole_module}
use Rattle.wasmparser_payloads.specs.Pieces.{Piece, Place, Version, Body, End, Remains, input_after, input_before, framed, place_of_id, bodies_after, after_section}
use Rattle.wasmparser_readers.specs.Sections.{Left, Limited, limited_of}

-- The stage, and what the bytes say that were read: complete sections, or some bodies of a code section after them.
pub data IsFront (compact : Bool) (bytes : List ℕ) (s : Remains) (entries : List Entry) : Type 0 where
  between : ¬ (s.stage ≡ Header) → s.bodies.count ≡ 0 → s.bodies.input.rest ≡ [] → Between compact bytes s.last s.input.rest entries → IsFront compact bytes s entries
  within : ¬ (s.stage ≡ Header) → s.last ≡ 12 → Within compact bytes s.bodies.count s.bodies.input.rest s.input.rest entries → IsFront compact bytes s entries

-- where nothing is left of a code section, the sections are complete
pub completed : (compact : Bool) (bytes : List ℕ) (s : Remains) (entries : List Entry) → IsFront compact bytes s entries → s.bodies.count ≡ 0 → s.bodies.input.rest ≡ [] → Between compact bytes s.last s.input.rest entries
completed compact bytes s entries (between going count ended b) c e = b
completed compact bytes s entries (within going last w) c e =
    let u = subst (λ (n : ℕ). Within compact bytes n [] s.input.rest entries) c (subst (λ (l : List ℕ). Within compact bytes s.bodies.count l s.input.rest entries) e w) in
    subst (λ (n : ℕ). Between compact bytes n s.input.rest entries) (sym last) (closed compact bytes s.input.rest entries u)

going_front : (compact : Bool) (bytes : List ℕ) (s : Remains) (entries : List Entry) → IsFront compact bytes s entries → ¬ (s.stage ≡ Header)
going_front compact bytes s entries (between going count ended b) = going
going_front compact bytes s entries (within going last w) = going

-- ---- the bodies after a section

no_code : (before : Left) (id : ℕ) (content : Input) → eqb id 10 ≡ false → bodies_after before id content ≡ before
unfolding bodies_after
no_code before id content t = rw t refl

is_code : (before : Left) (id : ℕ) (content : Input) (x : Limited) → eqb id 10 ≡ true → limited_of content ≡ Some x → bodies_after before id content ≡ x.left
unfolding bodies_after
is_code before id content x t e = rw (t, e) refl

pub counted : (content : Input) (x : Limited) → limited_of content ≡ Some x → unsigned_at 32 content.rest ≡ Some (x.left.count, x.left.input.rest)
unfolding limited_of
counted content x e =
    let n = bind_some (unsigned_at 32 content.rest) _ x e in
    n.1 ∙ ap (λ (y : Limited). Some (y.left.count, y.left.input.rest)) (some_is _ x n.2)

-- ---- steps

-- the state after a section of no bodies
after_other : (compact : Bool) (bytes : List ℕ) (s : Remains) (entries said : List Entry) (f : (ℕ × List ℕ) × List ℕ) (section : Section) → ¬ (s.stage ≡ Header) → s.bodies.count ≡ 0 → s.bodies.input.rest ≡ []
    → eqb f.0.0 10 ≡ false → Between compact bytes s.last s.input.rest entries → frame_at s.input.rest ≡ Some f → is_after s.last (place_of_id f.0.0) ≡ true
    → content_of compact f.0.0 f.0.1 ≡ Some section → said ≡ entries_in section → IsFront compact bytes (after_section s (framed s.input f)) (entries ++ said)
after_other compact bytes s entries said f section going count ended t b e after c say =
    let same = no_code s.bodies f.0.0 (framed s.input f).content t in
    between going (ap (λ (l : Left). l.count) same ∙ count) (ap (λ (l : Left). l.input.rest) same ∙ ended)
    (subst (λ (es : List Entry). Between compact bytes (last_place s.last (place_of_id f.0.0)) f.1 (entries ++ es)) (sym say) (past_section compact bytes s.input.rest s.last entries f section b e after c))

code_place : place_of_id 10 ≡ Some 12
unfolding place_of_id
code_place = refl

-- the state after the beginning of a code section
after_code : (compact : Bool) (bytes : List ℕ) (s : Remains) (entries said : List Entry) (f : (ℕ × List ℕ) × List ℕ) (x : Limited) → ¬ (s.stage ≡ Header) → eqb f.0.0 10 ≡ true → f.0.0 ≡ 10
    → Between compact bytes s.last s.input.rest entries → frame_at s.input.rest ≡ Some f → is_after s.last (place_of_id f.0.0) ≡ true
    → limited_of (framed s.input f).content ≡ Some x → said ≡ [] → IsFront compact bytes (after_section s (framed s.input f)) (entries ++ said)
after_code compact bytes s entries said f x going t id b e after c say =
    let place : place_of_id f.0.0 ≡ Some 12 = ap place_of_id id ∙ code_place in
    let comes : s.last < 12 = after_comes s.last (Some 12) (subst (λ (p : Option ℕ). is_after s.last p ≡ true) place after) in
    let w = opened compact bytes s.input.rest s.last entries f (x.left.count, x.left.input.rest) b e id comes (counted (framed s.input f).content x c) in
    let same : x.left ≡ bodies_after s.bodies f.0.0 (framed s.input f).content = sym (is_code s.bodies f.0.0 (framed s.input f).content x t c) in
    let all : entries ≡ entries ++ said = sym (append-nil entries) ∙ ap (λ (l : List Entry). entries ++ l) (sym say) in
    within going (ap (last_place s.last) place)
    (subst (λ (es : List Entry). Within compact bytes (after_section s (framed s.input f)).bodies.count (after_section s (framed s.input f)).bodies.input.rest f.1 es) all
    (subst (λ (l : Left). Within compact bytes l.count l.input.rest f.1 entries) same w))

parts_going : (s : Remains) → s.stage ≡ Parts → ¬ (s.stage ≡ Header)
parts_going s t d = let w = sym t ∙ d in absurd cc

header_says : (num : ℕ) (place : Place) → entries_said (Version num place) ≡ Some []
unfolding entries_said items_of said_first
header_says num place = refl

body_says : (body : Input) → entries_said (Body body) ≡ Some (OfBody body.rest ∷ [])
unfolding entries_said items_of said_first
body_says body = refl

end_says : (place : ℕ) → entries_said (End place) ≡ Some []
unfolding entries_said items_of said_first
end_says place = refl

-- a piece after the header
pub past_piece : (compact : Bool) (bytes : List ℕ) (s new : Remains) (p : Piece) (entries said : List Entry) → has s.input.features CompactImports ≡ compact → IsFront compact bytes s entries
    → IsStep s p new → entries_said p ≡ Some said → IsFront compact bytes new (entries ++ said)
past_piece compact bytes s new p entries said is front (is_header num place rest stage begins p-is leaves) e = absurd (going_front compact bytes s entries front stage)
past_piece compact bytes s new p entries said is (between going none ended b) (is_body others body rest stage count reads p-is leaves) e = let w = sym none ∙ count in absurd cc
past_piece compact bytes s new p entries said is (within going last w) (is_body others body rest stage count reads p-is leaves) e =
    let says : OfBody body ∷ [] ≡ said = some_is (OfBody body ∷ []) said (sym (body_says (input_before s.bodies.input body rest)) ∙ ap entries_said (sym p-is) ∙ e) in
    let v = past_body compact bytes s.bodies.input.rest s.input.rest others entries body rest (subst (λ (n : ℕ). Within compact bytes n s.bodies.input.rest s.input.rest entries) count w) reads in
    subst (λ (x : Remains). IsFront compact bytes x (entries ++ said)) (sym leaves)
    (subst (λ (es : List Entry). IsFront compact bytes (record s { bodies = record { count = others; input = input_after s.bodies.input rest } }) (entries ++ es)) says (within going last v))
past_piece compact bytes s new p entries said is front (is_end place stage count ended rest p-is leaves) e =
    let b = completed compact bytes s entries front count ended in
    let says : [] ≡ said = some_is [] said (sym (end_says place) ∙ ap entries_said (sym p-is) ∙ e) in
    let all : entries ≡ entries ++ said = sym (append-nil entries) ∙ ap (λ (l : List Entry). entries ++ l) says in
    subst (λ (x : Remains). IsFront compact bytes x (entries ++ said)) (sym leaves)
    (subst (λ (es : List Entry). IsFront compact bytes (record s { stage = Done }) es) all (between (λ d. absurd cc) count ended b))
past_piece compact bytes s new p entries said is front (is_section f stage count ended frame after reads leaves) e =
    let b = completed compact bytes s entries front count ended in
    let going = parts_going s stage in
    subst (λ (x : Remains). IsFront compact bytes x (entries ++ said)) (sym leaves) (elim (eqb_tells f.0.0 10) [
      | inl (t, same) ↦
          let c = code_says f.0.0 (framed s.input f).content p said same reads e in
          after_code compact bytes s entries said f c.1 going t same b frame after c.2 c.0
      | inr (t, other) ↦
          let c = content_says f.0.0 (framed s.input f).content other p said reads e in
          after_other compact bytes s entries said f c.0 going count ended t b frame after (ap (λ (u : Bool). content_of u f.0.0 f.0.1) (sym is) ∙ c.1) c.2
    ])

-- before the header nothing is known
pub data IsReached (compact : Bool) (bytes : List ℕ) (start now : Remains) (entries : List Entry) : Type 0 where
  nothing : now ≡ start → entries ≡ [] → IsReached compact bytes start now entries
  some : IsFront compact bytes now entries → IsReached compact bytes start now entries

headed : (settings : Settings) (bytes : List ℕ) (compact : Bool) (p : Piece) (new : Remains) (said : List Entry) → AreBytes bytes → IsStep (whole_module settings bytes) p new → entries_said p ≡ Some said
    → IsFront compact bytes new said
headed settings bytes compact p new said are (is_header num place rest stage begins p-is leaves) e =
    let says : [] ≡ said = some_is [] said (sym (header_says num place) ∙ ap entries_said (sym p-is) ∙ e) in
    let b : Between compact bytes 0 rest said = record { sections = []; front = []; begins = begins; holds = refl; ordered = tt; ends = refl; say = sym says; are = rest_bytes bytes header rest are begins } in
    subst (λ (x : Remains). IsFront compact bytes x said) (sym leaves) (between (λ d. absurd cc) refl refl b)
headed settings bytes compact p new said are (is_body others body rest stage count reads p-is leaves) e = absurd cc
headed settings bytes compact p new said are (is_section f stage count ended frame after reads leaves) e = absurd cc
headed settings bytes compact p new said are (is_end place stage count ended rest p-is leaves) e = absurd cc

pub reached : (settings : Settings) (bytes : List ℕ) {now : Remains} {entries : List Entry} → AreBytes bytes → Reaches (whole_module settings bytes) entries now
    → IsReached (has settings.features CompactImports) bytes (whole_module settings bytes) now entries
reached settings bytes are Begun = nothing refl refl
reached settings bytes are (Further {entries = entries} {now = now} piece said {next = next} r e s) =
    by_before (reached settings bytes are r)
  where
    by_before : IsReached (has settings.features CompactImports) bytes (whole_module settings bytes) now entries → IsReached (has settings.features CompactImports) bytes (whole_module settings bytes) next (entries ++ said)
    by_before (nothing same none) =
        some (subst (λ (es : List Entry). IsFront (has settings.features CompactImports) bytes next (es ++ said)) (sym none)
        (headed settings bytes (has settings.features CompactImports) piece next said are (subst (λ (x : Remains). IsStep x piece next) same (step_of now piece next e)) s))
    by_before (some front) = some (past_piece (has settings.features CompactImports) bytes now next piece entries said (ap (λ f. has f CompactImports) (reached_features r)) front (step_of now piece next e) s)
