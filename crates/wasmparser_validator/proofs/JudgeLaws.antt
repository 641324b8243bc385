-- How a validator goes from piece to piece.
use Rattle.std.proofs.Common.{◌≡◌, inl, inr, ◌<◌, ℕ, true, false, List, [], ◌∷◌, length, Ok, refl, sym, ap, subst, ◌∙◌, arith}
use Rattle.std.proofs.lemmas.Bool.Decides.{nat_tests}
use Rattle.wasm_core_read.specs.Input.{Input}
use Rattle.wasm_spec.specs.Trees.{DefType}
use Rattle.wasm_spec.specs.Features.{Features}
use Rattle.wasm_validity.specs.Context.{Context, after_all}
use Rattle.wasm_validity.specs.Entries.{OfBody}
use Rattle.wasm_validity.specs.Rules.{KeepLimits}
use Rattle.wasmparser_payloads.specs.PieceEntries.{entries_said, items_of, said_first}
use Rattle.wasmparser_error.specs.declared.error.Error.{Error}
use Rattle.wasmparser_error.specs.declared.error.ErrorKind.{ErrorKind}
use Rattle.wasmparser_error.specs.declared.error.ErrorKind.TheVariants as kinds
use Rattle.wasmparser_payloads.specs.Pieces.{Piece, Version, Types, Imports, Functions, Tables, Memories, Tags, Globals, Exports, Start, Elements, DataCount, CodeStart, Body, Segments, Custom, Unknown, End}
use Rattle.wasmparser_validator.specs.PieceJudging.{AddsPiece, IsInPiece, NamesPiece, Says}
use Rattle.wasmparser_validator.specs.Judges.{AcceptsPiece, IsBodyWithin, IsOutOfOrder, Judge, NamesWaited, RefusesPiece, after_piece, agrees, follows_bodies, is_end, may_stand_between, is_version, place_of, stage_after, waiting, waits_for, waits_in}
use Rattle.wasmparser_validator.specs.Stages.{may_begin}
use Rattle.wasmparser_validator.specs.declared.validator.Stage.{Stage}
use Rattle.wasmparser_validator.specs.declared.validator.Stage.TheVariants as stages

-- a body comes only where there is a function without one
pub body_waited : (j : Judge) (body : Input) → waits_for j (Body body) ≡ true → j.bodies < length j.known.own_functions
unfolding waits_in follows_bodies is_version may_stand_between
body_waited j body w = by_stage j.stage w
  where
    by_stage : (stage : Stage) → waits_in stage j (Body body) ≡ true → j.bodies < length j.known.own_functions
    by_stage stages.Header w = absurd cc
    by_stage stages.Sections w = absurd cc
    by_stage stages.Code w = grind (arith, nat_tests)
    by_stage stages.End w = absurd cc
    by_stage stages.Failed w = absurd cc

-- after a piece that is waited for, a module has begun and not ended
pub middle_after : (j : Judge) (piece : Piece) → waits_for j piece ≡ true → may_begin (stage_after piece j.stage) ≡ false
unfolding waits_in stage_after follows_bodies is_version may_stand_between
middle_after j piece w = by_stage j.stage piece w
  where
    by_stage : (stage : Stage) (piece : Piece) → waits_in stage j piece ≡ true → may_begin (stage_after piece stage) ≡ false
    by_stage stages.Header (Version num place) w = refl
    by_stage stages.Header (Types items) w = absurd cc
    by_stage stages.Header (Imports items) w = absurd cc
    by_stage stages.Header (Functions items) w = absurd cc
    by_stage stages.Header (Tables items) w = absurd cc
    by_stage stages.Header (Memories items) w = absurd cc
    by_stage stages.Header (Tags items) w = absurd cc
    by_stage stages.Header (Globals items) w = absurd cc
    by_stage stages.Header (Exports items) w = absurd cc
    by_stage stages.Header (Start function place) w = absurd cc
    by_stage stages.Header (Elements items) w = absurd cc
    by_stage stages.Header (DataCount count place) w = absurd cc
    by_stage stages.Header (CodeStart count place size) w = absurd cc
    by_stage stages.Header (Body body) w = absurd cc
    by_stage stages.Header (Segments items) w = absurd cc
    by_stage stages.Header (Custom section) w = absurd cc
    by_stage stages.Header (Unknown id contents place) w = absurd cc
    by_stage stages.Header (End position) w = absurd cc
    by_stage stages.Sections (Version num place) w = refl
    by_stage stages.Sections (CodeStart count place size) w = refl
    by_stage stages.Sections _ w = refl
    by_stage stages.Code (Version num place) w = refl
    by_stage stages.Code (CodeStart count place size) w = refl
    by_stage stages.Code _ w = refl
    by_stage stages.End piece w = absurd cc
    by_stage stages.Failed piece w = absurd cc

pub out_of_order : (old new : Judge) (piece : Piece) (e : Error) → waits_for old piece ≡ false → IsOutOfOrder old.stage (place_of piece) old e new → RefusesPiece (waits_for old piece) old piece e new
out_of_order old new piece e not h = rw not h

pub number_refused : (old : Judge) (piece : Piece) → waits_for old piece ≡ true → agrees old piece ≡ false
    → RefusesPiece (waits_for old piece) old piece (record { offset = place_of piece; kind = kinds.Malformed }) (waiting old stages.Failed)
number_refused old piece waited not = rw waited (inl not, inl refl, refl)

pub ruleset open_steps = (out_of_order, number_refused)

-- what refuses a piece after all that is known is said of it, as it is waited for
pub piece_refused : (old : Judge) (piece : Piece) (e : Error) → waits_for old piece ≡ true → NamesPiece old.features old.known old.held piece e.kind → IsInPiece piece e.offset
    → RefusesPiece (waits_for old piece) old piece e (waiting old stages.Failed)
piece_refused old piece e waited names placed = rw waited (by_kind e.kind names, inr placed, refl)
  where
    by_kind : (kind : ErrorKind) → NamesPiece old.features old.known old.held piece kind → NamesWaited old piece kind
    by_kind kinds.Malformed h = inr h
    by_kind kinds.Invalid h = h
    by_kind (kinds.Limit l) h = h
    by_kind kinds.Operator h = h
    by_kind kinds.Body h = h
    by_kind kinds.Total h = h
    by_kind kinds.Order h = h
    by_kind kinds.Failed h = h
    by_kind kinds.Memory h = inl h

pub piece_accepted : (old : Judge) (piece : Piece) (known : Context) (held : List DefType) → waits_for old piece ≡ true → agrees old piece ≡ true → Says old.features old.known old.held piece known held
    → AcceptsPiece old piece (after_piece old piece known held)
piece_accepted old piece known held waited agreed says = record { waited = waited; agreed = agreed; known = known; new_held = held; says = says; after = refl }

pub ruleset judge_steps = (piece_refused, piece_accepted)

-- memory runs out at the end
pub end_refused : (old new : Judge) (position : ℕ) (e : Error) → waits_for old (End position) ≡ true → agrees old (End position) ≡ true → e ≡ record { offset = position; kind = kinds.Memory } → new ≡ waiting old stages.Failed
    → RefusesPiece (waits_for old (End position)) old (End position) e new
unfolding is_end place_of
end_refused old new position e waited agreed memory failed = rw (waited, memory) (inr (inl (refl, agreed)), inl refl, failed)

-- memory runs out for a body that is accepted otherwise
pub body_refused : (old mid new : Judge) (body : Input) (e : Error) (offset : ℕ) → AcceptsPiece old (Body body) mid → offset ≡ body.position → e ≡ record { offset = offset; kind = kinds.Memory }
    → new ≡ waiting mid stages.Failed → RefusesPiece (waits_for old (Body body)) old (Body body) e new
unfolding entries_said said_first items_of place_of IsBodyWithin
body_refused old mid new body e offset accepts at memory failed =
    let entries : OfBody body.rest ∷ [] ≡ accepts.says.entries = cc in
    let limits = subst (KeepLimits old.known) (sym entries) accepts.says.limits in
    rw (accepts.waited, memory) (inr (inr limits.0), inl at, failed ∙ ap (λ j. waiting j stages.Failed) accepts.after)

-- a body adds nothing to what is known
pub body_adds_nothing : (features : Features) (old new : Context) (old_held new_held : List DefType) (body : Input) (x : Unit {0}) → AddsPiece features old old_held (Body body) (Ok x) new new_held → new ≡ old
unfolding entries_said said_first items_of
body_adds_nothing features old new old_held new_held body x says =
    let entries : OfBody body.rest ∷ [] ≡ says.entries = cc in
    says.known ∙ ap (after_all old) (sym entries)

pub ruleset body_steps = (body_waited, body_refused)
