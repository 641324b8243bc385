-- Validators that are handed a module piece by piece: what they wait for, and what their calls answer.
use Rattle.std.specs.Prelude.{◌≡◌, ◌⊎◌, ◌+◌, ◌==◌, ◌&&◌, ⊤, ℕ, Bool, true, false, [], length, nat_lt, Option, Some, None, IsSome, List, Result, Ok, Err, IfOk, IsErrAnd, if◌then◌else◌}
use Rattle.wasm_core_types.specs.declared.limits.Limit.TheVariants as limits
use Rattle.wasm_core_read.specs.Input.{Input}
use Rattle.wasm_spec.specs.Features.{Features, CompactImports, has}
use Rattle.wasm_spec.specs.Grammar.{IsModule}
use Rattle.wasm_spec.specs.Syntax.{Section}
use Rattle.wasm_spec.specs.Trees.{DefType}
use Rattle.wasm_validity.specs.Context.{Context, at_first}
use Rattle.wasm_validity.specs.Entries.{OfBody, entries_of}
use Rattle.wasm_validity.specs.Rules.{IsWithin}
use Rattle.wasmparser_error.specs.declared.error.Error.{Error}
use Rattle.wasmparser_error.specs.declared.error.ErrorKind.{ErrorKind}
use Rattle.wasmparser_error.specs.declared.error.ErrorKind.TheVariants as kinds
use Rattle.wasmparser_payloads.specs.PieceEntries.{entries_said, items_of}
use Rattle.wasmparser_module_state.specs.History.{EnterAll, held}
use Rattle.wasmparser_module_state.specs.State.{context, features_of}
use Rattle.wasmparser_payloads.specs.Pieces.{Piece, Version, Types, Imports, Functions, Tables, Memories, Tags, Globals, Exports, Start, Elements, DataCount, CodeStart, Body, Segments, Custom, Unknown, End}
use Rattle.wasmparser_validator.specs.PieceJudging.{IsInPiece, NamesPiece, Says, body_in}
use Rattle.wasmparser_validator.specs.Functions.{AsksFor, HasFunction}
use Rattle.wasmparser_validator.specs.KnownSpaces.{IsEndOf, KnownModule}
use Rattle.wasmparser_validator.specs.Validation.{IsValidated}
use Rattle.wasmparser_validator.specs.Validators.{ValidatorState}
use Rattle.wasmparser_func_validator.specs.declared.func_to_validate.FuncToValidate.{FuncToValidate}
use Rattle.wasmparser_validator.specs.declared.resources.ValidatorResources.{ValidatorResources}
use Rattle.wasmparser_validator.specs.declared.valid_payload.ValidPayload.{ValidPayload}
use Rattle.wasmparser_validator.specs.declared.valid_payload.ValidPayload.TheVariants as valid
use Rattle.wasmparser_validator.specs.declared.validator.Stage.{Stage}
use Rattle.wasmparser_validator.specs.declared.validator.Stage.TheVariants as stages

-- A validator: its name, what it waits for, the features, what it knows of the module so far, the types that it holds, how many bodies it was handed, and the
-- data count that was stated.
pub record Judge : Type 0 where
  pub id : ℕ
  pub stage : Stage
  pub features : Features
  pub known : Context
  pub held : List DefType
  pub bodies : ℕ
  pub stated : Option ℕ

abbrev pub judge : ValidatorState → Judge
judge v = record {
  id = v.types.id;
  stage = v.stage;
  features = features_of v.types.state;
  known = context v.types.state;
  held = held v.types.state;
  bodies = v.bodies;
  stated = v.data_count;
}

-- a validator of this name that waits for something, knows of no module and holds no types
abbrev pub waiting : Judge → Stage → Judge
waiting j stage = record { id = j.id; stage = stage; features = j.features; known = at_first; held = []; bodies = 0; stated = None }

-- ---- when a piece may come

-- In the middle of a module all sections may come until bodies do; the format's order of sections is the parser's matter.
unfoldable pub may_stand_between : Piece → Bool
may_stand_between (Version num place) = false
may_stand_between (Body body) = false
may_stand_between piece = true

-- what may come among bodies and after them
unfoldable pub follows_bodies : Judge → Piece → Bool
follows_bodies j (Body body) = nat_lt j.bodies (length j.known.own_functions)
follows_bodies j (Segments items) = true
follows_bodies j (Custom section) = true
follows_bodies j (End place) = true
follows_bodies j piece = false

unfoldable pub is_version : Piece → Bool
is_version (Version num place) = true
is_version piece = false

-- whether a validator waits for a piece
unfoldable pub waits_in : Stage → Judge → Piece → Bool
waits_in stages.Header j piece = is_version piece
waits_in stages.Sections j piece = may_stand_between piece
waits_in stages.Code j piece = follows_bodies j piece
waits_in stages.End j piece = false
waits_in stages.Failed j piece = false

abbrev pub waits_for : Judge → Piece → Bool
waits_for j piece = waits_in j.stage j piece

-- ---- numbers that the binary format compares

-- whether it is the number that is stated, if one is
abbrev pub agrees_with_stated : ℕ → Option ℕ → Bool
agrees_with_stated n None = true
agrees_with_stated n (Some count) = count == n

-- The version is 1, a code section has as many bodies as there are functions, and a data count agrees with another one and with the segments.
unfoldable pub agrees : Judge → Piece → Bool
agrees j (Version num place) = num == 1
agrees j (CodeStart count place size) = count == length j.known.own_functions
agrees j (DataCount count place) = agrees_with_stated count j.stated
agrees j (End place) = (length j.known.own_functions == j.bodies) && agrees_with_stated j.known.segments j.stated
agrees j piece = true

-- ---- what is known after a piece

unfoldable pub is_end : Piece → Bool
is_end (End position) = true
is_end piece = false

unfoldable pub bodies_with : Piece → ℕ → ℕ
bodies_with (Body body) bodies = bodies + 1
bodies_with piece bodies = bodies

unfoldable pub stated_with : Piece → Option ℕ → Option ℕ
stated_with (DataCount count place) stated = Some count
stated_with piece stated = stated

unfoldable pub stage_after : Piece → Stage → Stage
stage_after (Version num place) stage = stages.Sections
stage_after (CodeStart count place size) stage = stages.Code
stage_after piece stage = stage

-- after a piece that is accepted, this is known
abbrev pub after_piece : Judge → Piece → Context → List DefType → Judge
after_piece j piece known held = record {
  id = j.id;
  stage = stage_after piece j.stage;
  features = j.features;
  known = known;
  held = held;
  bodies = bodies_with piece j.bodies;
  stated = stated_with piece j.stated;
}

-- the place at which a piece is refused that is not waited for, or a number in it that does not agree
unfoldable pub place_of : Piece → ℕ
place_of (Version num place) = place.start
place_of (Types items) = items.start
place_of (Imports items) = items.start
place_of (Functions items) = items.start
place_of (Tables items) = items.start
place_of (Memories items) = items.start
place_of (Tags items) = items.start
place_of (Globals items) = items.start
place_of (Exports items) = items.start
place_of (Start function place) = place.start
place_of (Elements items) = items.start
place_of (DataCount count place) = place.start
place_of (CodeStart count place size) = place.start
place_of (Body body) = body.position
place_of (Segments items) = items.start
place_of (Custom section) = section.start
place_of (Unknown id contents place) = place.start
place_of (End position) = position

-- ---- answers

-- Nothing was waited for: a validator that failed says so, and one whose module has ended stays as it is; any other one fails.
abbrev pub IsOutOfOrder : Stage → ℕ → Judge → Error → Judge → Type 0
IsOutOfOrder stages.Failed place old e new = (e ≡ record { offset = place; kind = kinds.Failed }) × (new ≡ old)
IsOutOfOrder stages.End place old e new = (e ≡ record { offset = place; kind = kinds.Order }) × (new ≡ old)
IsOutOfOrder stage place old e new = (e ≡ record { offset = place; kind = kinds.Order }) × (new ≡ waiting old stages.Failed)

-- a body within the limits
unfoldable pub IsBodyWithin : Context → Piece → Type 0
IsBodyWithin known (Body body) = IsWithin known (OfBody body.rest)
IsBodyWithin known piece = ⊥

-- what a refusal of a piece names that was waited for; bodies within the limits and an end whose numbers agree take memory too
abbrev pub NamesWaited : Judge → Piece → ErrorKind → Type 0
NamesWaited j piece kinds.Malformed = (agrees j piece ≡ false) ⊎ (entries_said piece ≡ None)
NamesWaited j piece kinds.Memory = NamesPiece j.features j.known j.held piece kinds.Memory ⊎ ((is_end piece ≡ true) × (agrees j piece ≡ true)) ⊎ IsBodyWithin j.known piece
NamesWaited j piece kind = NamesPiece j.features j.known j.held piece kind

-- the place of a refusal of a piece that was waited for
abbrev pub IsWaitedAt : Piece → ℕ → Type 0
IsWaitedAt piece offset = (offset ≡ place_of piece) ⊎ IsInPiece piece offset

-- what refuses a piece, and how a validator goes on
abbrev pub RefusesPiece : Bool → Judge → Piece → Error → Judge → Type 0
RefusesPiece true old piece e new = NamesWaited old piece e.kind × IsWaitedAt piece e.offset × (new ≡ waiting old stages.Failed)
RefusesPiece false old piece e new = IsOutOfOrder old.stage (place_of piece) old e new

-- A piece is accepted that is waited for, whose numbers agree, and which keeps the rules and limits after what is known.
pub record AcceptsPiece (old : Judge) (piece : Piece) (new : Judge) : Type 0 where
  pub waited : waits_for old piece ≡ true
  pub agreed : agrees old piece ≡ true
  pub known : Context
  pub new_held : List DefType
  pub says : Says old.features old.known old.held piece known new_held
  pub after : new ≡ after_piece old piece known new_held

-- the result of a call that is handed a piece of a module
abbrev pub JudgesPiece : {T : Type 0} → Judge → Piece → Result T Error → Judge → Type 0
JudgesPiece old piece (Ok x) new = AcceptsPiece old piece new
JudgesPiece old piece (Err e) new = RefusesPiece (waits_for old piece) old piece e new

-- the result of a call that only checks that a piece may come
abbrev pub Opens : Judge → Piece → Result (Unit {0}) Error → Judge → Type 0
Opens old piece (Ok x) new = (waits_for old piece ≡ true) × (agrees old piece ≡ true) × (new ≡ old)
Opens old piece (Err e) new = RefusesPiece (waits_for old piece) old piece e new

-- a validator is in the middle of a module
abbrev pub is_middle : Stage → Bool
is_middle stages.Sections = true
is_middle stages.Code = true
is_middle stage = false

-- The end is accepted where it is waited for and all numbers agree. What is shown then is all that was known of the module. Its types stay in the list, and another one
-- may begin once the validator is reset.
pub record AcceptsEnd (old : Judge) (position : ℕ) (shown : KnownModule) (new : Judge) : Type 0 where
  pub waited : waits_for old (End position) ≡ true
  pub agreed : agrees old (End position) ≡ true
  pub named : shown.id ≡ old.id
  pub features : features_of shown.state ≡ old.features
  pub all : context shown.state ≡ old.known
  pub all_types : held shown.state ≡ old.held
  pub after : new ≡ record (waiting old stages.End) { held = old.held }

-- the result of a call that ends a module
abbrev pub EndsModule : Judge → ℕ → Result KnownModule Error → Judge → Type 0
EndsModule old position (Ok shown) new = AcceptsEnd old position shown new
EndsModule old position (Err e) new = RefusesPiece (waits_for old (End position)) old (End position) e new

-- the result of a call that is handed a body: the function next in turn, whose body it is
abbrev pub GivesFunction : Judge → Input → Result (FuncToValidate ValidatorResources) Error → Judge → Type 0
GivesFunction old body (Ok function) new = AcceptsPiece old (Body body) new × HasFunction old.features old.known old.bodies function
GivesFunction old body (Err e) new = RefusesPiece (waits_for old (Body body)) old (Body body) e new

-- ---- payloads

-- the result for a piece that is accepted: the index spaces for the end, a function for a body, and nothing for others
abbrev pub GivesValid : Judge → Piece → ValidPayload → Judge → Type 0
GivesValid old piece valid.Ok new = AcceptsPiece old piece new × (is_end piece ≡ false) × (body_in piece ≡ [])
GivesValid old piece (valid.Func function body) new = AcceptsPiece old piece new × (piece ≡ Body body) × HasFunction old.features old.known old.bodies function
GivesValid old piece (valid.End shown) new = (position : ℕ) × (piece ≡ End position) × AcceptsEnd old position shown new

-- at the end just what is known is shown, and bodies ask for just that, by the same ids
abbrev pub ShowsAll : KnownModule → ValidPayload → Type 0
ShowsAll known (valid.End shown) = IsEndOf known shown
ShowsAll known (valid.Func function body) = AsksFor known function
ShowsAll known given = ⊤

-- the result of a call that is handed a payload
abbrev pub JudgesPayload : Judge → Piece → Result ValidPayload Error → Judge → Type 0
JudgesPayload old piece (Ok given) new = GivesValid old piece given new
JudgesPayload old piece (Err e) new = RefusesPiece (waits_for old piece) old piece e new

-- ---- whole modules

-- A module was refused in a body: its groups are in the list, and another module may come.
pub record EndsInBody (features : Features) (old_held : List DefType) (bytes : List ℕ) (goes_on : Bool) (new_held : List DefType) : Type 0 where
  pub may : goes_on ≡ true
  pub sections : List Section
  pub reads : IsModule (has features CompactImports) bytes sections
  pub entered : EnterAll features at_first old_held (entries_of sections) new_held

-- A module was refused before its bodies: nothing is held, and no other module may come.
pub record IsLost (goes_on : Bool) (new_held : List DefType) : Type 0 where
  pub may_not : goes_on ≡ false
  pub nothing : new_held ≡ []

-- Memory may run out in sections and in bodies; any other refusal tells which it is one of.
abbrev pub GoesOnAfter : ErrorKind → Features → List DefType → List ℕ → Bool → List DefType → Type 0
GoesOnAfter kinds.Operator features old_held bytes goes_on new_held = EndsInBody features old_held bytes goes_on new_held
GoesOnAfter kinds.Body features old_held bytes goes_on new_held = EndsInBody features old_held bytes goes_on new_held
GoesOnAfter (kinds.Limit limits.Locals) features old_held bytes goes_on new_held = EndsInBody features old_held bytes goes_on new_held
GoesOnAfter kinds.Memory features old_held bytes goes_on new_held = IsLost goes_on new_held ⊎ EndsInBody features old_held bytes goes_on new_held
GoesOnAfter kind features old_held bytes goes_on new_held = IsLost goes_on new_held

-- the stage after a whole module, and the types that the list holds then
abbrev pub GoesOn : Features → List DefType → List ℕ → Result KnownModule Error → Bool → List DefType → Type 0
GoesOn features old_held bytes (Ok shown) goes_on new_held = (goes_on ≡ true) × (new_held ≡ held shown.state)
GoesOn features old_held bytes (Err e) goes_on new_held = GoesOnAfter e.kind features old_held bytes goes_on new_held

abbrev pub stage_after_all : Bool → Stage
stage_after_all goes_on = if goes_on then stages.End else stages.Failed

-- the result of a call that is handed a whole module, which is validated where one may begin
abbrev pub JudgesAll : Stage → Judge → List ℕ → Result KnownModule Error → Judge → Type 0
JudgesAll stages.Header old bytes result new =
    IsValidated old.features old.held bytes result × IfOk result (λ shown. shown.id ≡ old.id)
    × (goes_on : Bool) × (new_held : List DefType) × GoesOn old.features old.held bytes result goes_on new_held × (new ≡ record (waiting old (stage_after_all goes_on)) { held = new_held })
JudgesAll stage old bytes result new = IsErrAnd result (λ e. IsOutOfOrder stage 0 old e new)
