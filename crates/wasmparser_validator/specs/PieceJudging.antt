-- Judging the pieces of a module.
use Rattle.std.specs.Prelude.{◌≡◌, ◌⊎◌, ◌<◌, ℕ, Bool, true, false, List, [], ◌∷◌, ◌++◌, Option, Some, None, Result, Ok, Err}
use Rattle.wasm_core_types.specs.Limits as core
use Rattle.wasm_core_read.specs.Input.{Input, IsWithin}
use Rattle.wasm_spec.specs.Features.{Features}
use Rattle.wasm_spec.specs.Trees.{DefType}
use Rattle.wasm_validity.specs.Context.{Context, after_all}
use Rattle.wasm_validity.specs.Entries.{Entry}
use Rattle.wasm_validity.specs.Rules.{KeepRules, KeepLimits, PassLimit}
use Rattle.wasmparser_error.specs.declared.error.Error.{Error}
use Rattle.wasmparser_error.specs.declared.error.ErrorKind.{ErrorKind}
use Rattle.wasmparser_error.specs.declared.error.ErrorKind.TheVariants as kinds
use Rattle.wasmparser_payloads.specs.PieceEntries.{Items, items_of, said_first, entries_said, HasFront}
use Rattle.wasmparser_module_state.specs.History.{EnterAll, OneFindsNoRoom}
use Rattle.wasmparser_module_state.specs.Judging.{OneRunsOut}
use Rattle.wasmparser_payloads.specs.Pieces.{Piece, Version, Types, Imports, Functions, Tables, Memories, Tags, Globals, Exports, Start, Elements, DataCount, CodeStart, Body, Segments, Custom, Unknown, End}

-- ---- what a piece says

-- a piece with groups of types
unfoldable pub has_groups : Piece → Bool
has_groups (Types items) = true
has_groups piece = false

-- The entries of a piece keep the rules and pass no limit. new, new_held: what is known, and what the list of types holds, after it.
pub record Says (features : Features) (old : Context) (old_held : List DefType) (piece : Piece) (new : Context) (new_held : List DefType) : Type 0 where
  pub entries : List Entry
  pub said : entries_said piece ≡ Some entries
  pub rules : KeepRules features old entries
  pub limits : KeepLimits old entries
  pub known : new ≡ after_all old entries
  pub entered : EnterAll features old old_held entries new_held

-- entries at the front of a piece: what it says by itself, and maybe some of its items
pub data IsFrontOf (piece : Piece) (entries : List Entry) : Type 0 where
  by_itself : entries ≡ said_first piece → IsFrontOf piece entries
  with_some : (items : Items) (front : List Entry) → items_of piece ≡ Some items → HasFront items front → entries ≡ said_first piece ++ front → IsFrontOf piece entries

-- entries at the front of a piece of which something holds
pub record PieceBegins (piece : Piece) (Holds : List Entry → Type 0) : Type 0 where
  pub front : List Entry
  pub is : IsFrontOf piece front
  pub holds : Holds front

-- the body that a piece is, if it is one
unfoldable pub body_in : Piece → List Input
body_in (Body body) = body ∷ []
body_in _ = []

-- the data count that a piece states, if it is one
unfoldable pub count_in : Piece → List ℕ
count_in (DataCount count place) = count ∷ []
count_in _ = []

-- ---- places

-- The place is that of the first byte of a piece. Where nothing can be refused there is none.
unfoldable pub IsFirstOf : Piece → ℕ → Type 0
IsFirstOf (Version num place) offset = ⊥
IsFirstOf (Types items) offset = offset ≡ items.start
IsFirstOf (Imports items) offset = offset ≡ items.start
IsFirstOf (Functions items) offset = offset ≡ items.start
IsFirstOf (Tables items) offset = offset ≡ items.start
IsFirstOf (Memories items) offset = offset ≡ items.start
IsFirstOf (Tags items) offset = offset ≡ items.start
IsFirstOf (Globals items) offset = offset ≡ items.start
IsFirstOf (Exports items) offset = offset ≡ items.start
IsFirstOf (Start function place) offset = offset ≡ place.start
IsFirstOf (Elements items) offset = offset ≡ items.start
IsFirstOf (DataCount count place) offset = offset ≡ place.start
IsFirstOf (CodeStart count place size) offset = ⊥
IsFirstOf (Body body) offset = offset ≡ body.position
IsFirstOf (Segments items) offset = offset ≡ items.start
IsFirstOf (Custom section) offset = offset ≡ section.start
IsFirstOf (Unknown id contents place) offset = offset ≡ place.start
IsFirstOf (End place) offset = ⊥

abbrev pub IsAmong : Option Items → ℕ → Type 0
IsAmong None offset = ⊥
IsAmong (Some items) offset = IsWithin items.left.input offset

-- a place of the piece's bytes: its first byte, or among its items
abbrev pub IsInPiece : Piece → ℕ → Type 0
IsInPiece piece offset = IsFirstOf piece offset ⊎ IsAmong (items_of piece) offset

-- ---- answers

-- an item of a type section is left to read, which takes memory
unfoldable pub ReadsGroups : Piece → Type 0
ReadsGroups (Types items) = 0 < items.left.count
ReadsGroups piece = ⊥

-- what a refusal of a piece names
abbrev pub NamesPiece : Features → Context → List DefType → Piece → ErrorKind → Type 0
NamesPiece features old held piece kinds.Malformed = entries_said piece ≡ None
NamesPiece features old held piece kinds.Invalid = PieceBegins piece (λ entries. ¬ (KeepRules features old entries))
NamesPiece features old held piece (kinds.Limit l) = PieceBegins piece (λ entries. PassLimit (core.limit l) old entries)
NamesPiece features old held piece kinds.Total = PieceBegins piece (λ entries. OneFindsNoRoom features old held entries)
NamesPiece features old held piece kinds.Memory = ReadsGroups piece ⊎ PieceBegins piece (λ entries. OneRunsOut features old entries)
NamesPiece features old held piece _ = ⊥

-- the result of a call that validates a piece and adds its entries
abbrev pub AddsPiece : Features → Context → List DefType → Piece → Result (Unit {0}) Error → Context → List DefType → Type 0
AddsPiece features old old_held piece (Ok x) new new_held = Says features old old_held piece new new_held
AddsPiece features old old_held piece (Err e) new new_held = NamesPiece features old old_held piece e.kind × IsInPiece piece e.offset

-- the result of a call that refuses what begins at a place
abbrev pub RefusesAt : ℕ → Result (Unit {0}) Error → Type 0
RefusesAt place (Ok x) = ⊥
RefusesAt place (Err e) = e ≡ record { offset = place; kind = kinds.Malformed }
