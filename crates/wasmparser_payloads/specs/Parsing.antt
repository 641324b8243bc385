-- Payloads of the code as pieces, and what calls answer that give them.
use Rattle.std.specs.Iterator.{Count, at_most}
use Rattle.std.specs.Prelude.{◌≡◌, ◌≤◌, ◌⊎◌, ℕ, suc, ◌+◌, List, [], length, Bool, true, false, Option, Some, None, Result, Ok, Err}
use Rattle.wasm_core_read.specs.Input.{Input, GoesOn, IsWithin, end}
use Rattle.wasm_core_read.specs.Reading.{bytes_at}
use Rattle.wasm_core_read.specs.declared.malformed.Malformed.{Malformed}
use Rattle.wasm_core_read.specs.ModuleReading.{is_after}
use Rattle.wasm_spec.specs.Features.{Features}
use Rattle.wasm_spec.specs.Grammar.{last_place}
use Rattle.wasmparser_error.specs.declared.error.Error.{Error}
use Rattle.wasmparser_error.specs.declared.error.ErrorKind.TheVariants as kinds
use Rattle.wasmparser_payloads.specs.Pieces.{Piece, Version, Types, Imports, Functions, Tables, Memories, Tags, Globals, Exports, Start, Elements, DataCount, CodeStart, Body, Segments, Custom, Unknown, End, Remains, input_before, input_after, next_piece, frame_of, place_of_id, bodies_after, piece_of}
use Rattle.wasmparser_payloads.specs.declared.payload.Payload.{Payload}
use Rattle.wasmparser_payloads.specs.declared.payload.Payload.TheVariants as payloads
use Rattle.wasmparser_payloads.specs.declared.payloads.Stage.{Stage}
use Rattle.wasmparser_payloads.specs.declared.payloads.Stage.TheVariants.{Header, Done}

-- the piece that a value of the code is
unfoldable pub piece : Payload → Piece
piece (payloads.Version num range) = Version num (record { start = range.start; after = range.end })
piece (payloads.TypeSection section) = Types section
piece (payloads.ImportSection section) = Imports section
piece (payloads.FunctionSection section) = Functions section
piece (payloads.TableSection section) = Tables section
piece (payloads.MemorySection section) = Memories section
piece (payloads.TagSection section) = Tags section
piece (payloads.GlobalSection section) = Globals section
piece (payloads.ExportSection section) = Exports section
piece (payloads.StartSection func range) = Start func (record { start = range.start; after = range.end })
piece (payloads.ElementSection section) = Elements section
piece (payloads.DataCountSection count range) = DataCount count (record { start = range.start; after = range.end })
piece (payloads.CodeSectionStart count range size) = CodeStart count (record { start = range.start; after = range.end }) size
piece (payloads.CodeSectionEntry body) = Body body
piece (payloads.DataSection section) = Segments section
piece (payloads.CustomSection section) = Custom section
piece (payloads.UnknownSection id contents range) = Unknown id contents.now (record { start = range.start; after = range.end })
piece (payloads.End position) = End position

-- ---- parsers

-- where the input of a parser begins, and under which features it is read
pub record Settings : Type 0 where
  pub offset : ℕ
  pub features : Features

-- a module of which nothing was given
abbrev pub whole_module : Settings → List ℕ → Remains
whole_module settings bytes = record {
  stage = Header;
  last = 0;
  bodies = record { count = 0; input = record { rest = []; position = settings.offset; features = settings.features } };
  input = record { rest = bytes; position = settings.offset; features = settings.features };
}

-- ---- answers

-- a place in what is left: of the bodies, or of what follows them
abbrev pub IsInside : Remains → ℕ → Type 0
IsInside s offset = IsWithin s.bodies.input offset ⊎ IsWithin s.input offset

-- What a call returned that gives a piece.
abbrev pub GivesPiece : Remains → Remains → Result Payload Malformed → Option (Piece × Remains) → Type 0
GivesPiece old new (Ok payload) next = next ≡ Some (piece payload, new)
GivesPiece old new (Err e) next = (next ≡ None) × IsInside old e.offset

-- What an iterator gave. After the end, or after a refusal, nothing is left.
abbrev pub GivesNext : Remains → Remains → Option (Result Payload Error) → Type 0
GivesNext old new None = (old.stage ≡ Done) × (new ≡ old)
GivesNext old new (Some (Ok payload)) = next_piece old ≡ Some (piece payload, new)
GivesNext old new (Some (Err e)) = (next_piece old ≡ None) × (e.kind ≡ kinds.Malformed) × IsInside old e.offset × (new.stage ≡ Done)

-- no more results come than this
abbrev pub at_most_remaining : Stage → Remains → ℕ
at_most_remaining Done s = 0
at_most_remaining _ s = suc (length s.bodies.input.rest + length s.input.rest)

abbrev pub count_of : Remains → Count
count_of s = at_most (at_most_remaining s.stage s)

-- What a call returned that reads so many bytes, as a reader of them.
abbrev pub GivesPart : ℕ → Input → Input → Result Input Malformed → Type 0
GivesPart len old new (Ok part) = (bytes_at len old.rest ≡ Some (part.rest, new.rest)) × GoesOn old new × (part ≡ input_before old part.rest new.rest) × (new ≡ input_after old new.rest) × (old.position ≤ part.position) × (end part ≤ end old)
GivesPart len old new (Err e) = (bytes_at len old.rest ≡ None) × GoesOn old new × IsWithin old e.offset

-- What a call returned that reads a section as a frame: its id, and a reader of its content.
abbrev pub GivesFrame : Input → Input → Result (ℕ × Input) Malformed → Type 0
GivesFrame old new (Ok x) = (frame_of old ≡ Some (record { id = x.0; content = x.1; after = new })) × (old.position ≤ x.1.position) × (end x.1 ≤ end old)
GivesFrame old new (Err e) = (frame_of old ≡ None) × IsWithin old e.offset

-- What a call returned that begins a section: the bodies that are left after its first piece.
abbrev pub BeginsSection : {T : Type 0} → ℕ → Input → Remains → Remains → Result T Malformed → Type 0
BeginsSection id content old new (Ok u) = new ≡ record old { bodies = bodies_after old.bodies id content }
BeginsSection id content old new (Err e) = (piece_of id content ≡ None) × IsWithin content e.offset

-- What a call returned that goes past a section of this id.
abbrev pub GoesPast : ℕ → Remains → Remains → Bool → Type 0
GoesPast id old new true = (is_after old.last (place_of_id id) ≡ true) × (new ≡ record old { last = last_place old.last (place_of_id id) })
GoesPast id old new false = is_after old.last (place_of_id id) ≡ false

-- ---- places

abbrev pub IsBetween : ℕ → ℕ → Input → Type 0
IsBetween first last i = (first ≤ i.position) × (end i ≤ last)

-- all that is left lies between two places of the input
pub record LieBetween (first last : ℕ) (s : Remains) : Type 0 where
  pub bodies : IsBetween first last s.bodies.input
  pub others : IsBetween first last s.input
