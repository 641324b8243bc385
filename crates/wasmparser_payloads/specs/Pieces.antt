-- Modules as pieces, one after the other: the header, what stands first in each section, the bodies of functions, and the end. Core
-- Specification 3.0, Binary Format, "Modules".
use Rattle.std.specs.Prelude.{ℕ, zero, suc, ◌-◌, List, [], ◌∷◌, length, Option, Some, None, nat_eq, ◌==◌, if◌then◌else◌}
use Rattle.std.specs.List.{starts_with}
use Rattle.wasm_core_read.specs.Input.{Input, end}
use Rattle.wasm_core_read.specs.ModuleReading.{frame_at, is_after}
use Rattle.wasm_core_read.specs.PartReading.{body_at}
use Rattle.wasm_core_read.specs.Reading.{◌>>=◌, bytes_at, name_at, unsigned_at, filled}
use Rattle.wasm_spec.specs.Grammar.{header, last_place}
use Rattle.wasmparser_readers.specs.Sections.{Left, Limited, limited_of}
use Rattle.wasmparser_payloads.specs.declared.payloads.Stage.{Stage}
use Rattle.wasmparser_payloads.specs.declared.payloads.Stage.TheVariants.{Header, Parts, Done}

-- ---- what is given

-- some bytes of the input: the place of the first of them, and the place after the last one
pub record Place : Type 0 where
  pub start : ℕ
  pub after : ℕ

-- a custom section: where its content begins, its name, and what follows the name
pub record Named : Type 0 where
  pub start : ℕ
  pub name : List ℕ
  pub contents : List ℕ
  pub contents_start : ℕ

-- One piece of a module. The items of a section and the bodies of functions are still unread.
pub data Piece : Type 0 where
  Version : ℕ → Place → Piece
  Types : Limited → Piece
  Imports : Limited → Piece
  Functions : Limited → Piece
  Tables : Limited → Piece
  Memories : Limited → Piece
  Tags : Limited → Piece
  Globals : Limited → Piece
  Exports : Limited → Piece
  Start : ℕ → Place → Piece
  Elements : Limited → Piece
  DataCount : ℕ → Place → Piece
  CodeStart : ℕ → Place → ℕ → Piece
  Body : Input → Piece
  Segments : Limited → Piece
  Custom : Named → Piece
  Unknown : ℕ → List ℕ → Place → Piece
  End : ℕ → Piece

-- What is left of a module: whether its header was given, and its end; the place of the last section in the order of the grammar; the bodies
-- of the code section that are left; and what follows that section.
pub record Remains : Type 0 where
  pub stage : Stage
  pub last : ℕ
  pub bodies : Left
  pub input : Input

-- ---- parts of the input

-- all that is left of the input, as a place
abbrev pub whole_of : Input → Place
whole_of i = record { start = i.position; after = end i }

-- the last bytes of an input
abbrev pub input_after : Input → List ℕ → Input
input_after i rest = record { rest = rest; position = end i - length rest; features = i.features }

-- some bytes of an input, after which these are left
abbrev pub input_before : Input → List ℕ → List ℕ → Input
input_before i bytes rest = record { rest = bytes; position = end i - length rest - length bytes; features = i.features }

-- a section: its id, its content, and what follows it
pub record Frame : Type 0 where
  pub id : ℕ
  pub content : Input
  pub after : Input

abbrev pub framed : Input → (ℕ × List ℕ) × List ℕ → Frame
framed i f = record { id = f.0.0; content = input_before i f.0.1 f.1; after = input_after i f.1 }

unfoldable pub frame_of : Input → Option Frame
frame_of i = frame_at i.rest >>= λ f. Some (framed i f)

-- ---- contents of sections

-- the place of the sections of an id in the order of the grammar; custom and unknown sections have none
unfoldable pub place_of_id : ℕ → Option ℕ
place_of_id id =
    if id == 1 then Some 1
    else if id == 2 then Some 2
    else if id == 3 then Some 3
    else if id == 4 then Some 4
    else if id == 5 then Some 5
    else if id == 13 then Some 6
    else if id == 6 then Some 7
    else if id == 7 then Some 8
    else if id == 8 then Some 9
    else if id == 9 then Some 10
    else if id == 12 then Some 11
    else if id == 10 then Some 12
    else if id == 11 then Some 13
    else None

-- the number that a content is
unfoldable pub number_of : Input → Option ℕ
number_of content = filled (unsigned_at 32 content.rest)

unfoldable pub named_of : Input → Option Named
named_of content =
    name_at content.rest >>= λ x. Some (record { start = content.position; name = x.0; contents = x.1; contents_start = end content - length x.1 })

-- the piece that the code section with this content begins with
abbrev pub code_start : Input → Limited → Piece
code_start content section = CodeStart section.left.count (whole_of content) (length section.left.input.rest)

-- the piece that a section of this id begins with, where that is this content
unfoldable pub piece_of : ℕ → Input → Option Piece
piece_of id content =
    if id == 0 then (named_of content >>= λ x. Some (Custom x))
    else if id == 1 then (limited_of content >>= λ x. Some (Types x))
    else if id == 2 then (limited_of content >>= λ x. Some (Imports x))
    else if id == 3 then (limited_of content >>= λ x. Some (Functions x))
    else if id == 4 then (limited_of content >>= λ x. Some (Tables x))
    else if id == 5 then (limited_of content >>= λ x. Some (Memories x))
    else if id == 6 then (limited_of content >>= λ x. Some (Globals x))
    else if id == 7 then (limited_of content >>= λ x. Some (Exports x))
    else if id == 8 then (number_of content >>= λ n. Some (Start n (whole_of content)))
    else if id == 9 then (limited_of content >>= λ x. Some (Elements x))
    else if id == 10 then (limited_of content >>= λ x. Some (code_start content x))
    else if id == 11 then (limited_of content >>= λ x. Some (Segments x))
    else if id == 12 then (number_of content >>= λ n. Some (DataCount n (whole_of content)))
    else if id == 13 then (limited_of content >>= λ x. Some (Tags x))
    else Some (Unknown id content.rest (whole_of content))

-- the bodies of a code section, where it reads
abbrev pub bodies_in : Left → Option Limited → Left
bodies_in before None = before
bodies_in before (Some section) = section.left

-- the bodies that are left after the first piece of a section: those of a code section, else those that were left before it
unfoldable pub bodies_after : Left → ℕ → Input → Left
bodies_after before id content = if id == 10 then bodies_in before (limited_of content) else before

-- ---- the next piece

-- the header, as a piece
abbrev pub headed : Remains → List ℕ × List ℕ → Option (Piece × Remains)
headed s x =
    if starts_with nat_eq x.0 header
    then Some (Version 1 (whole_of (input_before s.input x.0 x.1)), record s { stage = Parts; input = input_after s.input x.1 })
    else None

unfoldable pub header_piece : Remains → Option (Piece × Remains)
header_piece s = bytes_at 8 s.input.rest >>= headed s

-- a body of the code section, after which so many are left
abbrev pub bodied : Remains → ℕ → List ℕ × List ℕ → Option (Piece × Remains)
bodied s others x =
    Some (Body (input_before s.bodies.input x.0 x.1), record s { bodies = record { count = others; input = input_after s.bodies.input x.1 } })

unfoldable pub body_piece : ℕ → Remains → Option (Piece × Remains)
body_piece others s = body_at s.bodies.input.rest >>= bodied s others

-- what is left after the first piece of a section
abbrev pub after_section : Remains → Frame → Remains
after_section s f = record s { last = last_place s.last (place_of_id f.id); bodies = bodies_after s.bodies f.id f.content; input = f.after }

-- a section, where it comes after the last one
abbrev pub sectioned : Remains → Frame → Option (Piece × Remains)
sectioned s f =
    if is_after s.last (place_of_id f.id)
    then (piece_of f.id f.content >>= λ p. Some (p, after_section s f))
    else None

unfoldable pub section_piece : Remains → Option (Piece × Remains)
section_piece s = frame_of s.input >>= sectioned s

-- a section, or the end of the input
abbrev pub piece_between : List ℕ → Remains → Option (Piece × Remains)
piece_between [] s = Some (End s.input.position, record s { stage = Done })
piece_between (b ∷ bs) s = section_piece s

-- a body, or after the last one, where nothing of the code section is left, what follows it
abbrev pub piece_within : ℕ → List ℕ → Remains → Option (Piece × Remains)
piece_within (suc others) bytes s = body_piece others s
piece_within zero (b ∷ bs) s = None
piece_within zero [] s = piece_between s.input.rest s

abbrev pub piece_in : Stage → Remains → Option (Piece × Remains)
piece_in Header s = header_piece s
piece_in Parts s = piece_within s.bodies.count s.bodies.input.rest s
piece_in Done s = None

-- The next piece, and what is left after it. There is none where the bytes don't begin with one, and none after the end.
unfoldable pub next_piece : Remains → Option (Piece × Remains)
next_piece s = piece_in s.stage s
