-- In which operator of a body a place is.
use Rattle.std.specs.Prelude.{◌≡◌, ◌≤◌, ◌<◌, ◌⊎◌, ℕ, ◌+◌, ◌-◌, List, [], length, Option, Some, None}
use Rattle.wasm_bodies.specs.OperatorRows.{OperatorCode, Byte, Prefixed}
use Rattle.wasm_bodies.specs.Operators.{Operator, Block, Loop, If, End}
use Rattle.wasm_core_read.specs.Input.{Input, GoesOn, end}
use Rattle.wasm_spec.specs.Features.{Features}
use Rattle.wasmparser_error.specs.declared.error.ErrorKind.{ErrorKind}
use Rattle.wasmparser_operators.specs.OperatorAnswers.{IsOperatorRefusal}
use Rattle.wasmparser_operators.specs.OperatorReading.{operator_at}
use Rattle.wasm_gen_explain.specs.Items.{EndsPast}
use Rattle.wasm_gen_explain.specs.Names.{name_of}

-- ---- blocks

-- how many blocks are open after an operator, where so many were open before it
unfoldable pub open_after : Operator ℕ → ℕ → ℕ
open_after (Block type) blocks = blocks + 1
open_after (Loop type) blocks = blocks + 1
open_after (If type) blocks = blocks + 1
open_after End blocks = blocks - 1
open_after _ blocks = blocks

-- what is left of a body, and how many blocks are open, the body's own included
pub record BodyLeft : Type 0 where
  pub input : Input
  pub blocks : ℕ

-- a body of which no operator is passed
abbrev pub whole_body : Input → BodyLeft
whole_body first = record { input = first; blocks = 1 }

-- ---- places

-- the next operator is refused
pub record IsRefused (features : Features) (bytes : List ℕ) : Type 0 where
  pub kind : ErrorKind
  pub refused : IsOperatorRefusal kind features bytes

-- The next operator ends past a place, or is refused.
abbrev pub IsUnpassed : ℕ → Input → Type 0
IsUnpassed offset i = IsRefused i.features i.rest ⊎ EndsPast (end i) offset (operator_at i.features i.rest)

-- the next operator reads and ends at a place or before it, and this is left
pub record PassesOperator (offset : ℕ) (old new : BodyLeft) : Type 0 where
  pub operator : Operator ℕ
  pub reads : operator_at old.input.features old.input.rest ≡ Some (operator, new.input.rest)
  pub goes_on : GoesOn old.input new.input
  pub ends : new.input.position ≤ offset
  pub opens : new.blocks ≡ open_after operator old.blocks

-- bytes are left, or a block is open; and the next operator ends past a place, or is refused
pub record StopsOperator (offset : ℕ) (now : BodyLeft) : Type 0 where
  pub lacks : (0 < now.blocks) ⊎ (0 < length now.input.rest)
  pub stops : IsUnpassed offset now.input

-- no block is open, and no bytes are left
pub record EndsBody (now : BodyLeft) : Type 0 where
  pub closed : now.blocks ≡ 0
  pub ended : now.input.rest ≡ []

-- ---- names

-- the name of a code
abbrev pub code_name : OperatorCode → List ℕ
code_name (Byte b) = name_of b 0
code_name (Prefixed prefix number) = name_of prefix number

-- the name of the code that some bytes begin with; where none reads, it is empty
abbrev pub front_name : Option (OperatorCode × List ℕ) → List ℕ
front_name None = []
front_name (Some code) = code_name code.0
