-- Validating the operators of a body from its bytes: a means of proof, which laws tie to the rules on bodies.
use Rattle.std.specs.Prelude.{◌≡◌, ℕ, zero, suc, List, [], ◌∷◌, ◌++◌, length, Option, Some, None, if◌then◌else◌}
use Rattle.wasm_bodies.specs.Bodies.{IsBodyOf, IsBegun}
use Rattle.wasm_bodies.specs.BodyContext.{BodyContext}
use Rattle.wasm_bodies.specs.Effects.{Labels}
use Rattle.wasm_bodies.specs.Operands.{State}
use Rattle.wasm_bodies.specs.OperatorGrammar.{IsOperators, IsOtherCode}
use Rattle.wasm_bodies.specs.Operators.{Operator}
use Rattle.wasm_bodies_laws.specs.Machine.{Frame, Machine, stepped}
use Rattle.wasmparser_operators.specs.OperatorAnswers.{is_other}
use Rattle.wasmparser_operators.specs.OperatorReading.{code_at, operator_at}

-- the outcomes of bytes
pub data BodyOutcome : Type 0 where
  -- a body
  Fine : BodyOutcome
  -- there are too many locals
  ManyLocals : BodyOutcome
  -- a code stands there that no operator has
  OtherOperator : BodyOutcome
  -- no body, for another reason
  Broken : BodyOutcome

-- nothing follows the end of a body
abbrev pub end_outcome : List ℕ → BodyOutcome
end_outcome [] = Fine
end_outcome (b ∷ rest) = Broken

-- no operator reads
abbrev pub unread_outcome : List ℕ → BodyOutcome
unread_outcome bytes = if is_other (code_at bytes) then OtherOperator else Broken

-- an operator leads to this, if it may come, and then the others are validated
abbrev pub with_step : {R : Type 0} → Option (Machine R) → (Machine R → BodyOutcome) → BodyOutcome
with_step None others = Broken
with_step (Some n) others = others n

-- this reads as the next operator of the bytes, if one does
abbrev pub with_operator : {R : Type 0} → BodyContext R → Machine R → List ℕ → Option (Operator ℕ × List ℕ) → (Machine R → List ℕ → BodyOutcome) → BodyOutcome
with_operator cx m bytes None others = unread_outcome bytes
with_operator cx m bytes (Some read) others = with_step (stepped cx m read.0) (λ n. others n read.1)

-- these blocks are open; where none is, the body is at its end
abbrev pub where_open : {R : Type 0} → List (Frame R) → List ℕ → BodyOutcome → BodyOutcome
where_open [] bytes next = end_outcome bytes
where_open (f ∷ frames) bytes next = next

-- at most so many operators
unfoldable pub code_within : {R : Type 0} → BodyContext R → ℕ → Machine R → List ℕ → BodyOutcome
code_within cx zero m bytes = where_open m.frames bytes (unread_outcome bytes)
code_within cx (suc n) m bytes =
    where_open m.frames bytes (with_operator cx m bytes (operator_at cx.features bytes) (λ next rest. code_within cx n next rest))

-- operators after those that led to this machine, up to the body's end
unfoldable pub code_outcome : {R : Type 0} → BodyContext R → Machine R → List ℕ → BodyOutcome
code_outcome cx m bytes = code_within cx (length bytes) m bytes

-- ---- what they mean

-- the bytes are the operators of a body
pub record IsCode {R : Type 0} (cx : BodyContext R) (bytes : List ℕ) : Type 0 where
  pub operators : List (Operator ℕ)
  pub spelled : IsOperators cx.features bytes operators
  pub typed : IsBodyOf cx operators

-- after operators that some body begins with stands a code that no operator has
pub record HasOther {R : Type 0} (cx : BodyContext R) (bytes : List ℕ) : Type 0 where
  pub operators : List (Operator ℕ)
  pub labels : Labels R
  pub reached : State R
  pub encoding : List ℕ
  pub other : List ℕ
  pub rest : List ℕ
  pub begins : bytes ≡ encoding ++ (other ++ rest)
  pub spelled : IsOperators cx.features encoding operators
  pub begun : IsBegun cx operators labels reached
  pub is_other : IsOtherCode other
