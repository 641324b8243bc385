-- What a reader of operators answers.
use Rattle.std.specs.Prelude.{◌≡◌, ◌≤◌, ◌<◌, ◌⊎◌, ◌++◌, ◌==◌, ℕ, Bool, true, false, not, List, length, Option, Some, None, Result, Ok, Err}
use Rattle.std.specs.List.{Any}
use Rattle.wasm_bodies.specs.OperatorGrammar.{is_among_codes, IsOperator, IsOtherCode}
use Rattle.wasm_bodies.specs.OperatorRows.{OperatorCode}
use Rattle.wasm_bodies.specs.Operators as spec
use Rattle.wasm_core_read.specs.Input.{Input, GoesOn, IsWithin}
use Rattle.wasm_core_read.specs.Laws.{Begins, IsRead}
use Rattle.wasm_spec.specs.Features.{Features}
use Rattle.wasmparser_error.specs.declared.error.Error.{Error}
use Rattle.wasmparser_error.specs.declared.error.ErrorKind.{ErrorKind}
use Rattle.wasmparser_error.specs.declared.error.ErrorKind.TheVariants as kinds
use Rattle.wasmparser_types.specs.Index.{packable}
use Rattle.wasmparser_readers.specs.Answers.{HasLargeIndex}
use Rattle.wasmparser_operators.specs.OperatorReading.{code_at, operator_at, packed_indexes}
use Rattle.wasmparser_operators.specs.OperatorValues.{IsWhole, operator}
use Rattle.wasmparser_operators.specs.declared.operator.Operator.{Operator}

-- what is left of a body, and whether the last operator that was read is an end
pub record OperatorsLeft : Type 0 where
  pub input : Input
  pub is_ended : Bool

unfoldable pub is_end : spec.Operator ℕ → Bool
is_end spec.End = true
is_end _ = false

-- the byte is that of an end
abbrev pub begins_end : Option ℕ → Bool
begins_end None = false
begins_end (Some b) = b == 0x0b

-- ---- by the reading function

-- no operator has the code
unfoldable pub is_other_code : OperatorCode → Bool
is_other_code code = not (is_among_codes code)

abbrev pub is_other : Option (OperatorCode × List ℕ) → Bool
is_other None = false
is_other (Some code) = is_other_code code.0

-- a code outside of the table; or else no operator reads, or one whose value type has an index too large to be packed
abbrev pub IsOperatorRefusal : ErrorKind → Features → List ℕ → Type 0
IsOperatorRefusal kinds.Operator features bytes = is_other (code_at bytes) ≡ true
IsOperatorRefusal kinds.Body features bytes =
    ((operator_at features bytes ≡ None) × (is_other (code_at bytes) ≡ false)) ⊎ HasLargeIndex packed_indexes (operator_at features bytes)
IsOperatorRefusal _ features bytes = ⊥

-- What a call returned that reads the next operator. A refusal leaves the reader as it was.
abbrev pub ReadsNextOperator : OperatorsLeft → OperatorsLeft → Result Operator Error → Type 0
ReadsNextOperator old new (Ok x) =
    (operator_at old.input.features old.input.rest ≡ Some (operator x, new.input.rest)) × IsWhole x × GoesOn old.input new.input × (new.is_ended ≡ is_end (operator x))
ReadsNextOperator old new (Err e) = IsOperatorRefusal e.kind old.input.features old.input.rest × IsWithin old.input e.offset × (new ≡ old)

-- ---- by the grammar

-- the bytes begin with a code that no operator has
abbrev pub BeginsOther : List ℕ → Type 0
BeginsOther bytes = (code rest : List ℕ) × (bytes ≡ code ++ rest) × IsOtherCode code

-- the bytes begin with no operator
abbrev pub BeginsNone : Features → List ℕ → Type 0
BeginsNone features bytes = (operator : spec.Operator ℕ) (rest : List ℕ) → ¬ (Begins (IsOperator features) bytes operator rest)

-- the bytes begin with an operator whose value type has an index that is too large to be packed
abbrev pub BeginsLarge : Features → List ℕ → Type 0
BeginsLarge features bytes = (operator : spec.Operator ℕ) × (rest : List ℕ) × Begins (IsOperator features) bytes operator rest × Any (λ index. packable ≤ index) (packed_indexes operator)

abbrev pub IsRefusedOperator : ErrorKind → Features → List ℕ → Type 0
IsRefusedOperator kinds.Operator features bytes = BeginsOther bytes
IsRefusedOperator kinds.Body features bytes = (BeginsNone features bytes × ¬ (BeginsOther bytes)) ⊎ BeginsLarge features bytes
IsRefusedOperator _ features bytes = ⊥

-- What a call returned that reads the next operator is what the bytes begin with, and nothing else is.
abbrev pub IsNextOperator : OperatorsLeft → OperatorsLeft → Result Operator Error → Type 0
IsNextOperator old new (Ok x) = IsRead (IsOperator old.input.features) old.input new.input (operator x)
IsNextOperator old new (Err e) = IsRefusedOperator e.kind old.input.features old.input.rest

-- ---- at the end

-- The last operator was an end and nothing is left; or else one of the two doesn't hold.
abbrev pub Finishes : {T : Type 0} → OperatorsLeft → Result T Error → Type 0
Finishes left (Ok u) = (left.is_ended ≡ true) × (length left.input.rest ≡ 0)
Finishes left (Err e) = (e.kind ≡ kinds.Body) × (e.offset ≡ left.input.position) × ((left.is_ended ≡ false) ⊎ (0 < length left.input.rest))
