-- Constant expressions that are parts of an input, and reading their operators one by one.
use Rattle.std.specs.Iterator.{Count, at_most}
use Rattle.std.specs.Prelude.{◌≡◌, ◌<◌, ◌⊎◌, ◌||◌, ℕ, Bool, true, false, nat_eq, List, [], ◌∷◌, length, Option, Some, None, Result, Ok, Err}
use Rattle.wasm_core_read.specs.ConstantReading.{expression_at}
use Rattle.wasm_core_read.specs.Input.{Input, GoesOn, IsWithin}
use Rattle.wasm_core_read.specs.Reading.{◌>>=◌}
use Rattle.wasm_core_read.specs.declared.malformed.Malformed.{Malformed}
use Rattle.wasm_spec.specs.Constants.{ConstantOperator, ConstantExpression}
use Rattle.wasmparser_readers.specs.Passing.{rest_of, read_or}
use Rattle.wasmparser_entries.specs.ConstOperators.{NamesModuleType, const_operator}
use Rattle.wasmparser_entries.specs.declared.const_operator.ConstOperator.{ConstOperator}

-- the expression that some bytes begin with
abbrev pub expression_of : List ℕ → ConstantExpression
expression_of bytes = read_or [] (expression_at bytes)

-- the bytes are an expression, and nothing follows it
abbrev pub IsExpression : List ℕ → Type 0
IsExpression bytes = expression_at bytes ≡ Some (expression_of bytes, [])

-- the bytes are the operators that are still to come, and the end, or nothing is left
abbrev pub AreOperators : List ℕ → Type 0
AreOperators bytes = (bytes ≡ []) ⊎ IsExpression bytes

-- whether there are no operators
abbrev pub are_none : ConstantExpression → Bool
are_none [] = true
are_none (first ∷ others) = false

-- an operator, and those that are read after it
abbrev pub with_first : ConstantOperator → Option (ConstantExpression × List ℕ) → Option (ConstantExpression × List ℕ)
with_first first read = read >>= λ others. Some (first ∷ others.0, others.1)

-- What a call returned that reads the next operator of an expression, or its end.
abbrev pub ReadsStep : Input → Input → Result (Option ConstOperator) Malformed → Type 0
ReadsStep old new (Ok None) = (expression_at old.rest ≡ Some ([], new.rest)) × GoesOn old new
ReadsStep old new (Ok (Some operator)) =
    (expression_at old.rest ≡ with_first (const_operator operator) (expression_at new.rest)) × NamesModuleType operator × GoesOn old new × (old.position < new.position)
ReadsStep old new (Err e) = (expression_at old.rest ≡ None) × GoesOn old new × IsWithin old e.offset

-- What a call returned that passes over the next operator, or over the end: whether that was the end.
abbrev pub PassesStep : Input → Input → Result Bool Malformed → Type 0
PassesStep old new (Ok true) = (expression_at old.rest ≡ Some ([], new.rest)) × GoesOn old new
PassesStep old new (Ok false) = (rest_of (expression_at old.rest) ≡ rest_of (expression_at new.rest)) × GoesOn old new × (old.position < new.position)
PassesStep old new (Err e) = (expression_at old.rest ≡ None) × GoesOn old new × IsWithin old e.offset

-- whether a number stands after a code, and nothing else
abbrev pub takes_number : ℕ → Bool
takes_number code = nat_eq code 0x23 || (nat_eq code 0x41 || (nat_eq code 0x42 || nat_eq code 0xd2))

-- What a call returned that passes over an expression of few bytes, or over nothing.
abbrev pub PassesShort : Input → Input → Bool → Type 0
PassesShort old new true = (rest_of (expression_at old.rest) ≡ Some new.rest) × GoesOn old new
PassesShort old new false = new ≡ old

-- What an iterator gave: the first of the operators that were left, and the others are left.
abbrev pub GivesOperator : ConstantExpression → ConstantExpression → Option ConstOperator → Type 0
GivesOperator old new None = (old ≡ []) × (new ≡ [])
GivesOperator old new (Some operator) = (old ≡ const_operator operator ∷ new) × NamesModuleType operator

-- as many as are left
abbrev pub at_most_these : ConstantExpression → Count
at_most_these operators = at_most (length operators)
