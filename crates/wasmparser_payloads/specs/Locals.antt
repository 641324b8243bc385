-- The locals of a body, which are passed over. Core Specification 3.0, Binary Format, "Code Section".
use Rattle.std.specs.Prelude.{◌≡◌, false, List, Option, Some, None, Result, Ok, Err}
use Rattle.wasm_bodies.specs.Bodies.{Run, IsRun}
use Rattle.wasm_core_read.specs.Input.{Input, GoesOn, IsWithin}
use Rattle.wasm_core_read.specs.Laws.{IsRead, IsRefused}
use Rattle.wasm_core_read.specs.Reading.{ReadingOf, unsigned_at, seen_at, pair_at}
use Rattle.wasm_core_read.specs.TypeReading.{list_at, val_type_at}
use Rattle.wasm_spec.specs.Bytes.{IsList}
use Rattle.wasmparser_error.specs.declared.error.Error.{Error}
use Rattle.wasmparser_error.specs.declared.error.ErrorKind.TheVariants as kinds
use Rattle.wasmparser_operators.specs.OperatorAnswers.{OperatorsLeft}
use Rattle.wasmparser_readers.specs.Passing.{rest_of}

unfoldable pub run_at : ReadingOf Run
run_at = seen_at (λ x. record { count = x.0; type = x.1 }) (pair_at (unsigned_at 32) val_type_at)

-- What a call returned that reads what follows the locals of a body: by the reading function.
abbrev pub ReadsPastLocals : Input → Result OperatorsLeft Error → Type 0
ReadsPastLocals body (Ok operators) = (rest_of (list_at run_at body.rest) ≡ Some operators.input.rest) × GoesOn body operators.input × (operators.is_ended ≡ false)
ReadsPastLocals body (Err e) = (list_at run_at body.rest ≡ None) × (e.kind ≡ kinds.Body) × IsWithin body e.offset

-- The same by the grammar: the body begins with a list of runs of locals, in one way alone, and what follows it is left; or it begins with none.
abbrev pub IsPastLocals : Input → Result OperatorsLeft Error → Type 0
IsPastLocals body (Ok operators) = (runs : List Run) × IsRead (IsList IsRun) body operators.input runs
IsPastLocals body (Err e) = IsRefused (IsList IsRun) body e.offset
