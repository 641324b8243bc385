-- The explanation of a verdict: the line on where the error of a refusal stands.
use Rattle.std.specs.Prelude.{⊤, ℕ, List, Bool, true, Option, Some, None, Result, Ok, Err, option_map, string_bytes}
use Rattle.wasm_gen_explain.specs.Places.{Explains}
use Rattle.wasm_spec.specs.Features.{Features}
use Rattle.wasmparser_error.specs.declared.error.Error.{Error}
use Rattle.wasmparser_validator.specs.KnownSpaces.{KnownModule}
use Rattle.wasm_gen_program.specs.declared.error.RunError.{RunError}
use Rattle.wasm_gen_program.specs.declared.explanation.Checked.{Checked}

-- the explanation of a verdict on these bytes, if there is one: it comes only where it is asked for, and says where the error of the refusal stands.
-- Nothing is said of memory, for want of which there is none.
abbrev pub IsExplanation : Bool → Features → List ℕ → Result KnownModule Error → Option (List ℕ) → Type 0
IsExplanation asked features bytes verdict None = ⊤
IsExplanation true features bytes (Err e) (Some text) = Explains features bytes e text
IsExplanation asked features bytes verdict (Some text) = ⊥

-- the bytes of the explanation that comes with an answer
abbrev pub explanation_of : Checked → Option (List ℕ)
explanation_of checked = option_map string_bytes checked.explanation

-- an answer alone
abbrev pub answer_of : Result Checked RunError → Result Bool RunError
answer_of (Ok checked) = Ok checked.is_yes
answer_of (Err e) = Err e
