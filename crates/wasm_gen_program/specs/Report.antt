-- The report on a module.
use Rattle.std.specs.Prelude.{◌≡◌, ℕ, List, Result, Ok, Err}
use Rattle.wasmparser_error.specs.declared.error.Error.{Error}
use Rattle.wasmparser_validator.specs.KnownSpaces.{KnownModule, spaces_known}
use Rattle.wasm_gen_view.specs.TypesText.{IsViewText}
use Rattle.wasm_gen_program.specs.Verdict.{verdict_line}

-- it is the report on a verdict: the text of a valid module's view, or the line of a refusal
abbrev pub IsReport : Result KnownModule Error → List ℕ → Type 0
IsReport (Ok known) text = IsViewText (spaces_known known) text
IsReport (Err e) text = text ≡ verdict_line (Err e)
