-- The line of the verdict on a module.
use Rattle.std.specs.Prelude.{◌≡◌, ℕ, List, ◌++◌, codes, decimal, Result, Ok, Err}
use Rattle.wasm_spec.specs.Spaces.{Sizes}
use Rattle.wasm_validity.specs.IndexSpaces.{sizes_in}
use Rattle.wasmparser_error.specs.Error.{kind_name}
use Rattle.wasmparser_error.specs.declared.error.Error.{Error}
use Rattle.wasmparser_validator.specs.KnownSpaces.{KnownModule, spaces_known}

-- a label and the number under it
abbrev pub counted : List ℕ → ℕ → List ℕ
counted label n = label ++ decimal n

-- the line for a valid module
abbrev pub yes_line : Sizes → List ℕ
yes_line s = codes "yes" ++ counted (codes " types=") s.types ++ counted (codes " functions=") s.functions
    ++ counted (codes " tables=") s.tables ++ counted (codes " memories=") s.memories ++ counted (codes " globals=") s.globals
    ++ counted (codes " tags=") s.tags ++ counted (codes " elements=") s.elements ++ counted (codes " exports=") s.exports ++ codes "\n"

-- the line for a verdict
abbrev pub verdict_line : Result KnownModule Error → List ℕ
verdict_line (Ok known) = yes_line (sizes_in (spaces_known known))
verdict_line (Err e) = codes "no " ++ kind_name e.kind ++ codes "\n"

-- a text is that line
abbrev pub IsLine : Result KnownModule Error → List ℕ → Type 0
IsLine verdict text = text ≡ verdict_line verdict
