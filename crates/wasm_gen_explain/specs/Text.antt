-- The line on where an error stands.
use Rattle.std.specs.Prelude.{ℕ, List, [], ◌∷◌, ◌++◌, codes, decimal}
use Rattle.wasm_spec.specs.Limits.{most}
use Rattle.wasm_core_types.specs.Limits.{limit, limit_name}
use Rattle.wasm_core_types.specs.declared.limits.Limit.{Limit}
use Rattle.wasmparser_error.specs.declared.error.Error.{Error}
use Rattle.wasmparser_error.specs.declared.error.ErrorKind.{ErrorKind}
use Rattle.wasmparser_error.specs.declared.error.ErrorKind.TheVariants as kinds
use Rattle.wasm_gen_explain.specs.Names.{name_at}
use Rattle.wasm_gen_explain.specs.declared.place.Place.{Place}
use Rattle.wasm_gen_explain.specs.declared.place.Place.TheVariants as places

-- the names of sections, in the order of their ids
abbrev pub section_names : List (List ℕ)
section_names =
    codes "custom" ∷ codes "type" ∷ codes "import" ∷ codes "function" ∷ codes "table" ∷ codes "memory" ∷ codes "global" ∷ codes "export" ∷ codes "start"
    ∷ codes "element" ∷ codes "code" ∷ codes "data" ∷ codes "data count" ∷ codes "tag" ∷ []

-- a name, or a number where there is none
abbrev pub name_or_number : List ℕ → ℕ → List ℕ
name_or_number [] number = decimal number
name_or_number (b ∷ bs) number = b ∷ bs

-- a section by its name, or by its id where the format doesn't have it
abbrev pub section_text : ℕ → List ℕ
section_text id = codes "section " ++ name_or_number (name_at section_names id) id

-- a name in parentheses, if there is one
abbrev pub named : List ℕ → List ℕ
named [] = []
named (b ∷ bs) = codes " (" ++ (b ∷ bs) ++ codes ")"

abbrev pub function_text : ℕ → List ℕ
function_text function = codes "function " ++ decimal function

abbrev pub place_text : Place → List ℕ
place_text places.Header = codes "header"
place_text (places.Section id) = section_text id
place_text (places.Entry id number) = section_text id ++ codes ", entry " ++ decimal number
place_text (places.Function function) = function_text function
place_text (places.Locals function) = function_text function ++ codes ", locals"
place_text (places.Operator function number name) = function_text function ++ codes ", operator " ++ decimal number ++ named name.now
place_text places.End = codes "end"

-- a limit, and the greatest number that it lets through
abbrev pub limit_text : Limit → List ℕ
limit_text passed = codes "; the limit " ++ limit_name passed ++ codes " is " ++ decimal (most (limit passed))

abbrev pub kind_text : ErrorKind → List ℕ
kind_text (kinds.Limit passed) = limit_text passed
kind_text _ = []

abbrev pub line_text : Place → Error → List ℕ
line_text place error = codes "at offset " ++ decimal error.offset ++ codes ": " ++ place_text place ++ kind_text error.kind
