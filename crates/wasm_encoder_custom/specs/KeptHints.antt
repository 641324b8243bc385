-- The hints of the code as those of the definitions, and their encodings.
use Rattle.std.specs.Prelude.{ℕ, List, map}
use Rattle.wasm_encoder_custom.specs.BranchHints as hints
use Rattle.wasm_encoder_custom.specs.BranchHints.{hint_encoding, function_hints_encoding}
use Rattle.wasm_encoder_custom.specs.declared.branch_hints.BranchHint.{BranchHint}
use Rattle.wasm_encoder_custom.specs.declared.branch_hints.KeptHints.{KeptHints}

abbrev pub hint : BranchHint → hints.Hint
hint it = record { offset = it.branch_func_offset; value = it.branch_hint_value }

abbrev pub function_hints : KeptHints → hints.FunctionHints
function_hints it = record { function = it.function; hints = map hint it.hints.items }

unfoldable pub hint_bytes : BranchHint → List ℕ
hint_bytes it = hint_encoding (hint it)

unfoldable pub function_hints_bytes : KeptHints → List ℕ
function_hints_bytes it = function_hints_encoding (function_hints it)
