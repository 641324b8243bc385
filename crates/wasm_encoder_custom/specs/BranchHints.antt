-- Which way branches are likely to go. The proposal "Branch Hinting" (code metadata of functions).
use Rattle.std.specs.Prelude.{ℕ, List, ◌∷◌, ◌++◌}
use Rattle.wasm_spec.specs.Shortest.{unsigned_encoding, list_encoding}

-- of the branch at this offset in the function's body: 0 for unlikely, 1 for likely
pub record Hint : Type 0 where
  pub offset : ℕ
  pub value : ℕ

-- a hint is one byte, whose number stands before it
unfoldable pub hint_encoding : Hint → List ℕ
hint_encoding hint = unsigned_encoding hint.offset ++ 0x01 ∷ unsigned_encoding hint.value

pub record FunctionHints : Type 0 where
  pub function : ℕ
  pub hints : List Hint

unfoldable pub function_hints_encoding : FunctionHints → List ℕ
function_hints_encoding it = unsigned_encoding it.function ++ list_encoding hint_encoding it.hints

abbrev pub branch_hints_encoding : List FunctionHints → List ℕ
branch_hints_encoding functions = list_encoding function_hints_encoding functions
