-- Lists that are parts of an input, and are read item by item.
use Rattle.std.specs.Prelude.{◌≡◌, ◌≤◌, ℕ, List, [], Some}
use Rattle.std.specs.Option.{unwrap_or}
use Rattle.wasm_core_read.specs.ConstantReading.{expression_at}
use Rattle.wasm_core_read.specs.Reading.{unsigned_at}
use Rattle.wasm_spec.specs.Constants.{ConstantExpression}
use Rattle.wasm_core_read.specs.Input.{Input}
use Rattle.wasmparser_readers.specs.Passing.{IsLastPart}
use Rattle.wasmparser_readers.specs.Sections.{Left, Limited, left_items}

-- the function indexes that are left
abbrev pub functions_of : Left → List ℕ
functions_of left = unwrap_or (left_items (λ _. unsigned_at 32) left) []

-- the expressions that are left
abbrev pub expressions_of : Left → List ConstantExpression
expressions_of left = unwrap_or (left_items (λ _. expression_at) left) []

-- function indexes that a reader passed last, all of which read
pub record AreFunctions (old new : Input) (section : Limited) : Type 0 where
  pub from : old.position ≤ section.start
  pub part : IsLastPart old new section.left.input
  pub read : left_items (λ _. unsigned_at 32) section.left ≡ Some (functions_of section.left)

-- the same of expressions
pub record AreExpressions (old new : Input) (section : Limited) : Type 0 where
  pub from : old.position ≤ section.start
  pub part : IsLastPart old new section.left.input
  pub read : left_items (λ _. expression_at) section.left ≡ Some (expressions_of section.left)
