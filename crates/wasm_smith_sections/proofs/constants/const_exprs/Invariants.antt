use Rattle.std.proofs.Common.{◌≡◌, ◌++◌, map, drop}
use Rattle.wasm_smith_definitions.specs.Items as items
use Rattle.wasm_smith_sections.specs.Contents.{expression_bytes}
use Rattle.wasm_smith_sections.proofs.constants.const_exprs.Given as goal

abbrev pub invariant-loop-constant : goal.invariant-loop-constant
invariant-loop-constant l = record {
  written : l.expressions.items ++ map expression_bytes (map items.expression (drop l.constant-index l.constants)) ≡ map expression_bytes (map items.expression l.constants);
}
