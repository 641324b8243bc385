-- Segments that bytes can state.
use Rattle.std.proofs.Common.{ℕ, zero, suc, ◌<◌, ◌^◌, Bool, true, false, Some, None, arith, if◌then◌else◌}
use Rattle.wasm_encoder_expression_sections.specs.ReadItems.{IsSmallOption}
use Rattle.wasm_smith_definitions.specs.Items.{written_memory, written_table}
use Rattle.wasm_spec.specs.Syntax.{ElementItems, FunctionItems, ExpressionItems}
use Rattle.wasm_validity.specs.TypeRules.{is_funcref}

small_choice : (test : Bool) → IsSmallOption (if test then None else Some 0)
small_choice true = tt
small_choice false = omega arith

pub small_mode : (table : ℕ) (items : ElementItems) → table < 2 ^ 32 → IsSmallOption (written_table table items)
small_mode zero (FunctionItems functions) small = tt
small_mode zero (ExpressionItems type expressions) small = small_choice (is_funcref type)
small_mode (suc table) items small = small

pub small_memory : (memory : ℕ) → memory < 2 ^ 32 → IsSmallOption (written_memory memory)
small_memory zero small = tt
small_memory (suc memory) small = small
