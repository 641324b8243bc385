use Rattle.std.proofs.Common.{◌∙◌}
use Rattle.wasm_core_read.specs.ConstantReading.{expression_at}
use Rattle.wasm_core_read.specs.Reading.{unsigned_at}
use Rattle.wasmparser_module_state.proofs.ReadItems.{counted}
use Rattle.wasmparser_module_state.proofs.elements.count_of.Goals as goal

pub returns-in-Functions : goal.returns-in-Functions
returns-in-Functions c =
    let read = rw c.in-Functions.is at c.requires.read in
    rw (c.in-Functions.is) (c.count.ensures ∙ counted (unsigned_at 32) _ _ read)

pub returns-in-Expressions : goal.returns-in-Expressions
returns-in-Expressions c =
    let read = rw c.in-Expressions.is at c.requires.read in
    rw (c.in-Expressions.is) (c.count-in-Expressions.ensures ∙ counted expression_at _ _ read)
