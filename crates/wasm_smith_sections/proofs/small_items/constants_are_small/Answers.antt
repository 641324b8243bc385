use Rattle.wasm_smith_sections.proofs.SmallItems.{seen}
use Rattle.wasm_smith_definitions.specs.Items.{expression}
use Rattle.wasm_smith_sections.specs.SmallModules.{IsSmallExpression}
use Rattle.wasm_smith_sections.proofs.small_items.constants_are_small.Goals as goal

pub returns : goal.returns
returns c = seen IsSmallExpression expression c.args.constants.now c.are_small.ensures
