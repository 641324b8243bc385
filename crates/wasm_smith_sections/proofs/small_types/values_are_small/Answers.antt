use Rattle.wasm_smith_sections.proofs.SmallItems.{seen}
use Rattle.wasm_core_types.specs.CoreTypes.{val_type}
use Rattle.wasm_spec.specs.SmallIndexes.{IsSmallValue}
use Rattle.wasm_smith_sections.proofs.small_types.values_are_small.Goals as goal

pub returns : goal.returns
returns c = seen IsSmallValue val_type c.args.types.now c.are_small.ensures
