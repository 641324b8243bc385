use Rattle.wasm_smith_sections.proofs.SmallItems.{seen}
use Rattle.wasm_core_types.specs.CoreTypes.{field_type}
use Rattle.wasm_spec.specs.SmallIndexes.{IsSmallField}
use Rattle.wasm_smith_sections.proofs.small_types.fields_are_small.Goals as goal

pub returns : goal.returns
returns c = seen IsSmallField field_type c.args.fields.now c.are_small.ensures
