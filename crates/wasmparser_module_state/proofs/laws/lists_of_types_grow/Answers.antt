use Rattle.wasmparser_module_state.proofs.HeldTypes.{all_grow, all_one}
use Rattle.wasmparser_module_state.proofs.laws.lists_of_types_grow.Goals as goal

pub returns : goal.returns
returns c = record { grow = all_grow; one = λ features cx old new other entries. all_one features cx old new other entries }
