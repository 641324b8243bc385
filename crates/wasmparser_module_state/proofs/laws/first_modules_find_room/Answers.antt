use Rattle.std.proofs.Common.{[], arith}
use Rattle.wasm_validity.specs.Context.{at_first}
use Rattle.wasmparser_module_state.proofs.HeldTypes.{find_room}
use Rattle.wasmparser_module_state.proofs.laws.first_modules_find_room.Goals as goal

pub returns : goal.returns
returns c features entries = find_room features at_first [] entries (omega arith)
