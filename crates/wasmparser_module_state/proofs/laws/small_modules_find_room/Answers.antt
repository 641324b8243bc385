use Rattle.std.proofs.Common.{arith, length}
use Rattle.wasm_validity.specs.Context.{at_first}
use Rattle.wasmparser_module_state.proofs.HeldTypes.{room_below}
use Rattle.wasmparser_module_state.proofs.laws.small_modules_find_room.Goals as goal

pub returns : goal.returns
returns c features held entries few = room_below features (length held) at_first held entries (omega arith) few
