use Rattle.std.proofs.Common.{◌≡◌, ◌<◌, [], ◌∷◌}
use Rattle.wasm_core_read.specs.Reading.{unsigned_at}
use Rattle.wasmparser_entries.specs.Lists.{functions_of}
use Rattle.wasmparser_module_state.proofs.DeclaredItems.{AreDeclared}
use Rattle.wasmparser_module_state.specs.State.{members, room}
use Rattle.wasmparser_module_state.proofs.elements.add_functions.Given as goal

abbrev pub invariant-items : goal.invariant-items
invariant-items l =
    AreDeclared (unsigned_at 32) (λ function. function < l.count) (λ function. function ∷ []) (functions_of l.fn.functions.left) (members l.fn.declared) (members l.declared) l.items
    × (room l.declared ≡ room l.fn.declared)
