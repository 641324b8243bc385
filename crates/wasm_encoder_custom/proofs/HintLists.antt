-- Lists of hints, and their encodings.
use Rattle.std.proofs.Common.{◌≡◌, ℕ, List, map, Option}
use Rattle.wasm_core_write.proofs.Items.{viewed}
use Rattle.wasm_core_write.proofs.TypeLists.{list_mapped}
use Rattle.wasm_core_write.specs.Encoding.{TellsItem}
use Rattle.wasm_spec.specs.Shortest.{list_encoding}
use Rattle.wasm_encoder_custom.specs.BranchHints.{hint_encoding, function_hints_encoding}
use Rattle.wasm_encoder_custom.specs.KeptHints.{hint, hint_bytes, function_hints, function_hints_bytes}
use Rattle.wasm_encoder_custom.specs.declared.branch_hints.BranchHint.{BranchHint}
use Rattle.wasm_encoder_custom.specs.declared.branch_hints.KeptHints.{KeptHints}

pub hints : (items : List BranchHint) → list_encoding hint_bytes items ≡ list_encoding hint_encoding (map hint items)
unfolding hint_bytes
hints items = list_mapped hint_encoding hint items

pub functions : (items : List KeptHints) → list_encoding function_hints_bytes items ≡ list_encoding function_hints_encoding (map function_hints items)
unfolding function_hints_bytes
functions items = list_mapped function_hints_encoding function_hints items

pub ruleset steps = (hints, functions)

pub function_told : (items : List KeptHints) (i : ℕ) (told : Option ℕ) → TellsItem function_hints_bytes items i told → TellsItem function_hints_encoding (map function_hints items) i told
unfolding function_hints_bytes
function_told items i told h = viewed function_hints_encoding function_hints items i told h
