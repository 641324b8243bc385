use Rattle.std.proofs.Common.{◌≡◌, ◌++◌, drop, string_bytes}
use Rattle.std.specs.List.{flat_map}
use Rattle.wasm_gen_view.specs.ItemText.{byte_text}
use Rattle.wasm_gen_view.proofs.name_text.put_bytes.Given as goal

-- the text so far, then that of the other bytes, is the text at the start, then that of all bytes
abbrev pub invariant-loop-byte : goal.invariant-loop-byte
invariant-loop-byte l = string_bytes l.out ++ flat_map byte_text (drop l.byte-index l.bytes) ≡ string_bytes l.initial.out ++ flat_map byte_text l.bytes
