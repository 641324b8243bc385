use Rattle.std.proofs.Common.{◌≡◌, ◌++◌, drop, string_bytes}
use Rattle.std.specs.List.{flat_map}
use Rattle.wasm_gen_view.specs.Text.{export_line}
use Rattle.wasm_gen_view.proofs.lines.put_exports.Given as goal

-- the text so far, then the lines of the other exports, is the text at the start, then the lines of all exports
abbrev pub invariant-loop-export : goal.invariant-loop-export
invariant-loop-export l = string_bytes l.out ++ flat_map export_line (drop l.export-index l.exports) ≡ string_bytes l.initial.out ++ flat_map export_line l.exports
