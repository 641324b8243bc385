use Rattle.std.proofs.Common.{◌≡◌, ◌++◌, drop, string_bytes}
use Rattle.wasm_gen_view.specs.Text.{group_lines, numbered, type_line}
use Rattle.wasm_gen_view.proofs.lines.put_group.Given as goal

-- the text so far, then the lines of the other types, is the text at the start, then the lines of all types
abbrev pub invariant-loop-place : goal.invariant-loop-place
invariant-loop-place l =
    string_bytes l.out ++ numbered (type_line l.group) l.place (drop l.place l.types) ≡ string_bytes l.initial.out ++ group_lines l.group l.types
