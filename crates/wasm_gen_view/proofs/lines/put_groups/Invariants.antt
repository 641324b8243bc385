use Rattle.std.proofs.Common.{◌≡◌, ◌++◌, drop, string_bytes}
use Rattle.wasm_gen_view.specs.Text.{group_lines, numbered}
use Rattle.wasm_gen_view.proofs.lines.put_groups.Given as goal

-- the text so far, then the lines of the other groups, is the text at the start, then the lines of all groups
abbrev pub invariant-loop-group : goal.invariant-loop-group
invariant-loop-group l =
    string_bytes l.out ++ numbered (λ group types. group_lines group types.items) l.group (drop l.group l.groups)
    ≡ string_bytes l.initial.out ++ numbered (λ group types. group_lines group types.items) 0 l.groups
