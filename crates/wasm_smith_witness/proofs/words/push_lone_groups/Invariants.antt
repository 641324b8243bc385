use Rattle.std.proofs.Common.{◌≡◌, ◌++◌, drop}
use Rattle.wasm_smith_witness.specs.Groups.{group_of}
use Rattle.wasm_smith_witness.specs.Words.{each_word, lone_word}
use Rattle.wasm_smith_witness.proofs.words.push_lone_groups.Given as goal

abbrev pub invariant-loop-group : goal.invariant-loop-group
invariant-loop-group l = l.out.items ++ each_word (λ group. lone_word l.config (group_of group)) (drop l.group-index l.groups) ≡ l.fn.out.items ++ each_word (λ group. lone_word l.config (group_of group)) l.groups
