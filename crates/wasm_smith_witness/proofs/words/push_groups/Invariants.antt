use Rattle.std.proofs.Common.{◌++◌, map, drop}
use Rattle.wasm_smith_types.specs.Drawing.{no_groups}
use Rattle.wasm_smith_witness.specs.Groups.{group_of}
use Rattle.wasm_smith_witness.specs.Words.{groups_word}
use Rattle.wasm_smith_witness.proofs.FrontLaws.{AreWritten}
use Rattle.wasm_smith_witness.proofs.words.push_groups.Given as goal

abbrev pub invariant-loop-group : goal.invariant-loop-group
invariant-loop-group l = AreWritten l.config l.out.items (l.fn.out.items ++ groups_word l.config l.config.max_types no_groups (map group_of l.groups)) (map group_of (drop l.group-index l.groups)) l.front
