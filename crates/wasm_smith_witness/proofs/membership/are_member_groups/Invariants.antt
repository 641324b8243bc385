use Rattle.std.proofs.Common.{map, drop}
use Rattle.wasm_smith_witness.specs.Groups.{group_of}
use Rattle.wasm_smith_witness.proofs.MemberLaws.{AreLeft}
use Rattle.wasm_smith_witness.proofs.membership.are_member_groups.Given as goal

abbrev pub invariant-loop-group : goal.invariant-loop-group
invariant-loop-group l = AreLeft l.config (map group_of l.groups) (map group_of (drop l.group-index l.groups)) l.count
