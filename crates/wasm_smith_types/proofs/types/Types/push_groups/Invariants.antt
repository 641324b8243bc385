use Rattle.std.proofs.Common.{◌≡◌, ◌≤◌, ◌++◌, ◌^◌, map, drop}
use Rattle.wasm_spec.specs.Syntax.{members}
use Rattle.wasm_spec.specs.TypeReferences.{group_map}
use Rattle.wasm_smith_shapes.specs.Shapes.{group_of}
use Rattle.wasm_smith_types.specs.Copies.{shifted_index}
use Rattle.wasm_smith_types.specs.Grouped.{groups, AreWhole}
use Rattle.wasm_smith_types.proofs.GivenLists.{left}
use Rattle.wasm_smith_types.proofs.types.Types.push_groups.Given as goal

abbrev pub invariant-loop-group : goal.invariant-loop-group
invariant-loop-group l = record {
  few : left group_of members l.added l.group-index ≤ 2 ^ 29;
  whole : AreWhole l.self;
  added : groups l.self ++ map (group_map (shifted_index l.shift.start l.shift.by)) (map group_of (drop l.group-index l.added))
      ≡ groups l.fn.self ++ map (group_map (shifted_index l.shift.start l.shift.by)) (map group_of l.added);
}
