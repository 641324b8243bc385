use Rattle.std.proofs.Common.{◌≡◌, drop, slice_get}
use Rattle.std.specs.List.{AllByRecursion}
use Rattle.wasmparser_type_relations.specs.Snapshots.{IsCounted, snapshot_elements}
use Rattle.wasmparser_type_relations.proofs.snapshot_list.snapshot_get.Given as goal

-- what is looked for is the element at the place `left` of what is left
abbrev pub invariant-loop-snapshot : goal.invariant-loop-snapshot
invariant-loop-snapshot g l = record {
  counted : AllByRecursion IsCounted (drop l.snapshot-index l.snapshots);
  left : slice_get (snapshot_elements (drop l.snapshot-index l.snapshots)) l.left ≡ slice_get (snapshot_elements l.snapshots) l.index;
}
