use Rattle.std.proofs.Common.{◌≡◌, length}
use Rattle.std.specs.List.{AllByRecursion}
use Rattle.wasmparser_type_relations.specs.Snapshots.{IsCounted, snapshot_elements}
use Rattle.wasmparser_type_relations.proofs.snapshot_list.join.Given as goal

abbrev pub invariant-loop-joined : goal.invariant-loop-joined
invariant-loop-joined g l = record {
  counted : AllByRecursion IsCounted l.snapshots.items;
  same : snapshot_elements l.snapshots.items ≡ snapshot_elements l.initial.snapshots.items;
}

abbrev pub decreases-loop-joined : goal.decreases-loop-joined
decreases-loop-joined g l = length l.snapshots.items
