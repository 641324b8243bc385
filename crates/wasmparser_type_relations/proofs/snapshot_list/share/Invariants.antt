use Rattle.std.proofs.Common.{◌≡◌, take}
use Rattle.std.specs.List.{AllByRecursion}
use Rattle.wasmparser_type_relations.specs.Snapshots.{IsCounted, snapshot_elements}
use Rattle.wasmparser_type_relations.proofs.snapshot_list.share.Given as goal

abbrev pub invariant-loop-snapshot : goal.invariant-loop-snapshot
invariant-loop-snapshot g l = record {
  counted : AllByRecursion IsCounted l.shared.items;
  same : snapshot_elements l.shared.items ≡ snapshot_elements (take l.snapshot-index l.snapshots);
}
