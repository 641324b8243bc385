use Rattle.std.proofs.Common.{◌∙◌, ap, slice_get}
use Rattle.wasmparser_type_relations.specs.Snapshots.{elements}
use Rattle.wasmparser_type_relations.proofs.Places.{here, further, others_counted, none_left}
use Rattle.wasmparser_type_relations.proofs.snapshot_list.snapshot_get.Goals as goal

pub returns-then-left-snapshot : goal.returns-then-left-snapshot
returns-then-left-snapshot g c =
    let found = here c.args.snapshots.now c.loop-snapshot.snapshot-index c.snapshot-item.result c.loop-snapshot-test.true c.snapshot-item.is c.loop-snapshot.invariant.counted in
    c.tree_get.ensures ∙ ap (λ tree. slice_get (elements tree) c.loop-snapshot.left) c.deref.ensures ∙ found c.loop-snapshot.left c.if-left-snapshot.true ∙ c.loop-snapshot.invariant.left

pub loop-snapshot-preserved : goal.loop-snapshot-preserved
loop-snapshot-preserved g c =
    let snapshots = c.args.snapshots.now in
    record {
      counted = others_counted snapshots c.loop-snapshot.snapshot-index c.snapshot-item.result c.loop-snapshot-test.true c.snapshot-item.is c.loop-snapshot.invariant.counted;
      left = further snapshots c.loop-snapshot.snapshot-index c.snapshot-item.result c.loop-snapshot-test.true c.snapshot-item.is c.loop-snapshot.invariant.counted
          c.loop-snapshot.left c.if-left-snapshot.false ∙ c.loop-snapshot.invariant.left;
    }

pub returns : goal.returns
returns g c = none_left c.args.snapshots.now c.loop-snapshot.snapshot-index c.loop-snapshot.left c.loop-snapshot-test.false ∙ c.loop-snapshot.invariant.left
