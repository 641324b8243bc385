use Rattle.wasm_smith_definitions.specs.Items.{element_items}
use Rattle.wasm_smith_module.proofs.PassedLaws.{IsSoFar}
use Rattle.wasm_smith_module.proofs.passed_limit.passed_segment.Given as goal
use Rattle.wasm_spec.specs.Limits.{SegmentEntries}
use Rattle.wasm_validity.specs.Rules.{count_of}

abbrev pub invariant-loop-segment : goal.invariant-loop-segment
invariant-loop-segment l = record {
  so_far : IsSoFar (λ segment. (SegmentEntries, count_of (element_items segment.items))) l.segments l.segment-index;
}
