use Rattle.std.proofs.Common.{◌≡◌, List, map, ap, sym, ◌∙◌, subst, arith}
use Rattle.wasm_smith_definitions.specs.Items.{element_items, element_segment}
use Rattle.wasm_smith_definitions.specs.declared.segments.ElementSegment.{ElementSegment}
use Rattle.wasm_smith_module.proofs.PassedLaws.{map_twice, next_number, no_number, this_number}
use Rattle.wasm_smith_module.proofs.passed_limit.passed_segment.Goals as goal
use Rattle.wasm_smith_module.specs.Measures.{segment_measures}
use Rattle.wasm_spec.specs.Limits.{SegmentEntries}
use Rattle.wasm_validity.specs.Rules.{Passes, are_within, count_of}

same : (segments : List ElementSegment) → segment_measures (map element_segment segments) ≡ map (λ segment. (SegmentEntries, count_of (element_items segment.items))) segments
same segments = map_twice (λ segment. (SegmentEntries, count_of segment.items)) element_segment segments

pub returns-then-item_count-max-clause-passed : goal.returns-then-item_count-max-clause-passed
returns-then-item_count-max-clause-passed c =
    let segments = c.args.segments.now in
    let segment = c.segment-item.result in
    let most = c.max.ensures in
    let count = c.item_count.ensures in
    let many = c.if-item_count-max.true in
    subst (Passes SegmentEntries) (sym (same segments))
    (this_number (λ segment. (SegmentEntries, count_of (element_items segment.items))) segments c.loop-segment.segment-index segment segment c.loop-segment-test.true c.segment-item.is
    (omega (arith, most, count, many)) c.loop-segment.invariant.so_far)

pub loop-segment-preserved : goal.loop-segment-preserved
loop-segment-preserved c =
    let segments = c.args.segments.now in
    let segment = c.segment-item.result in
    let most = c.max.ensures in
    let count = c.item_count.ensures in
    let few = c.if-item_count-max.false in
    record {
      so_far =
          next_number (λ segment. (SegmentEntries, count_of (element_items segment.items))) segments c.loop-segment.segment-index segment segment c.loop-segment-test.true c.segment-item.is
          (omega (arith, most, count, few)) c.loop-segment.invariant.so_far;
    }

pub returns-clause-within : goal.returns-clause-within
returns-clause-within c =
    let segments = c.args.segments.now in
    ap are_within (same segments)
    ∙ no_number (λ segment. (SegmentEntries, count_of (element_items segment.items))) segments c.loop-segment.segment-index c.loop-segment-test.false c.loop-segment.invariant.so_far
