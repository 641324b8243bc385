use Rattle.std.proofs.Common.{◌+◌, drop, get_or, arith}
use Rattle.std.proofs.lemmas.List.{drop_more}
use Rattle.wasm_smith_types.specs.declared.fitting.Span.{Span}
use Rattle.wasm_smith_types.proofs.FittingLaws.{at_most_more}
use Rattle.wasm_smith_types.proofs.fitting.greatest_size.Goals as goal

pub loop-span-preserved : goal.loop-span-preserved
loop-span-preserved c =
    let spans = c.args.spans.now in
    let i = c.loop-span.span-index in
    let span : Span = get_or spans i (record { start = 0; size = 0 }) in
    at_most_more spans (drop i spans) c.loop-span.greatest c.max-greatest.result (omega (arith, c.max-greatest.ensures)) c.loop-span.invariant span
    (drop (i + 1) spans)
    (drop_more spans i (record { start = 0; size = 0 }) c.loop-span-test.true) (omega (arith, c.max-greatest.ensures))
