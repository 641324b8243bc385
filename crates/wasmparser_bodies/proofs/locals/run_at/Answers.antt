use Rattle.std.proofs.Common.{◌≡◌, ◌+◌, ◌-◌, ◌/◌, ◌<◌, ◌≤◌, sym, subst, ap, ◌∙◌, Some, None, arith}
use Rattle.std.specs.Prelude.{slice_get}
use Rattle.std.specs.Option.{option_map}
use Rattle.std.proofs.lemmas.Option.{slice_get-get_or, slice_get_past}
use Rattle.wasmparser_bodies.specs.LocalRuns.{local_seen}
use Rattle.wasmparser_bodies.specs.declared.locals.Run.{Run}
use Rattle.wasmparser_bodies.proofs.LocalLaws.{located, narrowed_down, narrowed_up}
use Rattle.wasmparser_bodies.proofs.locals.run_at.Goals as goal

pub loop-low-preserved-then-runs-middle : goal.loop-low-preserved-then-runs-middle
loop-low-preserved-then-runs-middle c =
    let low = c.loop-low.low in
    let high = c.loop-low.high in
    let lt : c.loop-low.low + (c.loop-low.high - c.loop-low.low) / 2 < c.loop-low.high = omega arith in
    narrowed_up c.args.runs.now c.args.index low high (c.loop-low.low + (c.loop-low.high - c.loop-low.low) / 2) c.index-runs-middle.result c.loop-low.invariant lt (omega arith) c.index-runs-middle.is (subst (λ (r : Run). r.end ≤ c.args.index) (sym c.index-runs-middle.is) c.if-runs-middle.true)

pub loop-low-preserved : goal.loop-low-preserved
loop-low-preserved c =
    let low = c.loop-low.low in
    let high = c.loop-low.high in
    let lt : c.loop-low.low + (c.loop-low.high - c.loop-low.low) / 2 < c.loop-low.high = omega arith in
    narrowed_down c.args.runs.now c.args.index low high (c.loop-low.low + (c.loop-low.high - c.loop-low.low) / 2) c.index-runs-middle.result c.loop-low.invariant lt (omega arith) c.index-runs-middle.is (subst (λ (r : Run). c.args.index < r.end) (sym c.index-runs-middle.is) c.if-runs-middle.false)

pub returns-then-low-runs : goal.returns-then-low-runs
returns-then-low-runs c = λ start end joined le.
    let k = c.loop-low.low in
    let seen : option_map (λ (run : Run). local_seen run.local) (slice_get c.args.runs.now c.loop-low.low) ≡ Some (local_seen c.index-runs-low.result.local) =
    ap (option_map (λ (run : Run). local_seen run.local)) (slice_get-get_or c.args.runs.now c.loop-low.low c.index-runs-low.result c.if-low-runs.true ∙ ap Some (sym c.index-runs-low.is)) in
    sym seen ∙ located c.args.runs.now start end c.args.index k joined le (c.loop-low.invariant.before start end joined) (λ lt. c.loop-low.invariant.after start end joined k (omega arith) lt)

pub returns-else-low-runs : goal.returns-else-low-runs
returns-else-low-runs c = λ start end joined le.
    let k = c.loop-low.low in
    let past : slice_get c.args.runs.now c.loop-low.low ≡ None = slice_get_past c.args.runs.now c.loop-low.low c.if-low-runs.false in
    sym (ap (option_map (λ (run : Run). local_seen run.local)) past) ∙ located c.args.runs.now start end c.args.index k joined le (c.loop-low.invariant.before start end joined) (λ lt. c.loop-low.invariant.after start end joined k (omega arith) lt)
