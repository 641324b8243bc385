use Rattle.std.proofs.Common.{◌≡◌, ◌+◌, ◌-◌, ◌<◌, ◌≤◌, List, Some, ap, length, subst, sym, ◌∙◌, arith}
use Rattle.std.specs.Prelude.{slice_get}
use Rattle.wasmparser_bodies.specs.KeptLocals.{later_at, locals_with}
use Rattle.wasmparser_bodies.specs.LocalRuns.{AreJoined, local_seen, locals_in}
use Rattle.wasmparser_bodies.specs.declared.locals.Run.{Run}
use Rattle.wasmparser_bodies.proofs.LocalLaws.{found_after, found_between, found_first, not_later}
use Rattle.wasmparser_bodies.proofs.locals.Locals.get.Goals as goal

pub returns-then-index-len : goal.returns-then-index-len
returns-then-index-len c = λ params.
    let i = c.self.inside in
    let lt : c.args.index < length c.self.inside.first.items = omega (arith, c.if-index-len.true, c.len.ensures, i.first.ok.0) in
    subst (λ k. slice_get (locals_with params k) c.args.index ≡ Some (local_seen c.index.result.now)) c.self.view_is (found_first params i.first.items i.later i.runs.items c.args.index c.index.result.now lt c.index.ensures)

pub returns-then-index-self : goal.returns-then-index-self
returns-then-index-self c = λ params.
    let i = c.self.inside in
    let from : length c.self.inside.first.items ≤ c.args.index = omega (arith, c.if-index-len.false, c.len.ensures, i.first.ok.0) in
    subst (λ k. slice_get (locals_with params k) c.args.index ≡ later_at params k c.args.index) c.self.view_is (found_between params i.first.items i.later i.runs.items i.count c.args.index c.self.invariant.laid_out from c.if-index-self.true)

pub returns-in-Some : goal.returns-in-Some
returns-in-Some c = λ params.
    let i = c.self.inside in
    let laid_out = c.self.invariant.laid_out in
    let start = length i.first.items + i.later in
    let past : 64 + c.self.inside.later ≤ c.args.index = omega (arith, c.if-index-self.false) in
    let joined = subst (λ (runs : List Run). AreJoined start runs i.count) (sym c.deref.ensures.value) laid_out.joined in
    let found = c.in-Some.ensures start i.count joined (omega (arith, past, laid_out.few)) in
    let there = found_after params i.first.items i.later i.runs.items i.count c.args.index laid_out past in
    subst (λ k. slice_get (locals_with params k) c.args.index ≡ Some (local_seen c.in-Some.run'.now.local)) c.self.view_is
    (there ∙ ap (λ (runs : List Run). slice_get (locals_in runs) (c.args.index - start)) (sym c.deref.ensures.value) ∙ sym found)

pub returns-in-None : goal.returns-in-None
returns-in-None c = λ params.
    let i = c.self.inside in
    let laid_out = c.self.invariant.laid_out in
    let start = length i.first.items + i.later in
    let past : 64 + c.self.inside.later ≤ c.args.index = omega (arith, c.if-index-self.false) in
    let joined = subst (λ (runs : List Run). AreJoined start runs i.count) (sym c.deref.ensures.value) laid_out.joined in
    let found = c.in-None.ensures start i.count joined (omega (arith, past, laid_out.few)) in
    let there = found_after params i.first.items i.later i.runs.items i.count c.args.index laid_out past in
    subst (λ k. slice_get (locals_with params k) c.args.index ≡ later_at params k c.args.index) c.self.view_is
    (there ∙ ap (λ (runs : List Run). slice_get (locals_in runs) (c.args.index - start)) (sym c.deref.ensures.value) ∙ sym found ∙ sym (not_later params i.first.items i.later i.runs.items c.args.index past))
