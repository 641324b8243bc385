use Rattle.std.proofs.Common.{◌≤◌, length, refl, subst, sym, ◌∙◌}
use Rattle.wasm_spec.specs.Limits.{Types, most}
use Rattle.std.proofs.lemmas.Result.{err_from_is_err_and}
use Rattle.wasmparser_module_state.proofs.EntryLaws.{begins_entered, goes_on_entered, fills, entry_read, refused_read, refused_entry}
use Rattle.wasmparser_module_state.specs.History.{EntersEntry, held}
use Rattle.wasmparser_module_state.specs.Judging.{Accepts, NamesEntry}
use Rattle.wasmparser_module_state.specs.State.{context}
use Rattle.wasmparser_module_state.proofs.TypeCounts.{types_within}
use Rattle.wasmparser_module_state.proofs.entry.add_entries.Goals as goal

pub items-init : goal.items-init
items-init g c = rw c.into_iter_with_offsets-items.ensures (begins_entered _ _ _ _ _, subst (λ n. n ≤ most Types) c.type_count.ensures.count c.type_count.ensures.few, refl, c.requires.grows, λ untyped. refl)

pub returns-in_err-offset-clause-added : goal.returns-in_err-offset-clause-added
returns-in_err-offset-clause-added g c =
    let n = rw c.in_err-offset.was at c.in-Some.ensures.steps in
    let p = err_from_is_err_and c.from_residual.result c.from_residual.ensures.1 in
    rw (p.1, p.2) (refused_read _ _ _ _ _ _ _ g.met.T.Entry.is_made _ _ _ _ _ c.items.invariant.0.0 c.items.invariant.1 _ n.0)

pub items-preserved : goal.items-preserved
items-preserved g c =
    let n = rw c.in_ok-offset.was at c.in-Some.ensures.steps in
    let e = entry_read _ _ _ _ _ g.met.T.Entry.is_made _ _ c.in_ok-offset.item _ n.0.reads in
    let added = rw c.in-Ok.is at c.add.ensures.added in
    let accepts = subst (λ f. Accepts f (context c.items.state) (g.T.Entry.entry c.in_ok-offset.item) (context c.add.new.state)) c.items.invariant.2 added in
    let enters =
    subst (λ f. EntersEntry f (context c.items.state) (held c.items.state) (g.T.Entry.entry c.in_ok-offset.item) (held c.add.new.state)) c.items.invariant.2 c.in-Ok.ensures.entered in (
      goes_on_entered _ _ _ _ _ _ _ _ _ _ _ (g.T.Entry.entry c.in_ok-offset.item) c.items.invariant.0 n.0.counted e n.0.goes_on accepts enters,
      subst (λ cx. length cx.types ≤ most Types) (sym accepts.known) (types_within _ _ accepts.limits c.items.invariant.1),
      c.add.ensures.features ∙ c.items.invariant.2,
      c.add.ensures.grows,
      λ untyped. c.add.ensures.types untyped ∙ c.items.invariant.4 untyped,
    )

pub returns-in-Err-clause-added : goal.returns-in-Err-clause-added
returns-in-Err-clause-added g c =
    let n = rw c.in_ok-offset.was at c.in-Some.ensures.steps in
    let e = entry_read _ _ _ _ _ g.met.T.Entry.is_made _ _ c.in_ok-offset.item _ n.0.reads in
    let refused = rw c.in-Err.is at c.add.ensures.added in
    let named = subst (λ f. NamesEntry f (context c.items.state) (held c.items.state) (g.T.Entry.entry c.in_ok-offset.item) c.in-Err.error.kind) c.items.invariant.2 refused.0 in
    rw c.placed.ensures (refused_entry _ _ _ _ _ _ _ _ _ _ _ _ c.items.invariant.0 n.0.counted e _ _ _ n.0.place (named, refused.1))

pub returns-clause-added : goal.returns-clause-added
returns-clause-added g c = fills _ _ _ _ _ _ _ _ c.items.invariant.0 c.in_default.ensures.steps.0
