use Rattle.std.proofs.Common.{[], ◌∷◌, refl, subst, ◌∙◌}
use Rattle.std.proofs.lemmas.Result.{err_from_is_err_and}
use Rattle.wasmparser_entries.specs.ImportItems.{import_item}
use Rattle.wasmparser_module_state.specs.Items.{AcceptsItems, NamesItems, named_measures}
use Rattle.wasmparser_module_types.specs.ModuleTypes.{KnownTypes}
use Rattle.wasmparser_module_state.specs.State.{item, unnamed}
use Rattle.wasmparser_module_state.proofs.GroupLaws.{begins, ended, goes_on, never_refused, refused, small_items, stays}
use Rattle.wasmparser_module_state.proofs.NamedImports.{named_on, names_begin, names_end, names_go_on}
use Rattle.wasmparser_module_state.proofs.module_state.ModuleState.import_items.Goals as goal

pub items-init : goal.items-init
items-init c = rw c.into_iter-items.ensures (begins _ _ _ _ _ _ _ _ c.requires.read (small_items _ c.requires.small), refl, refl, names_begin _ _ _ _ _ _ _ _ c.requires.read)

pub items-preserved : goal.items-preserved
items-preserved c =
    let n = rw c.in-Ok.is at c.in-Some.ensures.steps in
    let now = unnamed c.items.self in
    let type = item c.in-Ok.item.ty in
    let accepts =
    subst (λ (t : KnownTypes). AcceptsItems t.features now (type ∷ []) (named_measures now (c.in-Ok.item.name.now ∷ []) (type ∷ [])) (unnamed c.import_named.new.self)) c.items.invariant.1
    c.in_ok-import_named-in-Ok.ensures.added in
    let on = named_on _ _ _ now _ _ type c.in_ok-import_named-in-Ok.ensures.named c.items.invariant.2 in
    (goes_on _ _ _ _ _ _ _ _ _ _ _ _ (import_item c.in-Ok.item) c.items.invariant.0 n.0 accepts, c.in_ok-import_named-in-Ok.ensures.types ∙ c.items.invariant.1, on.0, names_go_on _ _ _ _ _ _ _ _ _ _ _ _ _ _ (import_item c.in-Ok.item) c.items.invariant.3 n.0 accepts.known on.1)

pub returns-in_err-import_named-in-Ok-clause-added : goal.returns-in_err-import_named-in-Ok-clause-added
returns-in_err-import_named-in-Ok-clause-added c =
    let n = rw c.in-Ok.is at c.in-Some.ensures.steps in
    let now = unnamed c.items.self in
    let type = item c.in-Ok.item.ty in
    let h = c.in_err-import_named-in-Ok.ensures.added in
    let names =
    subst (λ (t : KnownTypes). NamesItems t.features now (type ∷ []) (named_measures now (c.in-Ok.item.name.now ∷ []) (type ∷ [])) c.in_err-import_named-in-Ok.field-0.0.kind) c.items.invariant.1 h.0 in
    let p = err_from_is_err_and c.from_residual.result c.from_residual.ensures.1 in
    rw (p.1, p.2) (refused _ _ _ _ _ _ _ _ _ _ _ (import_item c.in-Ok.item) _ c.items.invariant.0 n.0 names, h.1, stays _ _ _ _ _ _ _ _ _ _ c.items.invariant.0 h.2)

pub returns-in-Err-clause-added : goal.returns-in-Err-clause-added
returns-in-Err-clause-added c =
    let n = rw c.in-Err.is at c.in-Some.ensures.steps in
    absurd (never_refused _ _ _ _ _ _ _ _ _ _ c.items.invariant.0 n.0)

pub returns-clause-named : goal.returns-clause-named
returns-clause-named c = names_end _ _ _ _ _ _ _ _ _ _ c.items.invariant.3 c.in_default.ensures.steps.0

pub returns-clause-added : goal.returns-clause-added
returns-clause-added c = ended _ _ _ _ _ _ _ _ _ c.items.invariant.0 c.in_default.ensures.steps.0
