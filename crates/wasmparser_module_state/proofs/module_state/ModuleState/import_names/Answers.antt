use Rattle.std.proofs.Common.{[], ◌∷◌, refl, subst, ◌∙◌}
use Rattle.std.proofs.lemmas.Result.{err_from_is_err_and}
use Rattle.wasmparser_module_state.specs.Items.{AcceptsItems, NamesItems, named_measures}
use Rattle.wasmparser_module_types.specs.ModuleTypes.{KnownTypes}
use Rattle.wasmparser_module_state.specs.State.{item, unnamed}
use Rattle.wasmparser_module_state.proofs.GroupLaws.{begins, goes_on, names_ended, names_refused, never_refused, small_names, stays}
use Rattle.wasmparser_module_state.proofs.NamedImports.{all_names_end, named_on, names_begin, names_go_on}
use Rattle.wasmparser_module_state.proofs.module_state.ModuleState.import_names.Goals as goal

pub names-init : goal.names-init
names-init c = rw c.into_iter-names.ensures (begins _ _ _ _ (λ name. item c.args.ty.now) _ _ _ c.requires.read (small_names _), refl, refl, names_begin _ _ (λ name. item c.args.ty.now) _ _ _ _ _ c.requires.read)

pub returns-in_err-name-clause-added : goal.returns-in_err-name-clause-added
returns-in_err-name-clause-added c =
    let n = rw c.in_err-name.was at c.in-Some.ensures.steps in
    absurd (never_refused _ _ _ _ _ _ _ _ _ _ c.names.invariant.0 n.0)

pub names-preserved : goal.names-preserved
names-preserved c =
    let n = rw c.in_ok-name.was at c.in-Some.ensures.steps in
    let now = unnamed c.names.self in
    let type = item c.args.ty.now in
    let accepts =
    subst (λ (t : KnownTypes). AcceptsItems t.features now (type ∷ []) (named_measures now (c.in_ok-name.name.now ∷ []) (type ∷ [])) (unnamed c.import_named.new.self)) c.names.invariant.1
    c.in_ok-import_named.ensures.added in
    let on = named_on _ _ _ now _ _ type c.in_ok-import_named.ensures.named c.names.invariant.2 in
    (goes_on _ _ _ _ _ _ _ _ _ _ _ _ c.in_ok-name.name.now c.names.invariant.0 n.0 accepts, c.in_ok-import_named.ensures.types ∙ c.names.invariant.1, on.0, names_go_on _ _ _ _ _ _ _ _ _ _ _ _ _ _ c.in_ok-name.name.now c.names.invariant.3 n.0 accepts.known on.1)

pub returns-in_err-import_named-clause-added : goal.returns-in_err-import_named-clause-added
returns-in_err-import_named-clause-added c =
    let n = rw c.in_ok-name.was at c.in-Some.ensures.steps in
    let now = unnamed c.names.self in
    let type = item c.args.ty.now in
    let h = c.in_err-import_named.ensures.added in
    let named = subst (λ (t : KnownTypes). NamesItems t.features now (type ∷ []) (named_measures now (c.in_ok-name.name.now ∷ []) (type ∷ [])) c.in_err-import_named.field-0.0.kind) c.names.invariant.1 h.0 in
    let p = err_from_is_err_and c.from_residual-in_err-import_named.result c.from_residual-in_err-import_named.ensures.1 in
    rw (p.1, p.2) (names_refused _ _ _ _ _ _ _ _ c.in_ok-name.name.now _ c.names.invariant.0 n.0 named, h.1, stays _ _ _ _ _ _ _ _ _ _ c.names.invariant.0 h.2)

pub returns-clause-named : goal.returns-clause-named
returns-clause-named c = all_names_end _ _ _ _ _ _ _ _ c.names.invariant.3 c.in_default.ensures.steps.0

pub returns-clause-added : goal.returns-clause-added
returns-clause-added c = names_ended _ _ _ _ _ _ c.names.invariant.0 c.in_default.ensures.steps.0
