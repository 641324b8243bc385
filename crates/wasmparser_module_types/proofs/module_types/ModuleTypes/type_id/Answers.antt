use Rattle.std.proofs.Common.{◌≡◌, IfSome, true, length, ◌<◌, ap, subst, slice_get, ◌∙◌}
use Rattle.wasm_spec.specs.Features.{needs_type_canonicalization}
use Rattle.wasm_spec.specs.Trees.{AreDistinct}
use Rattle.wasmparser_module_types.proofs.KnownIds.{known_if}
use Rattle.wasmparser_module_types.specs.ModuleTypes.{KnownTypes}
use Rattle.wasmparser_module_types.proofs.module_types.ModuleTypes.type_id.Goals as goal

pub returns-clause-known : goal.returns-clause-known
returns-clause-known c =
    let it = c.self.inside in
    let knows = c.self.invariant.0 in
    subst (λ (known : KnownTypes). IfSome c.id_at.result (λ id. id < length known.interned)) c.self.view_is
    (known_if it.list knows.agree it.space.ids.items c.args.index c.id_at.result knows.known (c.id_at.ensures ∙ ap (λ ids. slice_get ids c.args.index) c.type_ids.ensures))

pub returns-clause-distinct : goal.returns-clause-distinct
returns-clause-distinct c =
    subst (λ (known : KnownTypes). needs_type_canonicalization known.features ≡ true → AreDistinct known.interned) c.self.view_is c.self.invariant.0.distinct
