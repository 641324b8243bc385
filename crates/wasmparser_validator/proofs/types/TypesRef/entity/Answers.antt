use Rattle.std.proofs.Common.{◌≡◌, IfSome, option_map, subst}
use Rattle.wasm_spec.specs.Trees.{type_at}
use Rattle.wasm_spec.specs.TypeReferences.{external_map}
use Rattle.wasm_validity.specs.Context.{item_at}
use Rattle.wasmparser_readers.specs.Exports.{external_kind}
use Rattle.wasmparser_module_state.specs.Entities.{entity_refs, entity_type}
use Rattle.wasmparser_module_state.specs.State.{context}
use Rattle.wasmparser_module_types.specs.ModuleTypes.{AreIds}
use Rattle.wasmparser_validator.proofs.SpaceLaws.{entity_is}
use Rattle.wasmparser_module_state.specs.declared.module_state.ModuleState.{ModuleState}
use Rattle.wasmparser_validator.proofs.types.TypesRef.entity.Goals as goal

pub returns-clause-same : goal.returns-clause-same
returns-clause-same c =
    let kind = external_kind c.args.kind in
    subst (λ (s : ModuleState). option_map (entity_type s.types) c.entity_at.result ≡ option_map (external_map (type_at (context s).types)) (item_at (context s) kind c.args.index)) c.state.ensures.same
    (entity_is (context c.state.result.now) c.state.ensures.shown.named (entity_type c.state.result.now.types) kind c.args.index c.entity_at.result c.entity_at.ensures.same)

pub returns-clause-ids : goal.returns-clause-ids
returns-clause-ids c = subst (λ (s : ModuleState). IfSome c.entity_at.result (λ entity. AreIds s.types (entity_refs entity))) c.state.ensures.same c.entity_at.ensures.ids
