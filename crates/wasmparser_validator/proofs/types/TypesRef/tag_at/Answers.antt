use Rattle.wasmparser_module_state.specs.State.{context}
use Rattle.std.proofs.Common.{◌≡◌, true, is_some, subst, sym}
use Rattle.wasm_validity.specs.DefinedTypes.{func_type_at}
use Rattle.wasm_validity_laws.specs.NamedTypes.{Each}
use Rattle.wasmparser_module_types.specs.ModuleTypes.{KnownTypes}
use Rattle.wasmparser_validator.proofs.SpaceLaws.{id_named, no_one}
use Rattle.wasm_validity.specs.IndexSpaces.{spaces_in}
use Rattle.wasmparser_validator.proofs.types.TypesRef.tag_at.Goals as goal

pub unreachable-requires-in_default-type_id : goal.unreachable-requires-in_default-type_id
unreachable-requires-in_default-type_id c =
    let tags = (spaces_in (context c.state-state.result.now)).tags in
    let named = subst (λ (known : KnownTypes). Each (λ index. is_some (func_type_at known.types index) ≡ true) tags) (sym c.types.ensures) c.state-state.ensures.shown.named.tags in
    no_one c.type_id.result
    (id_named c.types.result.now.types c.types.result.now.interned c.in-Some.ty c.type_id.result c.type_id.ensures.named tags c.args.index c.type_of_tag.result c.type_of_tag.ensures c.in-Some.is named)
    c.in_default-type_id.is
