use Rattle.std.proofs.Common.{◌≡◌, true, subst, sym}
use Rattle.wasm_spec.specs.Trees.{type_at}
use Rattle.wasm_spec.specs.TypeReferences.{ref_map}
use Rattle.wasm_validity_laws.specs.NamedTypes.{Each, names_heap}
use Rattle.wasmparser_module_state.specs.State.{context, reference}
use Rattle.wasmparser_module_types.specs.ModuleTypes.{KnownTypes, stands_for}
use Rattle.wasmparser_validator.proofs.SpaceLaws.{is_meant, no_one}
use Rattle.wasm_validity.specs.IndexSpaces.{spaces_in}
use Rattle.wasmparser_validator.proofs.types.TypesRef.element_at.Goals as goal

pub unreachable-requires-in_default-ref_by_ids : goal.unreachable-requires-in_default-ref_by_ids
unreachable-requires-in_default-ref_by_ids c =
    let known = c.types.result.now in
    let elements = (spaces_in (context c.state-state.result.now)).elements in
    let named = subst (λ (k : KnownTypes). Each (λ type. names_heap k.types type.heap_type ≡ true) elements) (sym c.types.ensures) c.state-state.ensures.shown.named.elements in
    no_one c.ref_by_ids.result
    (is_meant reference (ref_map (type_at known.types)) (ref_map (stands_for known)) (λ type. names_heap known.types type.heap_type) elements c.args.index c.element_type_at.result c.in-Some.ty c.ref_by_ids.result named c.element_type_at.ensures c.in-Some.is c.ref_by_ids.ensures.same)
    c.in_default-ref_by_ids.is
