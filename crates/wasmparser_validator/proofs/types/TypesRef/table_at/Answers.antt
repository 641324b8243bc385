use Rattle.std.proofs.Common.{◌≡◌, true, subst, sym}
use Rattle.wasm_spec.specs.Trees.{type_at}
use Rattle.wasm_spec.specs.TypeReferences.{table_map}
use Rattle.wasm_validity_laws.specs.NamedTypes.{Each, names_heap}
use Rattle.wasmparser_readers.specs.ItemTypes.{table_type}
use Rattle.wasmparser_module_state.specs.State.{context, table}
use Rattle.wasmparser_module_types.specs.ModuleTypes.{KnownTypes, stands_for}
use Rattle.wasmparser_validator.proofs.SpaceLaws.{is_meant, no_one}
use Rattle.wasm_validity.specs.IndexSpaces.{spaces_in}
use Rattle.wasmparser_validator.proofs.types.TypesRef.table_at.Goals as goal

pub unreachable-requires-in_default-table_by_ids : goal.unreachable-requires-in_default-table_by_ids
unreachable-requires-in_default-table_by_ids c =
    let known = c.types.result.now in
    let tables = (spaces_in (context c.state-state.result.now)).tables in
    let named = subst (λ (k : KnownTypes). Each (λ type. names_heap k.types type.element_type.heap_type ≡ true) tables) (sym c.types.ensures) c.state-state.ensures.shown.named.tables in
    no_one c.table_by_ids.result
    (is_meant table (table_map (type_at known.types)) (λ new. table_map (stands_for known) (table_type new)) (λ type. names_heap known.types type.element_type.heap_type) tables c.args.index c.table_at.result c.in-Some.ty c.table_by_ids.result named c.table_at.ensures c.in-Some.is c.table_by_ids.ensures.same)
    c.in_default-table_by_ids.is
