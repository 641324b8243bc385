use Rattle.std.proofs.Common.{map, arith}
use Rattle.std.proofs.lemmas.Result.{IfOk-weaker, IfErr-weaker, err_from_is_err_and}
use Rattle.wasm_core_types.specs.SubTypes.{sub_type}
use Rattle.wasm_encoder_sections.specs.CoreItems.{memory_type}
use Rattle.wasm_smith_definitions.specs.Items as items
use Rattle.wasm_smith_shapes.specs.Imports.{import_entry}
use Rattle.wasm_smith_sections.specs.ModuleItems.{made_of}
use Rattle.wasm_smith_sections.proofs.FilledParts.{five_added, two_added, many_mapped, many_types, many_imports, many_functions, many_tables, many_memories}
use Rattle.wasm_smith_sections.proofs.TypeGroups.{many_groups}
use Rattle.wasm_smith_sections.proofs.filling.add_first.Goals as goal

pub returns-clause-added : goal.returns-clause-added
returns-clause-added c =
    IfOk-weaker c.add_memories.result _ _
    (λ x h. five_added _ _ _ _ _ _ _ _ _ _ _
    (two_added _ _ _ _ _ c.in_ok-add_customs.ensures.added c.in_ok-add_types.ensures.added)
    (two_added _ _ _ _ _ c.in_ok-add_customs-2.ensures.added c.in_ok-add_imports.ensures.added)
    (two_added _ _ _ _ _ c.in_ok-add_customs-3.ensures.added c.in_ok-add_functions.ensures.added)
    (two_added _ _ _ _ _ c.in_ok-add_customs-4.ensures.added c.in_ok-add_tables.ensures.added)
    (two_added _ _ _ _ _ c.in_ok-add_customs-5.ensures.added h)) c.add_memories.ensures.added

pub returns-in_err-add_types-clause-too_long : goal.returns-in_err-add_types-clause-too_long
returns-in_err-add_types-clause-too_long c =
    let p = err_from_is_err_and c.from_residual-in_err-add_types.result c.from_residual-in_err-add_types.ensures.1 in
    rw (p.1, p.2) (λ same. many_types c.args.made.now.data_count (made_of c.args.made.now) (omega (arith, (c.in_err-add_types.ensures.too_long same), many_groups c.args.made.now.sizes.now (map sub_type c.args.made.now.types.now))))

pub returns-in_err-add_imports-clause-too_long : goal.returns-in_err-add_imports-clause-too_long
returns-in_err-add_imports-clause-too_long c =
    let p = err_from_is_err_and c.from_residual-in_err-add_imports.result c.from_residual-in_err-add_imports.ensures.1 in
    rw (p.1, p.2) (λ same. many_imports c.args.made.now.data_count (made_of c.args.made.now) (many_mapped import_entry c.args.made.now.imports.now (c.in_err-add_imports.ensures.too_long same)))

pub returns-in_err-add_functions-clause-too_long : goal.returns-in_err-add_functions-clause-too_long
returns-in_err-add_functions-clause-too_long c =
    let p = err_from_is_err_and c.from_residual-in_err-add_functions.result c.from_residual-in_err-add_functions.ensures.1 in
    rw (p.1, p.2) (λ same. many_functions c.args.made.now.data_count (made_of c.args.made.now) ((c.in_err-add_functions.ensures.too_long same)))

pub returns-in_err-add_tables-clause-too_long : goal.returns-in_err-add_tables-clause-too_long
returns-in_err-add_tables-clause-too_long c =
    let p = err_from_is_err_and c.from_residual-in_err-add_tables.result c.from_residual-in_err-add_tables.ensures.1 in
    rw (p.1, p.2) (λ same. many_tables c.args.made.now.data_count (made_of c.args.made.now) (many_mapped items.table c.args.made.now.tables.now (c.in_err-add_tables.ensures.too_long same)))

pub returns-clause-too_long : goal.returns-clause-too_long
returns-clause-too_long c =
    IfErr-weaker c.add_memories.result _ _ (λ e long same. many_memories c.args.made.now.data_count (made_of c.args.made.now) (many_mapped memory_type c.args.made.now.memories.now (long same))) c.add_memories.ensures.too_long
