use Rattle.std.proofs.lemmas.Result.{IfOk-weaker, IfErr-weaker, err_from_is_err_and}
use Rattle.wasm_smith_definitions.specs.Items as items
use Rattle.wasm_smith_sections.specs.ModuleItems.{made_of}
use Rattle.wasm_smith_sections.proofs.FilledParts.{five_added, two_added, many_mapped, many_tags, many_globals, many_exports, many_elements}
use Rattle.wasm_smith_sections.proofs.filling.add_middle.Goals as goal

pub returns-clause-added : goal.returns-clause-added
returns-clause-added c =
    IfOk-weaker c.add_elements.result _ _
    (λ x h. five_added _ _ _ _ _ _ _ _ _ _ _
    (two_added _ _ _ _ _ c.in_ok-add_customs.ensures.added c.in_ok-add_tags.ensures.added)
    (two_added _ _ _ _ _ c.in_ok-add_customs-2.ensures.added c.in_ok-add_globals.ensures.added)
    (two_added _ _ _ _ _ c.in_ok-add_customs-3.ensures.added c.in_ok-add_exports.ensures.added)
    (two_added _ _ _ _ _ c.in_ok-add_customs-4.ensures.added c.in_ok-add_start.ensures.added)
    (two_added _ _ _ _ _ c.in_ok-add_customs-5.ensures.added h)) c.add_elements.ensures.added

pub returns-in_err-add_tags-clause-too_long : goal.returns-in_err-add_tags-clause-too_long
returns-in_err-add_tags-clause-too_long c =
    let p = err_from_is_err_and c.from_residual-in_err-add_tags.result c.from_residual-in_err-add_tags.ensures.1 in
    rw (p.1, p.2) (λ same. many_tags c.args.made.now.data_count (made_of c.args.made.now) ((c.in_err-add_tags.ensures.too_long same)))

pub returns-in_err-add_globals-clause-too_long : goal.returns-in_err-add_globals-clause-too_long
returns-in_err-add_globals-clause-too_long c =
    let p = err_from_is_err_and c.from_residual-in_err-add_globals.result c.from_residual-in_err-add_globals.ensures.1 in
    rw (p.1, p.2) (λ same. many_globals c.args.made.now.data_count (made_of c.args.made.now) (many_mapped items.global c.args.made.now.globals.now (c.in_err-add_globals.ensures.too_long same)))

pub returns-in_err-add_exports-clause-too_long : goal.returns-in_err-add_exports-clause-too_long
returns-in_err-add_exports-clause-too_long c =
    let p = err_from_is_err_and c.from_residual-in_err-add_exports.result c.from_residual-in_err-add_exports.ensures.1 in
    rw (p.1, p.2) (λ same. many_exports c.args.made.now.data_count (made_of c.args.made.now) (many_mapped items.export c.args.made.now.exports.now (c.in_err-add_exports.ensures.too_long same)))

pub returns-clause-too_long : goal.returns-clause-too_long
returns-clause-too_long c =
    IfErr-weaker c.add_elements.result _ _ (λ e long same. many_elements c.args.made.now.data_count (made_of c.args.made.now) (many_mapped items.element_segment c.args.made.now.elems.now (long same))) c.add_elements.ensures.too_long
