use Rattle.std.proofs.Common.{refl}
use Rattle.std.proofs.lemmas.Result.{IfOk-weaker, err_from_is_err_and}
use Rattle.wasm_smith_definitions.specs.Items as items
use Rattle.wasm_smith_sections.specs.ModuleItems.{made_of}
use Rattle.wasm_smith_sections.proofs.FilledParts.{four_added, long_code, many_data, many_mapped, two_added}
use Rattle.wasm_smith_sections.proofs.filling.add_last.Goals as goal

pub returns-clause-added : goal.returns-clause-added
returns-clause-added c =
    let code = c.in_ok-add_code.ensures.added in
    IfOk-weaker c.add_customs-4.result _ _
    (λ x h. (
      code.0,
      code.1,
      four_added _ _ _ _ _ _ _ _ _
          (two_added _ _ _ _ _ c.in_ok-add_customs.ensures.added c.in_ok-add_data_count.ensures.added)
          (two_added _ _ _ _ _ c.in_ok-add_customs-2.ensures.added code.2)
          (two_added _ _ _ _ _ c.in_ok-add_customs-3.ensures.added c.in_ok-add_data.ensures.added) h,
    )) c.add_customs-4.ensures.added

pub returns-in_err-add_data_count-clause-too_long : goal.returns-in_err-add_data_count-clause-too_long
returns-in_err-add_data_count-clause-too_long c =
    let p = err_from_is_err_and c.from_residual-in_err-add_data_count.result c.from_residual-in_err-add_data_count.ensures.1 in
    rw (p.1, p.2) (λ same. many_data c.args.made.now.data_count (made_of c.args.made.now) (many_mapped items.data_segment c.args.made.now.data_segments.now (c.in_err-add_data_count.ensures.too_long same)))

pub returns-in_err-add_code-clause-too_long : goal.returns-in_err-add_code-clause-too_long
returns-in_err-add_code-clause-too_long c =
    let p = err_from_is_err_and c.from_residual-in_err-add_code.result c.from_residual-in_err-add_code.ensures.1 in
    rw (p.1, p.2) (λ same. long_code c.args.made.now.data_count (made_of c.args.made.now) c.args.made.now.bodies.now items.made_body refl (c.in_err-add_code.ensures.too_long same))

pub returns-in_err-add_data-clause-too_long : goal.returns-in_err-add_data-clause-too_long
returns-in_err-add_data-clause-too_long c =
    let p = err_from_is_err_and c.from_residual-in_err-add_data.result c.from_residual-in_err-add_data.ensures.1 in
    rw (p.1, p.2) (λ same. many_data c.args.made.now.data_count (made_of c.args.made.now) (many_mapped items.data_segment c.args.made.now.data_segments.now (c.in_err-add_data.ensures.too_long same)))
