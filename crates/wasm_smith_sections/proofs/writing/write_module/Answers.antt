use Rattle.std.proofs.Common.{ap, map, ◌∙◌}
use Rattle.std.proofs.lemmas.Result.{IfOk-weaker, IfErr-weaker}
use Rattle.wasm_smith_sections.specs.FilledSections.{filled_frame}
use Rattle.wasm_smith_sections.specs.ModuleItems.{made_of}
use Rattle.wasm_smith_sections.proofs.WrittenFrames.{both_ok, module_of, too_long_of}
use Rattle.wasm_smith_sections.proofs.writing.write_module.Goals as goal

pub returns-clause-written : goal.returns-clause-written
returns-clause-written c =
    let h = c.in_ok-sections.ensures.kept in
    IfOk-weaker c.write_sections.result _ _
    (λ bytes w. module_of c.args.made.now.data_count (made_of c.args.made.now) h.0 (map filled_frame c.deref.result.now) bytes.items h.1 (ap (map filled_frame) c.deref.ensures.value ∙ h.2) w.0 w.1)
    (both_ok c.write_sections.result _ _ c.write_sections.ensures.written c.write_sections.ensures.short)

pub returns-clause-too_long : goal.returns-clause-too_long
returns-clause-too_long c =
    let h = c.in_ok-sections.ensures.kept in
    IfErr-weaker c.write_sections.result _ _
    (λ e long same. too_long_of c.args.made.now.data_count (made_of c.args.made.now) h.0 (map filled_frame c.deref.result.now) h.1 (ap (map filled_frame) c.deref.ensures.value ∙ h.2) (long same))
    c.write_sections.ensures.too_long
