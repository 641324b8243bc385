use Rattle.std.proofs.Common.{ap, map}
use Rattle.wasm_smith_sections.specs.FilledSections.{filled_frame}
use Rattle.wasm_smith_sections.specs.ModuleItems.{made_of}
use Rattle.wasm_smith_sections.proofs.FilledParts.{all_added}
use Rattle.wasm_smith_sections.proofs.filling.filled_sections.Goals as goal

pub returns-clause-kept : goal.returns-clause-kept
returns-clause-kept c =
    let last = c.in_ok-add_last.ensures.added in
    (last.0, last.1, all_added c.args.made.now.data_count last.0 (made_of c.args.made.now) _ _ _ _ (ap (map filled_frame) c.new-sections.ensures.items) c.in_ok-add_first.ensures.added c.in_ok-add_middle.ensures.added last.2)
