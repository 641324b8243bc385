use Rattle.std.proofs.Common.{map}
use Rattle.std.proofs.lemmas.Result.{IfOk-weaker}
use Rattle.wasm_smith_shapes.specs.Imports.{import_entry}
use Rattle.wasm_smith_sections.proofs.FilledParts.{added_items}
use Rattle.wasm_smith_sections.proofs.filling.add_imports.Goals as goal
use Rattle.wasm_spec.specs.Syntax as spec

pub returns-clause-added : goal.returns-clause-added
returns-clause-added c =
    IfOk-weaker c.add.result _ _ (λ x h. added_items (λ xs. spec.ImportSection xs) (map import_entry c.args.imports.now) c.in_ok-section.section c.is_empty-is_empty.result _ _ c.in_ok-section.ensures.kept c.is_empty-is_empty.ensures h)
    c.add.ensures.added
