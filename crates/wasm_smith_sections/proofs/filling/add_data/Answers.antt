use Rattle.std.proofs.Common.{map, refl}
use Rattle.std.proofs.lemmas.Result.{IfOk-weaker}
use Rattle.wasm_smith_definitions.specs.Items as items
use Rattle.wasm_smith_sections.specs.Contents.{data_bytes}
use Rattle.wasm_smith_sections.proofs.FilledParts.{added_bytes}
use Rattle.wasm_smith_sections.proofs.filling.add_data.Goals as goal
use Rattle.wasm_spec.specs.Syntax as spec

pub returns-clause-added : goal.returns-clause-added
returns-clause-added c =
    IfOk-weaker c.add.result _ _
    (λ x h. added_bytes (λ xs. spec.DataSection xs) 11 data_bytes (map items.data_segment c.args.segments.now) c.in_ok-section.section c.is_empty-is_empty.result _ _ (λ xs. refl) c.in_ok-section.ensures.kept c.is_empty-is_empty.ensures h)
    c.add.ensures.added
