use Rattle.std.proofs.Common.{map, refl}
use Rattle.std.proofs.lemmas.Result.{IfOk-weaker}
use Rattle.wasm_smith_definitions.specs.Items as items
use Rattle.wasm_smith_sections.specs.Contents.{table_bytes}
use Rattle.wasm_smith_sections.proofs.FilledParts.{added_bytes}
use Rattle.wasm_smith_sections.proofs.filling.add_tables.Goals as goal
use Rattle.wasm_spec.specs.Syntax as spec

pub returns-clause-added : goal.returns-clause-added
returns-clause-added c =
    IfOk-weaker c.add.result _ _
    (λ x h. added_bytes (λ xs. spec.TableSection xs) 4 table_bytes (map items.table c.args.tables.now) c.in_ok-section.section c.is_empty-is_empty.result _ _ (λ xs. refl) c.in_ok-section.ensures.kept c.is_empty-is_empty.ensures h)
    c.add.ensures.added
