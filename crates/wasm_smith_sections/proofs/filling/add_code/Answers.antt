use Rattle.std.proofs.lemmas.Result.{IfOk-weaker}
use Rattle.std.proofs.Common.{refl}
use Rattle.wasm_smith_sections.proofs.FilledParts.{added_items}
use Rattle.wasm_smith_sections.proofs.filling.add_code.Goals as goal
use Rattle.wasm_spec.specs.Syntax as spec

pub returns-clause-added : goal.returns-clause-added
returns-clause-added c =
    let bodies = c.in_ok-section.section in
    IfOk-weaker c.add.result _ _
    (λ x h. (bodies, c.in_ok-section.ensures.kept, added_items (λ xs. spec.CodeSection xs) bodies bodies c.is_empty-is_empty.result _ _ refl c.is_empty-is_empty.ensures h)) c.add.ensures.added
