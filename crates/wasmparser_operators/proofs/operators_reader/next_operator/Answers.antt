use Rattle.std.proofs.Common.{ap, ◌∙◌}
use Rattle.std.specs.Prelude.{slice_get}
use Rattle.wasm_core_read.specs.Input.{Input}
use Rattle.wasmparser_operators.specs.OperatorAnswers.{begins_end}
use Rattle.wasmparser_operators.proofs.KeptLaws.{read_of_kept}
use Rattle.wasmparser_operators.proofs.ReaderLaws.{ended}
use Rattle.wasmparser_operators.proofs.operators_reader.next_operator.Goals as goal

pub returns-in-Ok-clause-exact : goal.returns-in-Ok-clause-exact
returns-in-Ok-clause-exact c =
    let read = c.in-Ok.ensures.read in
    let same = c.begins_with_end-ends.ensures ∙ ap (λ (i : Input). begins_end (slice_get i.rest 0)) c.fork-start.ensures.same in
    (read_of_kept _ _ _ _ read.0, c.in-Ok.ensures.whole, read.1, ended _ _ _ _ _ c.fork-start.ensures.are read.0 same)
