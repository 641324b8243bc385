use Rattle.std.proofs.Common.{◌++◌, ap, sym, ◌∙◌, append_assoc}
use Rattle.std.proofs.lemmas.List.{append-nil}
use Rattle.std.proofs.lemmas.Result.{err_from_is_err_and}
use Rattle.wasm_smith_sections.specs.FilledSections.{filled_frame, frame_bytes}
use Rattle.wasm_smith_sections.proofs.WrittenFrames.{next_bytes, next_long, no_bytes_left, this_long}
use Rattle.wasm_smith_sections.proofs.writing.append_all.Goals as goal

pub loop-section-preserved : goal.loop-section-preserved
loop-section-preserved c =
    let sections = c.args.sections.now in
    let i = c.loop-section.section-index in
    let section = c.section-item.result in
    let within = c.loop-section-test.true in
    record {
      so_far =
          rw c.in_ok-append.ensures.appended (append_assoc _ (frame_bytes (filled_frame section)) _
          ∙ ap (λ l. c.loop-section.bytes.items ++ l) (sym (next_bytes sections i section within c.section-item.is)) ∙ c.loop-section.invariant.so_far);
      long = next_long sections i section within c.section-item.is c.loop-section.invariant.long;
    }

pub returns-in_err-append-clause-too_long : goal.returns-in_err-append-clause-too_long
returns-in_err-append-clause-too_long c =
    let p = err_from_is_err_and c.from_residual.result c.from_residual.ensures.1 in
    rw (p.1, p.2) (λ same.
    this_long c.args.sections.now c.loop-section.section-index c.section-item.result c.loop-section-test.true c.section-item.is c.loop-section.invariant.long
    (c.in_err-append.ensures.too_long same))

pub returns-clause-appended : goal.returns-clause-appended
returns-clause-appended c =
    sym (append-nil c.loop-section.bytes.items)
    ∙ ap (λ l. c.loop-section.bytes.items ++ l) (sym (no_bytes_left c.args.sections.now c.loop-section.section-index c.loop-section-test.false)) ∙ c.loop-section.invariant.so_far
