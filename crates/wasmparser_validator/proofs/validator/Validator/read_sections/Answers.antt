use Rattle.std.proofs.Common.{refl, sym, ap, subst, ◌∙◌, Err, arith}
use Rattle.std.proofs.lemmas.Result.{err_from_is_err_and}
use Rattle.wasm_core_read.proofs.FrontLaws.{slice_bytes}
use Rattle.wasmparser_payloads.specs.Parsing.{piece}
use Rattle.wasmparser_validator.specs.Judges.{Judge, judge, stated_with}
use Rattle.wasmparser_validator.specs.PieceJudging.{Says, AddsPiece}
use Rattle.wasmparser_validator.specs.Stages.{may_begin}
use Rattle.wasmparser_validator.proofs.ReadPieces.{begins, goes_on, refused, not_ended, unread, all_read}
use Rattle.wasmparser_validator.proofs.validator.Validator.read_sections.Goals as goal

pub payloads-init : goal.payloads-init
payloads-init c = rw (c.parse_all-payloads.ensures, c.set_features.ensures, c.features.ensures, c.new-parser.ensures) (begins _ _ _ _ _ _ c.requires.nothing c.requires.none c.requires.no_count, refl, refl, refl)

pub returns-in_err-payload-clause-read : goal.returns-in_err-payload-clause-read
returns-in_err-payload-clause-read c =
    let n = rw c.in_err-payload.was at c.in-Some.ensures.steps in
    let p = err_from_is_err_and c.from_residual.result c.from_residual.ensures.1 in
    let going = not_ended _ _ (c.in-Some.ensures.goes.on tt).2 in
    rw (p.1, p.2) (unread _ _ _ _ _ _ _ _ _ (slice_bytes _ c.type_inv.bytes) c.payloads.invariant.0 going n.0 n.1 n.2)

pub add-requires : goal.add-requires
add-requires c = ap may_begin (c.payloads.invariant.2 ∙ c.requires.sections)

pub payloads-preserved : goal.payloads-preserved
payloads-preserved c =
    let n = rw c.in_ok-payload.was at c.in-Some.ensures.steps in
    let says = subst (λ f. Says f (judge c.payloads.self).known (judge c.payloads.self).held (piece c.in_ok-payload.payload) (judge c.add.new.self).known (judge c.add.new.self).held) c.payloads.invariant.1 c.in_ok-add.ensures.added in
    let others = c.in_ok-add.ensures.others in
    let kept = c.in_ok-keep.ensures.count in
    let says_kept = subst (λ (j : Judge). Says (judge c.args.self.now).features (judge c.payloads.self).known (judge c.payloads.self).held (piece c.in_ok-payload.payload) j.known j.held) (sym kept) says in (
      goes_on _ _ _ _ _ _ _ _ _ _ _ _ _ _ c.payloads.invariant.0 n says_kept c.in_ok-keep.ensures.bodies (ap (λ (j : Judge). j.stated) kept ∙ ap (λ (j : Judge). stated_with (piece c.in_ok-payload.payload) j.stated) others),
      ap (λ (j : Judge). j.features) kept ∙ ap (λ (j : Judge). j.features) others ∙ c.payloads.invariant.1,
      ap (λ (j : Judge). j.stage) kept ∙ ap (λ (j : Judge). j.stage) others ∙ c.payloads.invariant.2,
      ap (λ (j : Judge). j.id) kept ∙ ap (λ (j : Judge). j.id) others ∙ c.payloads.invariant.3,
    )

pub returns-in_err-add-clause-read : goal.returns-in_err-add-clause-read
returns-in_err-add-clause-read c =
    let n = rw c.in_ok-payload.was at c.in-Some.ensures.steps in
    let p = err_from_is_err_and c.from_residual-in_err-add.result c.from_residual-in_err-add.ensures.1 in
    let h = subst (λ f. AddsPiece f (judge c.payloads.self).known (judge c.payloads.self).held (piece c.in_ok-payload.payload) (Err c.in_err-add.field-0.0) (judge c.add.new.self).known (judge c.add.new.self).held) c.payloads.invariant.1 c.in_err-add.ensures.added in
    rw (p.1, p.2) (refused _ _ _ _ (judge c.add.new.self).known _ (judge c.add.new.self).held _ _ _ _ _ _ (slice_bytes _ c.type_inv.bytes) c.payloads.invariant.0 n h)

pub returns-in_err-keep-clause-read : goal.returns-in_err-keep-clause-read
returns-in_err-keep-clause-read c =
    let p = err_from_is_err_and c.from_residual-in_err-keep.result c.from_residual-in_err-keep.ensures.1 in
    rw (p.1, p.2, c.in_err-keep.ensures.memory.0) (tt, omega arith)

pub returns-clause-read : goal.returns-clause-read
returns-clause-read c = all_read _ _ _ _ _ _ _ _ (slice_bytes _ c.type_inv.bytes) c.payloads.invariant.0 c.in_default.ensures.steps.0
