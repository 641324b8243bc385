use Rattle.std.proofs.Common.{sym, subst}
use Rattle.std.proofs.lemmas.Result.{err_from_is_err_and}
use Rattle.wasm_smith_definitions.proofs.TableLaws.{sanitized_few}
use Rattle.wasm_smith_definitions.specs.Offered.{HasFewTables}
use Rattle.wasm_smith_module.proofs.MadeLaws.{made_from, distinct_from, drawn_from, passed_from, plain_from, ended_from, bad_from, refused_from, taken_from, unread_from}
use Rattle.wasm_smith_module.proofs.module.Module.new_bounded.Goals as goal

pub build-requires-clause-tables : goal.build-requires-clause-tables
build-requires-clause-tables c = subst HasFewTables (sym c.sanitize.ensures.sanitized) (sanitized_few _)

pub returns-in_err-check-clause-refused : goal.returns-in_err-check-clause-refused
returns-in_err-check-clause-refused c =
    let p = err_from_is_err_and c.from_residual.result c.from_residual.ensures.1 in
    rw (p.1, p.2) (bad_from _ c.sanitize.new.self _ c.sanitize.ensures.sanitized c.in_err-check.ensures.bad)

pub returns-in_err-check_shapes-clause-refused : goal.returns-in_err-check_shapes-clause-refused
returns-in_err-check_shapes-clause-refused c =
    let p = err_from_is_err_and c.from_residual-in_err-check_shapes.result c.from_residual-in_err-check_shapes.ensures.1 in
    rw (p.1, p.2) (refused_from _ c.sanitize.new.self _ c.sanitize.ensures.sanitized c.in_ok-check.ensures.good c.in_err-check_shapes.ensures.bad)

pub returns-clause-made : goal.returns-clause-made
returns-clause-made c =
    made_from _ c.sanitize.new.self c.args.duplicates _ _ _ c.build.result c.sanitize.ensures.sanitized c.in_ok-check.ensures.good c.in_ok-check_shapes.ensures.good c.build.ensures.built

pub returns-clause-drawn : goal.returns-clause-drawn
returns-clause-drawn c = drawn_from _ c.sanitize.new.self c.args.duplicates _ _ _ c.build.result c.sanitize.ensures.sanitized c.build.ensures.built

pub returns-clause-imports : goal.returns-clause-imports
returns-clause-imports c = taken_from _ c.sanitize.new.self c.args.duplicates _ _ _ c.build.result c.sanitize.ensures.sanitized c.build.ensures.built

pub returns-clause-distinct : goal.returns-clause-distinct
returns-clause-distinct c = distinct_from c.sanitize.new.self c.args.duplicates _ _ _ c.build.result c.build.ensures.built

pub returns-clause-plain : goal.returns-clause-plain
returns-clause-plain c = plain_from c.sanitize.new.self c.args.duplicates _ _ _ c.build.result c.build.ensures.built

pub returns-clause-passed : goal.returns-clause-passed
returns-clause-passed c =
    passed_from _ c.sanitize.new.self c.args.duplicates _ _ _ c.build.result c.sanitize.ensures.sanitized c.in_ok-check.ensures.good c.in_ok-check_shapes.ensures.good c.build.ensures.built

pub returns-clause-refused : goal.returns-clause-refused
returns-clause-refused c = ended_from _ c.sanitize.new.self c.build.result c.sanitize.ensures.sanitized c.in_ok-check.ensures.good c.in_ok-check_shapes.ensures.good c.build.ensures.ended

pub returns-clause-unread : goal.returns-clause-unread
returns-clause-unread c = unread_from c.sanitize.new.self _ _ c.build.result c.build.ensures.ended
