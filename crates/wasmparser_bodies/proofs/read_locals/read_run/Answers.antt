use Rattle.std.proofs.Common.{inl}
use Rattle.wasmparser_operators.specs.OperatorValues.{module_type}
use Rattle.wasmparser_bodies.specs.BodyAnswers.{HasManyTypes}
use Rattle.wasmparser_bodies.specs.Fronts.{StopsAmong}
use Rattle.wasmparser_bodies.specs.LocalsAnswers.{run_outcome}
use Rattle.wasmparser_bodies.proofs.LocalsSteps.{broken_run, run_answered, run_without_count, run_without_type}
use Rattle.wasmparser_bodies.proofs.read_locals.read_run.Goals as goal

pub returns-in_default-clause-read : goal.returns-in_default-clause-read
returns-in_default-clause-read g c =
    let old = g.B.BodyValidator.state c.args.body.now in
    broken_run (HasManyTypes old.items) (StopsAmong old.features old.items 1 old.locals c.args.reader.now.rest) c.args.reader.now _ _ (run_outcome old c.args.reader.now.rest) c.broken.ensures c.original_position-offset.ensures.place
    (λ others. inl (run_without_count old _ c.in_default.ensures.exact.0 others))

pub returns-in_default-read_local_type-clause-read : goal.returns-in_default-read_local_type-clause-read
returns-in_default-read_local_type-clause-read g c =
    let old = g.B.BodyValidator.state c.args.body.now in
    broken_run (HasManyTypes old.items) (StopsAmong old.features old.items 1 old.locals c.args.reader.now.rest) c.args.reader.now _ _ (run_outcome old c.args.reader.now.rest) c.broken-in_default-read_local_type.ensures c.original_position-offset.ensures.place
    (run_without_type old _ _ _ c.in-Ok.ensures.exact.0 c.in_default-read_local_type.ensures)

pub returns-clause-read : goal.returns-clause-read
returns-clause-read g c =
    let from = c.args.reader.now in
    let mid = c.read_var_u32.new.self in
    let to = c.read_local_type.new.reader in
    run_answered (g.B.BodyValidator.state c.args.body.now) (g.B.BodyValidator.state c.define_locals.new.self) from mid to _ c.in-Ok.count (module_type c.in-Some.ty) c.define_locals.result
    c.original_position-offset.ensures.place c.in-Ok.ensures.exact.0 c.in-Ok.ensures.exact.1 c.in-Some.ensures.0 c.in-Some.ensures.2 c.define_locals.ensures.defined
