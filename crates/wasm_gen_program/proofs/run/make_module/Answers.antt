use Rattle.std.proofs.lemmas.Result.{err_from_is_err_and}
use Rattle.wasm_gen_program.proofs.RunLaws.{refused_run}
use Rattle.wasm_gen_program.proofs.run.make_module.Goals as goal

pub returns-in_err-generate : goal.returns-in_err-generate
returns-in_err-generate g c =
    let p = err_from_is_err_and c.from_residual-in_err-generate.result c.from_residual-in_err-generate.ensures.1 in
    let read = c.in_ok-seed.ensures in
    rw (p.1, p.2) (refused_run c.args.config.now _ _ c.deref.result.now c.in_err-generate.field-0.0
    (rw c.deref.ensures.value read.whole) (rw c.deref.ensures.value read.within) read.ended c.in_err-generate.ensures.refused c.in_err-generate.ensures.rightly)
