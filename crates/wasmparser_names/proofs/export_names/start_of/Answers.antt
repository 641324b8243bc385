use Rattle.std.proofs.Common.{◌≡◌, suc, arith, refl, sym}
use Rattle.wasmparser_names.proofs.KeptExports.{end_before, is_zero}
use Rattle.wasmparser_names.proofs.export_names.start_of.Goals as goal

pub returns-in-Some : goal.returns-in-Some
returns-in-Some c =
    let is : c.args.place ≡ suc c.in-Some.before = omega (arith, c.in-Some.ensures.0, c.in-Some.ensures.1) in
    rw is (sym (end_before 0 c.args.exports.now c.in-Some.before _ (omega (arith, is, c.requires))))

pub returns-in-None : goal.returns-in-None
returns-in-None c = rw (is_zero c.args.place c.in-None.ensures) refl
