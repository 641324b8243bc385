use Rattle.std.proofs.Common.{rules}
use Rattle.wasm_gen_explain.specs.Bodies.{PassesBody}
use Rattle.wasm_gen_explain.proofs.CodeLaws.{few_on}
use Rattle.wasm_gen_explain.proofs.PassedLaws.{next_passed}
use Rattle.wasm_gen_explain.proofs.bodies.place_at_bodies.Goals as goal

-- src/bodies.rt:77:5
pub loop-number-preserved : goal.loop-number-preserved
loop-number-preserved c =
    let at = c.loop-number in
    let new = c.place_at_body-place.new.reader in
    record {
      passed = next_passed (PassesBody c.args.offset) c.args.reader.now at.reader new at.number at.invariant.passed (search rules);
      few = few_on c.args.imported at.number at.reader new c.args.offset at.invariant.few (search rules);
    }
