use Rattle.std.proofs.Common.{arith}
use Rattle.wasmparser_func_validator.specs.Steps.{body_context}
use Rattle.wasmparser_bodies.proofs.Runs.{leads_both}
use Rattle.wasmparser_func_validator.proofs.PlainLaws.{gets_shorter, steps_further}
use Rattle.wasmparser_func_validator.proofs.body.Body.run.Goals as goal

pub operators-smaller : goal.operators-smaller
operators-smaller g c =
    let cx = body_context g.R.WasmModuleResources.resources c.args.self.now in
    omega (arith, gets_shorter cx c.operators.stacks c.plain.new.stacks c.operators.rest.now c.in-Some.after.now c.in-Some.ensures, c.run_quickly-rest-in-Some.ensures.not_longer)

pub operators-preserved : goal.operators-preserved
operators-preserved g c =
    let cx = body_context g.R.WasmModuleResources.resources c.args.self.now in
    leads_both cx c.args.stacks.now c.plain.new.stacks c.run_quickly-rest-in-Some.new.stacks c.args.code.now c.in-Some.after.now c.run_quickly-rest-in-Some.result.now
    (steps_further cx c.args.stacks.now c.operators.stacks c.plain.new.stacks c.args.code.now c.operators.rest.now c.in-Some.after.now c.operators.invariant c.in-Some.ensures)
    c.run_quickly-rest-in-Some.ensures
