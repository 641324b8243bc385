use Rattle.std.proofs.Common.{sym, subst}
use Rattle.wasmparser_bodies.specs.Runs.{LeadsOn}
use Rattle.wasmparser_bodies.proofs.Runs.{leads_nowhere}
use Rattle.wasmparser_func_validator.specs.Steps.{body_context}
use Rattle.wasmparser_func_validator.proofs.PlainLaws.{gets_shorter, steps_further}
use Rattle.wasmparser_func_validator.proofs.body.Body.run_quickly.Goals as goal

pub operators-init : goal.operators-init
operators-init g c = leads_nowhere (body_context g.R.WasmModuleResources.resources c.args.self.now) c.args.stacks.now c.args.code.now c.requires.inside

pub quick-requires-clause-inside : goal.quick-requires-clause-inside
quick-requires-clause-inside g c = c.operators.invariant.inside

pub operators-smaller : goal.operators-smaller
operators-smaller g c = gets_shorter (body_context g.R.WasmModuleResources.resources c.args.self.now) c.operators.stacks c.quick.new.stacks c.operators.rest.now c.in-Some.after.now c.in-Some.ensures

pub operators-preserved : goal.operators-preserved
operators-preserved g c =
    steps_further (body_context g.R.WasmModuleResources.resources c.args.self.now) c.args.stacks.now c.operators.stacks c.quick.new.stacks c.args.code.now c.operators.rest.now c.in-Some.after.now c.operators.invariant c.in-Some.ensures

pub returns : goal.returns
returns g c =
    let cx = body_context g.R.WasmModuleResources.resources c.args.self.now in
    subst (λ m. LeadsOn cx c.args.stacks.now m c.args.code.now c.operators.rest.now) (sym c.in_default.ensures) c.operators.invariant
