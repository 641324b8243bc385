use Rattle.wasmparser_func_validator.specs.Steps.{body_context}
use Rattle.wasmparser_func_validator.proofs.PlainLaws.{bare_step}
use Rattle.wasmparser_func_validator.proofs.body.Body.quick_bare.Goals as goal

pub returns-then-bare_quickly : goal.returns-then-bare_quickly
returns-then-bare_quickly g c =
    let cx = body_context g.R.WasmModuleResources.resources c.args.self.now in
    bare_step cx c.args.stacks.now c.bare_quickly.new.stacks c.args.code c.args.rest.now c.if-bare_quickly.ensures
