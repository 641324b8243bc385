use Rattle.wasmparser_func_validator.specs.Steps.{body_context}
use Rattle.wasmparser_func_validator.proofs.PlainLaws.{bare_step}
use Rattle.wasmparser_func_validator.proofs.body.Body.quick_end.Goals as goal

pub returns-then-close_empty : goal.returns-then-close_empty
returns-then-close_empty g c =
    let cx = body_context g.R.WasmModuleResources.resources c.args.self.now in
    bare_step cx c.args.stacks.now c.close_empty.new.stacks 11 c.args.rest.now c.if-close_empty.ensures
