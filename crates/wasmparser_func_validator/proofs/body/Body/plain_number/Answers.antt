use Rattle.wasmparser_func_validator.specs.Steps.{body_context}
use Rattle.wasmparser_func_validator.proofs.PlainLaws.{number_step}
use Rattle.wasmparser_func_validator.proofs.body.Body.plain_number.Goals as goal

pub returns-then-with_number : goal.returns-then-with_number
returns-then-with_number g c =
    let cx = body_context g.R.WasmModuleResources.resources c.args.self.now in
    number_step cx c.args.stacks.now c.with_number.new.stacks c.args.code c.in_ok-number.number c.args.rest.now c.in_ok-number.rest.now c.in_ok-number.ensures.read c.if-with_number.ensures
