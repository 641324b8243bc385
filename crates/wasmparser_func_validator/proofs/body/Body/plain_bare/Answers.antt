use Rattle.wasmparser_func_validator.specs.Steps.{body_context}
use Rattle.wasmparser_func_validator.proofs.PlainLaws.{bare_step}
use Rattle.wasmparser_func_validator.proofs.body.Body.plain_bare.Goals as goal

pub returns-then-bare : goal.returns-then-bare
returns-then-bare g c = bare_step (body_context g.R.WasmModuleResources.resources c.args.self.now) c.args.stacks.now c.bare.new.stacks c.args.code c.args.rest.now c.if-bare.ensures
