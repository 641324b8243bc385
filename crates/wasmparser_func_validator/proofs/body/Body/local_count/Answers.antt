use Rattle.wasmparser_func_validator.specs.Steps.{locals_in_body, params_in}
use Rattle.wasmparser_func_validator.proofs.body.Body.local_count.Goals as goal

pub returns-clause-count : goal.returns-clause-count
unfolding locals_in_body
returns-clause-count g c = c.len.ensures.count (params_in g.R.WasmModuleResources.resources c.args.self.now)

pub returns-clause-within : goal.returns-clause-within
unfolding locals_in_body
returns-clause-within g c = c.len.ensures.within (params_in g.R.WasmModuleResources.resources c.args.self.now)
