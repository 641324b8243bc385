use Rattle.wasmparser_func_validator.specs.Plain.{IsScalarForm}
use Rattle.wasmparser_func_validator.specs.Steps.{body_context}
use Rattle.wasmparser_func_validator.proofs.PlainLaws.{scalar_step}
use Rattle.wasmparser_func_validator.proofs.body.Body.quick_scalar.Goals as goal

pub returns-then-compute : goal.returns-then-compute
returns-then-compute g c =
    let cx = body_context g.R.WasmModuleResources.resources c.args.self.now in
    let formed : IsScalarForm c.args.code c.in_ok-form.form = rw c.in_ok-form.was at c.requires.formed in
    scalar_step cx c.args.stacks.now c.compute.new.stacks c.args.code c.in_ok-form.form c.args.rest.now c.requires.inside formed c.if-are_floats_on.ensures c.if-compute.ensures
