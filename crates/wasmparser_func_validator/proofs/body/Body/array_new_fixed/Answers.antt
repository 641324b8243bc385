use Rattle.std.proofs.Common.{sym, subst}
use Rattle.std.specs.Option.{option_and_then}
use Rattle.wasm_bodies.specs.Operands.{applied}
use Rattle.wasmparser_types.specs.ValTypes.{val_type}
use Rattle.wasmparser_func_validator.specs.Steps.{Takes, items_in}
use Rattle.wasmparser_func_validator.proofs.OperandLaws.{fixed_is}
use Rattle.wasmparser_func_validator.proofs.body.Body.array_new_fixed.Goals as goal

pub returns-in-Some : goal.returns-in-Some
returns-in-Some g c =
    let items = items_in g.R.WasmModuleResources.resources c.args.self.now in
    subst (λ o. Takes (option_and_then (λ signature. applied items signature c.args.stacks.now.now) o) c.args.stacks.now c.make.new.stacks c.make.result)
    (sym (fixed_is items c.args.type_index c.args.count (val_type c.in-Some.value_type) _ c.in-Some.ensures)) c.make.ensures
