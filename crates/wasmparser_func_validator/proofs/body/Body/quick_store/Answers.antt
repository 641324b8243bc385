use Rattle.std.proofs.Common.{◌≡◌, ◌∷◌, [], true, refl, sym}
use Rattle.std.specs.List.{list_all}
use Rattle.wasm_bodies.specs.OperatorGates.{float_gate}
use Rattle.wasm_bodies.specs.OperatorRows.{Int32, access, value_type}
use Rattle.wasm_spec.specs.Features.{has}
use Rattle.wasmparser_operators.specs.OperatorValues.{memory_argument}
use Rattle.wasmparser_types.specs.ValTypes.{val_type}
use Rattle.wasmparser_func_validator.specs.NumericForms.{number}
use Rattle.wasmparser_func_validator.specs.Steps.{body_context}
use Rattle.wasmparser_func_validator.proofs.PlainLaws.{accessed_number, is_itself, store_step, two_taken}
use Rattle.wasmparser_func_validator.proofs.body.Body.quick_store.Goals as goal

pub returns-then-are_known : goal.returns-then-are_known
returns-then-are_known g c =
    let cx = body_context g.R.WasmModuleResources.resources c.args.self.now in
    let address = val_type c.in_ok-address.address in
    let on : list_all (has cx.features) (float_gate (number c.in_ok-ty.ty ∷ [])) ≡ true = sym {b = list_all (has cx.features) (float_gate (number c.in_ok-ty.ty ∷ []))} c.if-not-is_number_on.ensures in
    let itself = is_itself cx.items address c.requires.fit (accessed_number cx.items (access 0 Int32 c.in_ok-ty.exponent) (memory_argument c.in_ok-memarg.memarg) (val_type c.in_ok-address.address) c.in_ok-address.ensures) in
    store_step cx c.args.stacks.now c.lower.new.self c.args.code c.in_ok-ty.exponent (number c.in_ok-ty.ty) (memory_argument c.in_ok-memarg.memarg) address c.args.rest.now c.in_ok-memarg.rest.now
    c.requires.inside on c.in_ok-memarg.ensures c.in_ok-address.ensures c.in_ok-ty.ensures.coded
    (two_taken cx.items c.args.stacks.now c.lower.new.self address (value_type (number c.in_ok-ty.ty)) itself (c.requires.fit (number c.in_ok-ty.ty)) (rw c.val_type.ensures at (c.if-are_known.ensures.exact.0 refl)) c.lower.ensures)
