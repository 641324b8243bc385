use Rattle.std.proofs.Common.{◌≡◌, ◌∷◌, [], true, sym, subst}
use Rattle.std.specs.List.{list_all}
use Rattle.wasm_bodies.specs.Operands.{applied}
use Rattle.wasm_bodies.specs.OperatorGates.{float_gate}
use Rattle.wasm_bodies.specs.OperatorRows.{Int32, access}
use Rattle.wasm_bodies.specs.Signatures.{from_to}
use Rattle.wasm_spec.specs.Features.{has}
use Rattle.wasmparser_operators.specs.OperatorValues.{memory_argument}
use Rattle.wasmparser_types.specs.ValTypes.{val_type}
use Rattle.wasmparser_func_validator.specs.NumericForms.{number}
use Rattle.wasmparser_func_validator.specs.Plain.{TriesEffect}
use Rattle.wasmparser_func_validator.specs.Steps.{body_context, items_in}
use Rattle.wasmparser_func_validator.proofs.PlainLaws.{accessed_number, is_itself, load_step}
use Rattle.wasmparser_func_validator.proofs.body.Body.quick_load.Goals as goal

pub exchange-requires-clause-fit : goal.exchange-requires-clause-fit
exchange-requires-clause-fit g c =
    let items = items_in g.R.WasmModuleResources.resources c.args.self.now in
    (is_itself items (val_type c.in_ok-address.address) c.requires.fit (accessed_number items (access 0 Int32 c.in_ok-ty.exponent) (memory_argument c.in_ok-memarg.memarg) (val_type c.in_ok-address.address) c.in_ok-address.ensures), tt)

pub returns-then-exchange : goal.returns-then-exchange
returns-then-exchange g c =
    let cx = body_context g.R.WasmModuleResources.resources c.args.self.now in
    let on : list_all (has cx.features) (float_gate (number c.in_ok-ty.ty ∷ [])) ≡ true = sym {b = list_all (has cx.features) (float_gate (number c.in_ok-ty.ty ∷ []))} c.if-not-is_number_on.ensures in
    load_step cx c.args.stacks.now c.exchange.new.stacks c.args.code c.in_ok-ty.exponent (number c.in_ok-ty.ty) (memory_argument c.in_ok-memarg.memarg) (val_type c.in_ok-address.address) c.args.rest.now c.in_ok-memarg.rest.now
    c.requires.inside on c.in_ok-memarg.ensures c.in_ok-address.ensures c.in_ok-ty.ensures.coded
    (subst (λ t. TriesEffect (applied cx.items (from_to (val_type c.in_ok-address.address ∷ []) (t ∷ [])) c.args.stacks.now.now) c.args.stacks.now c.exchange.new.stacks true) c.val_type.ensures c.if-exchange.ensures)
