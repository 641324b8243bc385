use Rattle.std.proofs.Common.{◌≡◌, true, refl, sym, subst}
use Rattle.wasm_bodies.specs.OperatorGates.{is_on}
use Rattle.wasm_bodies_laws.specs.Machine.{stepped}
use Rattle.wasmparser_operators.specs.OperatorValues.{block_type, operator}
use Rattle.wasmparser_func_validator.specs.Steps.{Steps, body_context}
use Rattle.wasmparser_func_validator.proofs.Stepping.{in_block, in_if, in_loop, in_plain, is_plain, not_allowed}
use Rattle.wasmparser_func_validator.proofs.body.Body.step.Goals as goal

pub returns-then-not-is_on : goal.returns-then-not-is_on
returns-then-not-is_on g c =
    (not_allowed (body_context g.R.WasmModuleResources.resources c.args.self.now) c.args.stacks.now (operator c.args.op.now) c.if-not-is_on.ensures, refl)

pub returns-in-Block : goal.returns-in-Block
returns-in-Block g c =
    let cx = body_context g.R.WasmModuleResources.resources c.args.self.now in
    let allowed = subst (λ op. true ≡ is_on cx.features (operator op)) c.in-Block.is c.if-not-is_on.ensures in
    subst (λ op. Steps (stepped cx c.args.stacks.now (operator op)) c.args.stacks.now c.open.new.stacks c.open.result) (sym c.in-Block.is)
    (in_block cx c.args.stacks.now c.open.new.stacks (block_type c.in-Block.blockty) c.open.result (λ e. cc (c.if-is_closed.ensures.1 e)) allowed c.open.ensures)

pub returns-in-Loop : goal.returns-in-Loop
returns-in-Loop g c =
    let cx = body_context g.R.WasmModuleResources.resources c.args.self.now in
    let allowed = subst (λ op. true ≡ is_on cx.features (operator op)) c.in-Loop.is c.if-not-is_on.ensures in
    subst (λ op. Steps (stepped cx c.args.stacks.now (operator op)) c.args.stacks.now c.open-in-Loop.new.stacks c.open-in-Loop.result) (sym c.in-Loop.is)
    (in_loop cx c.args.stacks.now c.open-in-Loop.new.stacks (block_type c.in-Loop.blockty) c.open-in-Loop.result (λ e. cc (c.if-is_closed.ensures.1 e)) allowed c.open-in-Loop.ensures)

pub returns-in-If : goal.returns-in-If
returns-in-If g c =
    let cx = body_context g.R.WasmModuleResources.resources c.args.self.now in
    let allowed = subst (λ op. true ≡ is_on cx.features (operator op)) c.in-If.is c.if-not-is_on.ensures in
    subst (λ op. Steps (stepped cx c.args.stacks.now (operator op)) c.args.stacks.now c.open_if.new.stacks c.open_if.result) (sym c.in-If.is)
    (in_if cx c.args.stacks.now c.open_if.new.stacks (block_type c.in-If.blockty) c.open_if.result (λ e. cc (c.if-is_closed.ensures.1 e)) allowed c.open_if.ensures)

pub returns-in_default : goal.returns-in_default
returns-in_default g c =
    let d = c.in_default in
    in_plain (body_context g.R.WasmModuleResources.resources c.args.self.now) c.args.stacks.now c.operate.new.stacks (operator c.args.op.now) c.operate.result (λ e. cc (c.if-is_closed.ensures.1 e))
    (is_plain c.args.op.now d.not-Block d.not-Loop d.not-If d.not-Else d.not-End) c.if-not-is_on.ensures c.operate.ensures
