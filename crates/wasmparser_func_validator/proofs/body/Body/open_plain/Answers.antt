use Rattle.std.proofs.Common.{◌≡◌, true, ap, refl, sym}
use Rattle.std.specs.List.{list_all}
use Rattle.wasm_bodies.specs.OperatorGates.{block_gate}
use Rattle.wasm_bodies.specs.Operators.{Block, Loop, If}
use Rattle.wasm_spec.specs.Features.{has}
use Rattle.wasmparser_operators.specs.OperatorValues.{block_type}
use Rattle.wasmparser_func_validator.specs.Steps.{body_context}
use Rattle.wasmparser_func_validator.proofs.PlainCodes.{block_coded, if_coded, loop_coded}
use Rattle.wasmparser_func_validator.proofs.PlainLaws.{block_tried}
use Rattle.wasmparser_func_validator.proofs.Stepping.{in_block, in_if, in_loop}
use Rattle.wasmparser_func_validator.proofs.body.Body.open_plain.Goals as goal

pub returns-in-2 : goal.returns-in-2
returns-in-2 g c =
    let cx = body_context g.R.WasmModuleResources.resources c.args.self.now in
    let type = block_type c.args.ty.now in
    let on : true ≡ list_all (has cx.features) (block_gate (block_type c.args.ty.now)) = sym (ap (list_all (has cx.features)) c.requires.plain) in
    rw c.in-2.is (block_tried cx c.args.stacks.now c.open.new.stacks 2 type (λ t. Block t) c.open.result c.is_ok.result block_coded refl (λ e. absurd cc) (λ e. absurd cc) c.is_ok.ensures.value (in_block cx c.args.stacks.now c.open.new.stacks type c.open.result c.requires.inside on c.open.ensures))

pub returns-in-3 : goal.returns-in-3
returns-in-3 g c =
    let cx = body_context g.R.WasmModuleResources.resources c.args.self.now in
    let type = block_type c.args.ty.now in
    let on : true ≡ list_all (has cx.features) (block_gate (block_type c.args.ty.now)) = sym (ap (list_all (has cx.features)) c.requires.plain) in
    rw c.in-3.is (block_tried cx c.args.stacks.now c.open-in-3.new.stacks 3 type (λ t. Loop t) c.open-in-3.result c.is_ok-in-3.result loop_coded refl (λ e. absurd cc) (λ e. absurd cc) c.is_ok-in-3.ensures.value (in_loop cx c.args.stacks.now c.open-in-3.new.stacks type c.open-in-3.result c.requires.inside on c.open-in-3.ensures))

pub returns-in-4 : goal.returns-in-4
returns-in-4 g c =
    let cx = body_context g.R.WasmModuleResources.resources c.args.self.now in
    let type = block_type c.args.ty.now in
    let on : true ≡ list_all (has cx.features) (block_gate (block_type c.args.ty.now)) = sym (ap (list_all (has cx.features)) c.requires.plain) in
    rw c.in-4.is (block_tried cx c.args.stacks.now c.open_if.new.stacks 4 type (λ t. If t) c.open_if.result c.is_ok-in-4.result if_coded refl (λ e. absurd cc) (λ e. absurd cc) c.is_ok-in-4.ensures.value (in_if cx c.args.stacks.now c.open_if.new.stacks type c.open_if.result c.requires.inside on c.open_if.ensures))
