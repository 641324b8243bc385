use Rattle.std.proofs.Common.{◌<◌, length, true, refl, arith}
use Rattle.wasm_bodies.specs.Operators.{Nop, Else, End, Return, Select}
use Rattle.wasmparser_operators.specs.OperatorReading.{Bare, shape_of}
use Rattle.wasmparser_func_validator.specs.Plain.{IsCoded}
use Rattle.wasmparser_func_validator.specs.Steps.{body_context}
use Rattle.wasmparser_func_validator.proofs.PlainCodes.{end_coded}
use Rattle.wasmparser_func_validator.proofs.PlainLaws.{bare_tried, ended_inside, stepped_tried, tried, else_inside}
use Rattle.wasmparser_func_validator.proofs.body.Body.bare.Goals as goal

nop_coded : IsCoded 1 (Bare Nop)
unfolding shape_of
nop_coded = (refl, refl)

else_coded : IsCoded 5 (Bare Else)
unfolding shape_of
else_coded = (refl, refl)

return_coded : IsCoded 15 (Bare Return)
unfolding shape_of
return_coded = (refl, refl)

select_coded : IsCoded 27 (Bare Select)
unfolding shape_of
select_coded = (refl, refl)

pub returns-in-1 : goal.returns-in-1
returns-in-1 g c =
    let cx = body_context g.R.WasmModuleResources.resources c.args.self.now in
    rw c.in-1.is (bare_tried cx c.args.stacks.now c.args.stacks.now 1 Nop true nop_coded refl refl c.requires.inside (refl, refl))

pub returns-in-5 : goal.returns-in-5
returns-in-5 g c =
    let cx = body_context g.R.WasmModuleResources.resources c.args.self.now in
    rw c.in-5.is (stepped_tried cx c.args.stacks.now c.else_.new.stacks 5 Else c.else_.result c.is_ok.result else_coded (else_inside cx c.args.stacks.now c.else_.new.stacks) c.is_ok.ensures.value c.else_.ensures)

pub returns-then-frame_count-gt1 : goal.returns-then-frame_count-gt1
returns-then-frame_count-gt1 g c =
    let cx = body_context g.R.WasmModuleResources.resources c.args.self.now in
    let more : 1 < length c.args.stacks.now.frames = omega (arith, c.if-frame_count-gt1.true, c.frame_count.ensures) in
    rw c.in-11.is (stepped_tried cx c.args.stacks.now c.close.new.stacks 11 End c.close.result c.is_ok-then-frame_count-gt1.result end_coded (ended_inside cx c.args.stacks.now c.close.new.stacks more) c.is_ok-then-frame_count-gt1.ensures.value c.close.ensures)

pub returns-in-15 : goal.returns-in-15
returns-in-15 g c =
    let cx = body_context g.R.WasmModuleResources.resources c.args.self.now in
    rw c.in-15.is (bare_tried cx c.args.stacks.now c.return_.new.stacks 15 Return c.is_ok-in-15.result return_coded refl refl c.requires.inside (tried _ _ _ c.return_.result c.is_ok-in-15.result c.is_ok-in-15.ensures.value c.return_.ensures))

pub returns-in-27 : goal.returns-in-27
returns-in-27 g c =
    let cx = body_context g.R.WasmModuleResources.resources c.args.self.now in
    rw c.in-27.is (bare_tried cx c.args.stacks.now c.select.new.stacks 27 Select c.is_ok-in-27.result select_coded refl refl c.requires.inside (tried _ _ _ c.select.result c.is_ok-in-27.result c.is_ok-in-27.ensures.value c.select.ensures))
