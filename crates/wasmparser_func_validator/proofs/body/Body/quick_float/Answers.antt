use Rattle.std.proofs.Common.{◌≡◌, true, refl, sym}
use Rattle.wasm_bodies.specs.Operators.{F32Const, F64Const}
use Rattle.wasm_spec.specs.Features.{Floats, has}
use Rattle.wasm_spec.specs.Types.{F32, F64}
use Rattle.wasmparser_func_validator.specs.Steps.{body_context}
use Rattle.wasmparser_func_validator.proofs.PlainCodes.{f32_coded, f64_coded}
use Rattle.wasmparser_func_validator.proofs.PlainLaws.{float_step}
use Rattle.wasmparser_func_validator.proofs.body.Body.quick_float.Goals as goal

pub returns-then-push_within_capacity : goal.returns-then-push_within_capacity
returns-then-push_within_capacity g c =
    let cx = body_context g.R.WasmModuleResources.resources c.args.self.now in
    let on : has cx.features Floats ≡ true = sym {b = has cx.features Floats} c.if-not-floats.ensures in
    rw c.in-67.is (float_step cx c.args.stacks.now c.push_within_capacity.new.self 0x43 4 (λ v. F32Const v) F32 c.args.rest.now c.in_ok-after-in-67.after.now f32_coded (λ v. (refl, rw on refl, refl)) c.requires.inside c.in_ok-after-in-67.ensures c.if-push_within_capacity.ensures.ok)

pub returns-then-push_within_capacity-2 : goal.returns-then-push_within_capacity-2
returns-then-push_within_capacity-2 g c =
    let cx = body_context g.R.WasmModuleResources.resources c.args.self.now in
    let on : has cx.features Floats ≡ true = sym {b = has cx.features Floats} c.if-not-floats.ensures in
    rw c.in-68.is (float_step cx c.args.stacks.now c.push_within_capacity-in-68.new.self 0x44 8 (λ v. F64Const v) F64 c.args.rest.now c.in_ok-after-in-68.after.now f64_coded (λ v. (refl, rw on refl, refl)) c.requires.inside c.in_ok-after-in-68.ensures c.if-push_within_capacity-2.ensures.ok)
