use Rattle.std.proofs.Common.{refl}
use Rattle.wasm_bodies.specs.Operators.{I32Const, I64Const}
use Rattle.wasm_spec.specs.Types.{I32, I64}
use Rattle.wasmparser_func_validator.specs.Steps.{body_context}
use Rattle.wasmparser_func_validator.proofs.PlainLaws.{constant_step, int32_coded, int64_coded}
use Rattle.wasmparser_func_validator.proofs.body.Body.quick_constant.Goals as goal

pub returns-then-push_within_capacity : goal.returns-then-push_within_capacity
returns-then-push_within_capacity g c =
    let cx = body_context g.R.WasmModuleResources.resources c.args.self.now in
    rw c.in-65.is (constant_step cx c.args.stacks.now c.push_within_capacity.new.self 0x41 32 (λ v. I32Const v) I32 c.args.rest.now c.in_ok-after-in-65.after.now int32_coded (λ v. (refl, refl, refl)) c.requires.inside c.in_ok-after-in-65.ensures c.if-push_within_capacity.ensures.ok)

pub returns-then-push_within_capacity-2 : goal.returns-then-push_within_capacity-2
returns-then-push_within_capacity-2 g c =
    let cx = body_context g.R.WasmModuleResources.resources c.args.self.now in
    rw c.in-66.is (constant_step cx c.args.stacks.now c.push_within_capacity-in-66.new.self 0x42 64 (λ v. I64Const v) I64 c.args.rest.now c.in_ok-after-in-66.after.now int64_coded (λ v. (refl, refl, refl)) c.requires.inside c.in_ok-after-in-66.ensures c.if-push_within_capacity-2.ensures.ok)
