use Rattle.std.proofs.Common.{refl}
use Rattle.wasm_bodies.specs.Operators.{Br, BrIf, Call, LocalGet, LocalSet, LocalTee, GlobalGet, GlobalSet}
use Rattle.wasmparser_func_validator.specs.Steps.{body_context}
use Rattle.wasmparser_func_validator.proofs.PlainCodes.{br_coded, br_if_coded, call_coded, local_get_coded, set_local_coded, tee_local_coded, global_get_coded, global_set_coded}
use Rattle.wasmparser_func_validator.proofs.PlainLaws.{number_tried, tried}
use Rattle.wasmparser_func_validator.proofs.body.Body.with_number.Goals as goal

pub returns-in-12 : goal.returns-in-12
returns-in-12 g c =
    let cx = body_context g.R.WasmModuleResources.resources c.args.self.now in
    rw c.in-12.is (number_tried cx c.args.stacks.now c.br.new.stacks 12 c.args.number (λ n. Br n) c.is_ok.result br_coded refl refl c.requires.inside (tried _ _ _ c.br.result c.is_ok.result c.is_ok.ensures.value c.br.ensures))

pub returns-in-13 : goal.returns-in-13
returns-in-13 g c =
    let cx = body_context g.R.WasmModuleResources.resources c.args.self.now in
    rw c.in-13.is (number_tried cx c.args.stacks.now c.jump_if.new.stacks 13 c.args.number (λ n. BrIf n) c.jump_if.result br_if_coded refl refl c.requires.inside c.jump_if.ensures)

pub returns-in-16 : goal.returns-in-16
returns-in-16 g c =
    let cx = body_context g.R.WasmModuleResources.resources c.args.self.now in
    rw c.in-16.is (number_tried cx c.args.stacks.now c.call.new.stacks 16 c.args.number (λ n. Call n) c.is_ok-in-16.result call_coded refl refl c.requires.inside (tried _ _ _ c.call.result c.is_ok-in-16.result c.is_ok-in-16.ensures.value c.call.ensures))

pub returns-in-32 : goal.returns-in-32
returns-in-32 g c =
    let cx = body_context g.R.WasmModuleResources.resources c.args.self.now in
    rw c.in-32.is (number_tried cx c.args.stacks.now c.local_get.new.stacks 32 c.args.number (λ n. LocalGet n) c.is_ok-in-32.result local_get_coded refl refl c.requires.inside (tried _ _ _ c.local_get.result c.is_ok-in-32.result c.is_ok-in-32.ensures.value c.local_get.ensures))

pub returns-in-33 : goal.returns-in-33
returns-in-33 g c =
    let cx = body_context g.R.WasmModuleResources.resources c.args.self.now in
    rw c.in-33.is (number_tried cx c.args.stacks.now c.set_local.new.stacks 33 c.args.number (λ n. LocalSet n) c.set_local.result set_local_coded refl refl c.requires.inside c.set_local.ensures)

pub returns-in-34 : goal.returns-in-34
returns-in-34 g c =
    let cx = body_context g.R.WasmModuleResources.resources c.args.self.now in
    rw c.in-34.is (number_tried cx c.args.stacks.now c.tee_local.new.stacks 34 c.args.number (λ n. LocalTee n) c.tee_local.result tee_local_coded refl refl c.requires.inside c.tee_local.ensures)

pub returns-in-35 : goal.returns-in-35
returns-in-35 g c =
    let cx = body_context g.R.WasmModuleResources.resources c.args.self.now in
    rw c.in-35.is (number_tried cx c.args.stacks.now c.global_get.new.stacks 35 c.args.number (λ n. GlobalGet n) c.is_ok-in-35.result global_get_coded refl refl c.requires.inside (tried _ _ _ c.global_get.result c.is_ok-in-35.result c.is_ok-in-35.ensures.value c.global_get.ensures))

pub returns-in-36 : goal.returns-in-36
returns-in-36 g c =
    let cx = body_context g.R.WasmModuleResources.resources c.args.self.now in
    rw c.in-36.is (number_tried cx c.args.stacks.now c.set_global.new.stacks 36 c.args.number (λ n. GlobalSet n) c.set_global.result global_set_coded refl refl c.requires.inside c.set_global.ensures)
