use Rattle.std.proofs.Common.{refl}
use Rattle.wasm_bodies.specs.OperatorRows.{Int32}
use Rattle.wasmparser_func_validator.specs.Steps.{body_context}
use Rattle.wasmparser_func_validator.proofs.PlainLaws.{jump_tried}
use Rattle.wasmparser_func_validator.proofs.body.Body.jump_quickly_if.Goals as goal

pub returns-then-is_empty_label : goal.returns-then-is_empty_label
returns-then-is_empty_label g c =
    let cx = body_context g.R.WasmModuleResources.resources c.args.self.now in
    jump_tried cx c.args.stacks.now c.pop_known.new.self c.args.label c.pop_known.result (c.requires.fit Int32) (c.if-is_empty_label.ensures refl) c.pop_known.ensures.taken c.pop_known.ensures.frames c.pop_known.ensures.unchanged
