use Rattle.std.proofs.Common.{◌≡◌, [], Some, ap, map, sym, ◌∙◌}
use Rattle.std.specs.Prelude.{slice_get}
use Rattle.wasm_bodies.specs.OperatorRows.{Int32}
use Rattle.wasm_bodies_laws.specs.Machine.{labels_of}
use Rattle.wasmparser_types.specs.ValTypes.{val_type}
use Rattle.wasmparser_func_validator.specs.Steps.{body_context}
use Rattle.wasmparser_func_validator.proofs.PlainLaws.{jump_tried, none_left}
use Rattle.wasmparser_func_validator.proofs.body.Body.jump_if.Goals as goal

pub returns : goal.returns
returns g c =
    let cx = body_context g.R.WasmModuleResources.resources c.args.self.now in
    let nothing : c.label.result.now ≡ [] = none_left c.label.result.now c.if-not-is_empty.ensures in
    let at : slice_get (labels_of cx.items c.args.stacks.now.frames) c.args.label ≡ Some [] = sym c.in-Some.ensures ∙ ap (λ types. Some types) (sym c.label.ensures ∙ ap (map val_type) nothing) in
    jump_tried cx c.args.stacks.now c.pop_known.new.self c.args.label c.pop_known.result (c.requires.fit Int32) at c.pop_known.ensures.taken c.pop_known.ensures.frames c.pop_known.ensures.unchanged
