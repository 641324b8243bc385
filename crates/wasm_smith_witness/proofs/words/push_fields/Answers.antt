use Rattle.std.proofs.Common.{◌<◌, ◌≤◌, length, refl, arith}
use Rattle.wasm_core_types.specs.CoreTypes.{field_type}
use Rattle.wasm_smith_witness.proofs.WordLaws.{each_step, list_end}
use Rattle.wasm_smith_witness.proofs.words.push_fields.Goals as goal

pub loop-field-preserved : goal.loop-field-preserved
loop-field-preserved c =
    let lt : c.loop-field.field-index < length c.args.fields.now = omega arith in
    each_step _ _ _ _ _ _ _ _ lt c.in_ok-push.ensures.items c.in_ok-push_field.ensures c.loop-field.invariant

pub returns : goal.returns
returns c =
    let all : length c.args.fields.now ≤ c.loop-field.field-index = omega arith in
    list_end _ field_type _ _ _ _ _ _ _ all refl c.in_ok-push_no.ensures c.loop-field.invariant
