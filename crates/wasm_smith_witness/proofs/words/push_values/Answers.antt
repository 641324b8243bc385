use Rattle.std.proofs.Common.{◌<◌, ◌≤◌, length, refl, arith}
use Rattle.wasm_core_types.specs.CoreTypes.{val_type}
use Rattle.wasm_smith_witness.proofs.WordLaws.{each_step, list_end}
use Rattle.wasm_smith_witness.proofs.words.push_values.Goals as goal

pub loop-type_-preserved : goal.loop-type_-preserved
loop-type_-preserved c =
    let lt : c.loop-type_.type_-index < length c.args.types.now = omega arith in
    each_step _ _ _ _ _ _ _ _ lt c.in_ok-push.ensures.items c.in_ok-push_value.ensures c.loop-type_.invariant

pub returns : goal.returns
returns c =
    let all : length c.args.types.now ≤ c.loop-type_.type_-index = omega arith in
    list_end _ val_type _ _ _ _ _ _ _ all refl c.in_ok-push_no.ensures c.loop-type_.invariant
