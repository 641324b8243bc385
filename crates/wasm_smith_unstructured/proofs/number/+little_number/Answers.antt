use Rattle.std.proofs.Common.{◌≡◌, ◌+◌, ◌-◌, ◌*◌, ◌^◌, ◌<◌, ◌≤◌, length, take, drop, sym, arith}
use Rattle.std.proofs.lemmas.List.{length-drop, length-take}
use Rattle.wasm_smith_unstructured.proofs.NumberLaws.{little_none, little_more, little_room, power_most}
use Rattle.wasm_smith_unstructured.proofs.number.+little_number.Goals as goal

total : (t : _) (c : goal.After-little_number t) → c.from.result + 256 * c.little_number.result < 256 ^ length c.args.bytes.now
total t c =
    let n = length c.args.bytes.now in
    let len : length (take (n - 1) (drop 1 c.args.bytes.now)) ≡ n - 1 = omega (arith, length-take (n - 1) (drop 1 c.args.bytes.now), length-drop 1 c.args.bytes.now) in
    let below : c.little_number.result < 256 ^ (n - 1) = rw len at c.little_number.ensures.below in
    let byte : c.from.result < 256 = omega (arith, c.from.ensures, c.type_inv.bytes 0) in
    let up : n - 1 + 1 ≡ n = omega arith in
    let all : c.from.result + 256 * c.little_number.result < 256 ^ (n - 1 + 1) = little_room _ _ _ byte below in
    rw up at all

pub overflow_mul-result : goal.overflow_mul-result
overflow_mul-result t c =
    let few : length c.args.bytes.now ≤ 8 = c.requires in
    omega (arith, total t c, power_most _ few)

pub overflow_add-result : goal.overflow_add-result
overflow_add-result t c =
    let few : length c.args.bytes.now ≤ 8 = c.requires in
    omega (arith, total t c, power_most _ few)

pub returns-in-empty-clause-exact : goal.returns-in-empty-clause-exact
returns-in-empty-clause-exact t c = sym (little_none _ (omega arith))

pub returns-in-len1-up : goal.returns-in-len1-up
returns-in-len1-up t c = record {
  exact = little_more c.args.bytes.now _ _ (omega arith) c.from.ensures c.little_number.ensures.exact;
  below = total t c;
}
