use Rattle.std.proofs.Common.{◌≡◌, ◌+◌, ◌^◌, ◌++◌, ◌<◌, ◌≤◌, ◌∙◌, length, string_bytes, true, sym, arith}
use Rattle.std.specs.BTreeMap.{btree_map_len}
use Rattle.std.specs.Fmt.{decimal}
use Rattle.wasm_smith_unstructured.specs.Names.{is_name, names_in}
use Rattle.wasm_smith_unstructured.specs.Texts.{AreTaken}
use Rattle.wasm_smith_unstructured.proofs.NameLaws.{few_tried_in, is_name_by, one_tried, count_is}
use Rattle.wasm_smith_unstructured.proofs.names.new_number.Goals as goal

pub returns-then-not-contains_key-clause-new : goal.returns-then-not-contains_key-clause-new
returns-then-not-contains_key-clause-new c = is_name_by c.args.numbers.now (string_bytes c.in_ok-name.name) ∙ sym (rw c.as_str.ensures.value at c.contains_key.ensures) ∙ c.if-not-contains_key.true

pub returns-then-not-contains_key-clause-few : goal.returns-then-not-contains_key-clause-few
returns-then-not-contains_key-clause-few c =
    let small : btree_map_len c.args.numbers.now < 2 ^ 63 = omega (arith, c.len.ensures.small, c.len.ensures.len) in
    omega (arith, few_tried_in c.args.numbers.now c.args.text.now c.number.number small c.number.invariant.taken, count_is c.args.numbers.now, small)

tried : (c : goal.After-drop-name) → AreTaken (is_name (names_in c.args.numbers.now)) (length (names_in c.args.numbers.now)) c.args.text.now (c.number.number + 1)
tried c =
    let there : is_name (names_in c.args.numbers.now) (c.args.text.now ++ decimal c.number.number) ≡ true =
    is_name_by c.args.numbers.now (c.args.text.now ++ decimal c.number.number) ∙ sym (rw (c.as_str.ensures.value, c.in_ok-name.ensures) at c.contains_key.ensures) ∙ c.if-not-contains_key.false in
    one_tried (is_name (names_in c.args.numbers.now)) (length (names_in c.args.numbers.now)) c.args.text.now c.number.number c.number.invariant.taken there

few : (c : goal.After-drop-name) → c.number.number + 1 ≤ length (names_in c.args.numbers.now) + length (names_in c.args.numbers.now)
few c =
    let small : btree_map_len c.args.numbers.now < 2 ^ 63 = omega (arith, c.len.ensures.small, c.len.ensures.len) in
    few_tried_in c.args.numbers.now c.args.text.now (c.number.number + 1) small (tried c)

pub overflow_add-number : goal.overflow_add-number
overflow_add-number c =
    let small : btree_map_len c.args.numbers.now < 2 ^ 63 = omega (arith, c.len.ensures.small, c.len.ensures.len) in
    omega (arith, few_tried_in c.args.numbers.now c.args.text.now c.number.number small c.number.invariant.taken, count_is c.args.numbers.now, small)

pub number-smaller : goal.number-smaller
number-smaller c = omega (arith, few c)

pub number-preserved : goal.number-preserved
number-preserved c = record {
  from = omega (arith, c.number.invariant.from);
  taken = tried c;
}
