use Rattle.std.proofs.Common.{length, ap, arith}
use Rattle.std.proofs.lemmas.Result.{err_from_is_err_and}
use Rattle.wasm_smith_types.specs.Grouped.{groups}
use Rattle.wasm_smith_types.specs.Making.{made}
use Rattle.wasm_smith_types.proofs.GivenLaws.{then_count}
use Rattle.wasm_smith_types.proofs.GivenSteps.{all_count, at_most, both_added, drawn_past, few_given, given_beside, given_past, in_range, with_given_valid}
use Rattle.wasm_smith_types.proofs.GroupedLaws.{types_of_grouped}
use Rattle.wasm_smith_validity.specs.ValidGroups.{types_of}
use Rattle.wasm_smith_types.proofs.types.make_beside.Goals as goal

pub returns-then-given-most-clause-too_many : goal.returns-then-given-most-clause-too_many
returns-then-given-most-clause-too_many c = λ _.
    let config = c.args.config.now in
    given_past config c.requires.none c.args.unstructured.now c.args.most
    (omega (arith, given_beside config c.requires.none, c.type_count.ensures, c.type_count-2.ensures, c.if-given-most.true))

pub returns-in_err-made-clause-too_many : goal.returns-in_err-made-clause-too_many
returns-in_err-made-clause-too_many c =
    let p = err_from_is_err_and c.from_residual.result c.from_residual.ensures.1 in
    let config = c.args.config.now in
    rw (p.1, p.2) (λ is. drawn_past config c.requires.none c.args.unstructured.now c.args.most _
    (omega (arith, given_beside config c.requires.none, c.type_count.ensures, c.type_count-2.ensures, c.if-given-most.false))
    (c.in_err-made.ensures.too_many is) (c.in_err-made.ensures.too_many_drawn is))

pub push_shape-requires-clause-in_range : goal.push_shape-requires-clause-in_range
push_shape-requires-clause-in_range c = in_range c.args.config.now c.args.config.now.available_imports c.requires.given.available_imports

pub push_shape-requires-2-clause-room : goal.push_shape-requires-2-clause-room
push_shape-requires-2-clause-room c =
    let config = c.args.config.now in
    let first = c.in_ok-made.made in
    let mid = c.push_shape.new.self in
    omega
    (arith, few_given config config.available_imports c.requires.given.available_imports, few_given config config.exports c.requires.given.exports, c.requires.few, c.in_ok-made.ensures.most, then_count (groups first) config.available_imports, ap length (types_of_grouped first.sizes.items (made first) c.in_ok-made.ensures.whole), ap length (types_of_grouped mid.sizes.items (made mid) c.in_ok-push_shape.ensures.whole), ap (λ gs. length (types_of gs)) c.in_ok-push_shape.ensures.added)

pub push_shape-requires-2-clause-in_range : goal.push_shape-requires-2-clause-in_range
push_shape-requires-2-clause-in_range c = in_range c.args.config.now c.args.config.now.exports c.requires.given.exports

pub returns-clause-valid : goal.returns-clause-valid
returns-clause-valid c = λ features are.
    let config = c.args.config.now in
    let is = both_added config (groups c.in_ok-made.made) _ _ c.in_ok-push_shape.ensures.added c.in_ok-push_shape-2.ensures.added in
    rw is (with_given_valid config features (groups c.in_ok-made.made) c.requires.given are (c.in_ok-made.ensures.valid features are))

pub returns-clause-made : goal.returns-clause-made
returns-clause-made c =
    let config = c.args.config.now in
    let first = c.in_ok-made.made in
    let types = types_of_grouped first.sizes.items (made first) c.in_ok-made.ensures.whole in
    record {
      drawn = groups first;
      are = both_added config (groups first) _ _ c.in_ok-push_shape.ensures.added c.in_ok-push_shape-2.ensures.added;
      few = rw types c.in_ok-made.ensures.most;
      small = rw types c.in_ok-made.ensures.small;
      some = c.in_ok-made.ensures.some;
      exact = c.in_ok-made.ensures.drawn;
    }

pub returns-clause-most : goal.returns-clause-most
returns-clause-most c =
    let config = c.args.config.now in
    let first = c.in_ok-made.made in
    let types = types_of_grouped first.sizes.items (made first) c.in_ok-made.ensures.whole in
    let is = both_added config (groups first) _ _ c.in_ok-push_shape.ensures.added c.in_ok-push_shape-2.ensures.added in
    at_most config c.requires.none (groups first) _ is (rw types c.in_ok-made.ensures.most)

pub returns-clause-within : goal.returns-clause-within
returns-clause-within c =
    let config = c.args.config.now in
    let first = c.in_ok-made.made in
    let types = types_of_grouped first.sizes.items (made first) c.in_ok-made.ensures.whole in
    let is = both_added config (groups first) _ _ c.in_ok-push_shape.ensures.added c.in_ok-push_shape-2.ensures.added in
    omega
    (arith, all_count config c.requires.none (groups first) _ is, ap length types, c.in_ok-made.ensures.within, given_beside config c.requires.none, c.type_count.ensures, c.type_count-2.ensures, c.if-given-most.false)

pub returns-clause-least : goal.returns-clause-least
returns-clause-least c = λ le.
    let config = c.args.config.now in
    let first = c.in_ok-made.made in
    let types = types_of_grouped first.sizes.items (made first) c.in_ok-made.ensures.whole in
    let is = both_added config (groups first) _ _ c.in_ok-push_shape.ensures.added c.in_ok-push_shape-2.ensures.added in
    omega (arith, all_count config c.requires.none (groups first) _ is, ap length types, c.in_ok-made.ensures.least le)
