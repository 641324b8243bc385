use Rattle.std.proofs.Common.{◌<◌, length, refl, arith}
use Rattle.wasm_smith_types.specs.Grouped.{front_of}
use Rattle.wasm_smith_types.proofs.FittingLaws.{choice}
use Rattle.wasm_smith_types.proofs.GroupDraws.{asked_is, group_is_clone, group_is_new}
use Rattle.wasm_smith_types.proofs.MakingLaws.{some_asked}
use Rattle.wasm_smith_types.proofs.OfferLaws.{is_chosen}
use Rattle.wasm_smith_types.proofs.PastLaws.{members_past}
use Rattle.wasm_smith_types.proofs.types.Types.push_any.Goals as goal

pub unwrap-span-requires : goal.unwrap-span-requires
unwrap-span-requires c =
    let some : 0 < length c.args.choices.now = some_asked _ _ _ _ _ c.is_empty-asked.ensures refl c.if-bool_if.ensures.exact in
    is_chosen _ c.args.choices.now _ _ c.choose.result c.choose.ensures.exact some

pub push_clone-requires-clause-few : goal.push_clone-requires-clause-few
push_clone-requires-clause-few c =
    let h =
    choice c.args.self.now.sizes.items c.args.left c.args.choices.now _ _ c.unwrap-span.result.now c.requires.choices
    (rw c.unwrap-span.ensures at c.choose.ensures.exact) in
    omega (arith, h.2, c.requires.few)

pub push_clone-requires-clause-span : goal.push_clone-requires-clause-span
push_clone-requires-clause-span c =
    (choice c.args.self.now.sizes.items c.args.left c.args.choices.now _ _ c.unwrap-span.result.now c.requires.choices (rw c.unwrap-span.ensures at c.choose.ensures.exact)).0

pub returns-then-bool_if-clause-more : goal.returns-then-bool_if-clause-more
returns-then-bool_if-clause-more c =
    let h =
    choice c.args.self.now.sizes.items c.args.left c.args.choices.now _ _ c.unwrap-span.result.now c.requires.choices
    (rw c.unwrap-span.ensures at c.choose.ensures.exact) in
    omega (arith, h.1, c.in_ok-push_clone.ensures.count)

pub returns-then-bool_if-clause-few : goal.returns-then-bool_if-clause-few
returns-then-bool_if-clause-few c =
    let h =
    choice c.args.self.now.sizes.items c.args.left c.args.choices.now _ _ c.unwrap-span.result.now c.requires.choices
    (rw c.unwrap-span.ensures at c.choose.ensures.exact) in
    omega (arith, h.2, c.in_ok-push_clone.ensures.count)

pub returns-then-bool_if-clause-drawn : goal.returns-then-bool_if-clause-drawn
returns-then-bool_if-clause-drawn c =
    let asked =
    asked_is c.is_empty-asked.result _
    (length c.args.choices.now) c.args.left c.args.self.now.sizes.items c.is_empty-asked.ensures refl c.requires.choices.asks in
    rw (group_is_clone c.args.offers.now c.args.left (front_of c.args.self.now) c.args.unstructured.now _ (rw asked at c.if-bool_if.ensures.exact)) tt

pub returns-clause-drawn : goal.returns-clause-drawn
returns-clause-drawn c =
    let asked =
    asked_is c.is_empty-asked.result _
    (length c.args.choices.now) c.args.left c.args.self.now.sizes.items c.is_empty-asked.ensures refl c.requires.choices.asks in
    rw
    (group_is_new c.args.offers.now c.args.left (front_of c.args.self.now) c.args.unstructured.now _ _ c.int_in_range-size.result (rw asked at c.if-bool_if.ensures.exact) (rw (c.new.ensures.start, c.new.ensures.end, c.from.ensures) at c.int_in_range-size.ensures.exact)) c.in_ok-push_group.ensures.drawn

pub returns-then-span-room-clause-too_many : goal.returns-then-span-room-clause-too_many
returns-then-span-room-clause-too_many c = λ same.
    let h =
    choice c.args.self.now.sizes.items c.args.left c.args.choices.now _ _ c.unwrap-span.result.now c.requires.choices
    (rw c.unwrap-span.ensures at c.choose.ensures.exact) in
    let asked =
    asked_is c.is_empty-asked.result _
    (length c.args.choices.now) c.args.left c.args.self.now.sizes.items c.is_empty-asked.ensures refl c.requires.choices.asks in
    let past : c.args.room < c.unwrap-span.result.now.size = omega arith in (
      omega (arith, h.2, past),
      rw (group_is_clone c.args.offers.now c.args.left (front_of c.args.self.now) c.args.unstructured.now _ (rw asked at c.if-bool_if.ensures.exact)) tt,
    )

pub returns-then-size-room-clause-too_many : goal.returns-then-size-room-clause-too_many
returns-then-size-room-clause-too_many c = λ same.
    let asked =
    asked_is c.is_empty-asked.result _
    (length c.args.choices.now) c.args.left c.args.self.now.sizes.items c.is_empty-asked.ensures refl c.requires.choices.asks in
    let past : c.args.room < c.int_in_range-size.result = omega arith in (
      omega (arith, past, c.int_in_range-size.ensures.to, c.new.ensures.end, c.from.ensures),
      rw
          (group_is_new c.args.offers.now c.args.left (front_of c.args.self.now) c.args.unstructured.now _ _ c.int_in_range-size.result (rw asked at c.if-bool_if.ensures.exact) (rw (c.new.ensures.start, c.new.ensures.end, c.from.ensures) at c.int_in_range-size.ensures.exact))
          (members_past c.args.offers.now _ c.int_in_range-size.result c.args.room _ _ past),
    )
