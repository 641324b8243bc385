use Rattle.std.proofs.Common.{ap, arith, length, sym, refl}
use Rattle.std.proofs.lemmas.List.{length-map}
use Rattle.wasm_core_types.specs.SubTypes.{sub_type}
use Rattle.wasm_smith_shapes.proofs.GroupWalk.{begins, ends, goes_on, good_there, rules_there, sliced, stops, within}
use Rattle.wasm_smith_shapes.proofs.groups.are_good_groups.Goals as goal

pub loop-group-init : goal.loop-group-init
loop-group-init c = begins _ _ _ _ c.requires.flat

pub overflow_add-end : goal.overflow_add-end
overflow_add-end c =
    let inside = within _ _ _ _ c.loop-group.group-index c.loop-group.start c.group-item.result c.loop-group.invariant c.loop-group-test.true c.group-item.is (length c.deref-members.result.now) (ap length c.deref-members.ensures.value) in
    omega (arith, inside, c.requires.few, length-map c.args.types.now sub_type)

pub slice_bounds-is_good_group-end : goal.slice_bounds-is_good_group-end
slice_bounds-is_good_group-end c =
    sym (sliced _ _ _ _ c.loop-group.group-index c.loop-group.start c.group-item.result c.loop-group.invariant c.loop-group-test.true c.group-item.is (length c.deref-members.result.now) (ap length c.deref-members.ensures.value) c.args.types.now refl)

pub is_good_group-requires-clause-start : goal.is_good_group-requires-clause-start
is_good_group-requires-clause-start c =
    let long = sliced _ _ _ _ c.loop-group.group-index c.loop-group.start c.group-item.result c.loop-group.invariant c.loop-group-test.true c.group-item.is (length c.deref-members.result.now) (ap length c.deref-members.ensures.value) c.args.types.now refl in
    omega (arith, long)

pub is_good_group-requires-clause-few : goal.is_good_group-requires-clause-few
is_good_group-requires-clause-few c =
    let long = sliced _ _ _ _ c.loop-group.group-index c.loop-group.start c.group-item.result c.loop-group.invariant c.loop-group-test.true c.group-item.is (length c.deref-members.result.now) (ap length c.deref-members.ensures.value) c.args.types.now refl in
    let inside = within _ _ _ _ c.loop-group.group-index c.loop-group.start c.group-item.result c.loop-group.invariant c.loop-group-test.true c.group-item.is (length c.deref-members.result.now) (ap length c.deref-members.ensures.value) in
    omega (arith, long, inside, c.requires.few, length-map c.args.types.now sub_type)

pub is_good_group-requires-clause-rules : goal.is_good_group-requires-clause-rules
is_good_group-requires-clause-rules c =
    rules_there _ _ _ _ c.loop-group.group-index c.loop-group.start c.group-item.result c.loop-group.invariant c.loop-group-test.true c.group-item.is (length c.deref-members.result.now) (ap length c.deref-members.ensures.value) c.args.types.now refl

pub returns-then-not-is_good_group : goal.returns-then-not-is_good_group
returns-then-not-is_good_group c =
    let far = c.loop-group.invariant in
    let told = c.if-not-is_good_group.ensures in
    let here = good_there _ _ _ _ c.loop-group.group-index c.loop-group.start c.group-item.result far c.loop-group-test.true c.group-item.is (length c.deref-members.result.now) (ap length c.deref-members.ensures.value) c.args.types.now refl in (
      (λ h. absurd cc),
      (λ all.
          absurd (stops _ _ _ _ c.loop-group.group-index c.loop-group.start c.group-item.result far c.loop-group-test.true c.group-item.is (length c.deref-members.result.now) (ap length c.deref-members.ensures.value)
          (λ good. let off = told.1 (here.1 good) in cc) all)),
    )

pub loop-group-preserved : goal.loop-group-preserved
loop-group-preserved c =
    let far = c.loop-group.invariant in
    let told = c.if-not-is_good_group.ensures in
    let here = good_there _ _ _ _ c.loop-group.group-index c.loop-group.start c.group-item.result far c.loop-group-test.true c.group-item.is (length c.deref-members.result.now) (ap length c.deref-members.ensures.value) c.args.types.now refl in
    goes_on _ _ _ _ c.loop-group.group-index c.loop-group.start c.group-item.result far c.loop-group-test.true c.group-item.is (length c.deref-members.result.now) (ap length c.deref-members.ensures.value) (here.0 (told.0 refl))

pub returns : goal.returns
returns c = (λ h. ends _ _ _ _ c.loop-group.group-index c.loop-group.start c.loop-group.invariant (omega (arith, c.loop-group-test.false)), λ h. refl)
