use Rattle.std.proofs.Common.{length, slice_get, ◌<◌, ◌≡◌, ◌∙◌, ap, sym, arith}
use Rattle.std.proofs.lemmas.Bool.Decides.{nat_tests}
use Rattle.wasm_gen_view.proofs.KnownNumbers.{all_numbered}
use Rattle.wasmparser_validator.specs.Shown.{known, spaces}
use Rattle.wasm_gen_view.proofs.known_types.number_known_types.Goals as goal
use Rattle.wasm_gen_view.proofs.known_types.number_known_types.Goals.{then-index-places+in_ok-add_group, else-index-places}

pub loop-index-preserved : goal.loop-index-preserved
loop-index-preserved c =
    let section = (spaces c.args.types.now).types in
    let items = c.loop-index.numbers.types.places.items in
    let counted = ap length c.places.ensures in
    let reached = c.loop-index.invariant.reached in
    elim c.if-index-places.branch [
      | then-index-places+in_ok-add_group w ↦
          let at : length items ≡ c.loop-index.index = grind (arith, nat_tests) in
          let here = ap (slice_get section) at ∙ w.core_type_at_in_module.ensures.same in
          rw w.numbers-is
          (record { so_far = w.in_ok-add_group.ensures.so_far section c.are_known.ensures here c.loop-index.invariant.so_far; reached = omega (arith, at, w.in_ok-add_group.ensures.more) })
      | else-index-places w ↦
          let less : c.loop-index.index < length items = grind (arith, nat_tests) in
          rw w.numbers-is (record { so_far = c.loop-index.invariant.so_far; reached = omega (arith, less) })
    ]

pub returns : goal.returns
returns c =
    let section = (spaces c.args.types.now).types in
    all_numbered (known c.args.types.now) section c.loop-index.numbers.types.groups c.loop-index.numbers.types.places.items c.loop-index.numbers.numbers c.loop-index.invariant.so_far
    (omega (arith, c.loop-index-test.false, c.loop-index.invariant.reached, c.core_type_count_in_module-index-end.ensures))
