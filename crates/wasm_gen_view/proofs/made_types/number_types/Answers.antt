use Rattle.std.proofs.Common.{◌<◌, ◌+◌, length, drop, map, slice_index_or, refl, arith}
use Rattle.std.proofs.lemmas.List.Sums.{sum_by-drop_more}
use Rattle.wasm_core_types.specs.SubTypes.{sub_type}
use Rattle.wasm_gen_view.proofs.MadeTypes.{all_so_far, one_so_far}
use Rattle.wasm_gen_view.proofs.made_types.number_types.Goals as goal

pub loop-size-preserved : goal.loop-size-preserved
loop-size-preserved c =
    let i = c.loop-size.size-index in
    let size = slice_index_or c.args.sizes.now i 0 in
    let lt : i < length c.args.sizes.now = omega arith in
    record {
      far = λ groups types sizes.
          one_so_far groups c.loop-size.numbers.groups c.add_group.new.self.groups c.loop-size.numbers.places.items c.add_group.new.self.places.items c.args.types.now _ c.args.sizes.now i c.loop-size.start size
          (c.loop-size.start + size) lt refl refl refl c.in_ok-add_group.ensures (c.loop-size.invariant.far groups types sizes);
      left = omega (arith, sum_by-drop_more (λ x. x) c.args.sizes.now i 0 lt, c.loop-size.invariant.left);
    }

pub returns : goal.returns
returns c groups types sizes =
    all_so_far groups c.loop-size.numbers.groups c.loop-size.numbers.places.items (map sub_type (drop c.loop-size.start c.args.types.now)) c.args.sizes.now c.loop-size.size-index (omega arith)
    (c.loop-size.invariant.far groups types sizes)
