use Rattle.std.proofs.Common.{◌<◌, ◌+◌, length, slice_index_or, refl, arith}
use Rattle.std.proofs.lemmas.List.{length-drop}
use Rattle.wasm_smith_sections.proofs.TypeGroups.{next_group, next_total, one_longer}
use Rattle.wasm_smith_sections.proofs.types.type_section.Goals as goal

pub loop-size-preserved : goal.loop-size-preserved
loop-size-preserved c =
    let i = c.loop-size.size-index in
    let size = slice_index_or c.args.sizes.now i 0 in
    let lt : i < length c.args.sizes.now = omega arith in
    record {
      kept =
          next_group c.args.sizes.now c.args.types.now i c.loop-size.start size (c.loop-size.start + size) _ _ _ _ _ lt refl refl refl c.in_ok-group_of.ensures c.in_ok-push.ensures.added
          c.loop-size.invariant.kept;
      left = omega (arith, next_total c.args.sizes.now i size lt refl, c.loop-size.invariant.left);
      counted =
          omega
          (arith, lt, one_longer _ _ _ c.in_ok-push.ensures.added, length-drop i c.args.sizes.now, length-drop (i + 1) c.args.sizes.now, c.loop-size.invariant.counted);
    }
