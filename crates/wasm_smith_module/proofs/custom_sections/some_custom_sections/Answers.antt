use Rattle.std.proofs.Common.{map, ap, ◌∙◌, arith}
use Rattle.std.proofs.lemmas.List.{map_push}
use Rattle.wasm_smith_definitions.specs.Items.{placed_custom}
use Rattle.wasm_smith_types.proofs.GrowLaws.{grow_ends, grow_step}
use Rattle.wasm_smith_module.proofs.CustomLaws.{custom_more, customs_begin}
use Rattle.wasm_smith_module.specs.Contents.{custom_total}
use Rattle.wasm_smith_module.proofs.custom_sections.some_custom_sections.Goals as goal

pub grow-init : goal.grow-init
grow-init c = rw (c.new-sections.ensures.len, c.new-sections.ensures.items) (record {
  drawn = customs_begin c.args.unstructured.now;
  taken = omega arith;
  within = omega arith;
})

pub grow-preserved : goal.grow-preserved
grow-preserved c =
    let pushed = ap (map placed_custom) c.in_ok-push.ensures.items ∙ map_push placed_custom _ _ in
    record {
      drawn =
          grow_step _ _ _ _ _ _ _ _ _ _ _ _ pushed c.in_ok-push.ensures.len (rw c.len.ensures at c.grow-test.ensures.exact) c.in_ok-section.ensures.drawn
          c.grow.invariant.drawn;
      taken = omega arith;
      within = omega (arith, ap custom_total pushed, custom_more (map placed_custom c.grow.sections.items) (placed_custom c.in_ok-section.section), c.grow.invariant.within, c.in_ok-section.ensures.within);
    }

pub returns-clause-drawn : goal.returns-clause-drawn
returns-clause-drawn c = grow_ends _ _ _ _ _ _ _ _ (rw c.len.ensures at c.grow-test.ensures.exact) c.grow.invariant.drawn
