use Rattle.std.proofs.Common.{ap, length, refl, sum, sym, ◌∙◌}
use Rattle.std.proofs.lemmas.List.{length-map}
use Rattle.wasm_core_types.specs.SubTypes.{sub_type}
use Rattle.wasm_gen_view.proofs.MadeTypes.{sizes_whole}
use Rattle.wasm_gen_view.proofs.MadeViews.{view_is}
use Rattle.wasm_gen_view.proofs.module_view.view_of_module.Goals as goal
use Rattle.wasm_gen_view.specs.Items.{exports_among}
use Rattle.wasm_gen_view.specs.MadeSpaces.{made_spaces}

pub number_types-requires : goal.number_types-requires
number_types-requires c = record {
  whole = ap sum c.group_sizes.ensures ∙ sizes_whole c.args.made.now.made.groups ∙ ap length (sym c.types.ensures) ∙ length-map c.types.result.now sub_type;
}

pub returns : goal.returns
returns c =
    let made = c.args.made.now.made in
    let numbers = c.in_ok-numbers.numbers in
    let items = c.in_ok-items.items in
    let (trees, are) = c.in_ok-numbers.ensures made.groups c.types.ensures c.group_sizes.ensures in
    view_is (made_spaces made) trees numbers.groups numbers.places.items are items c.in_ok-items.ensures _ c.in_ok-groups.ensures.groups c.in_ok-groups.ensures.places refl refl refl refl refl refl
    (c.in_ok-exports.ensures ∙ ap (exports_among items) c.exports.ensures)
