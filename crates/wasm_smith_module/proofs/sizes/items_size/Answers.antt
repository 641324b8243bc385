use Rattle.std.proofs.Common.{ap, sym, ◌∙◌, map}
use Rattle.std.specs.List.{sum_by}
use Rattle.wasm_core_types.specs.SubTypes.{sub_type}
use Rattle.wasm_encoder_sections.specs.CoreItems.{entity_type}
use Rattle.wasm_smith_shapes.specs.Imports.{import_item}
use Rattle.wasm_smith_module.proofs.SaturatedSums.{all_sizes, sum_mapped}
use Rattle.wasm_smith_module.proofs.sizes.items_size.Goals as goal
use Rattle.wasm_smith_module.specs.Measured.{saturated}
use Rattle.wasm_smith_module.specs.Measures.{size_of}

pub returns : goal.returns
returns c =
    let size = size_of (map sub_type c.args.types.now) in
    let items = c.args.items.now in
    all_sizes (λ item. size (entity_type item.ty)) items c.loop-item.item-index c.loop-item.size (saturated (sum_by (λ item. size (entity_type item.ty)) items)) c.loop-item-test.false
    c.loop-item.invariant.fits c.loop-item.invariant.sum
    ∙ ap saturated (sym (sum_mapped size (λ item. item.type) (map import_item items) ∙ sum_mapped (λ item. size item.type) import_item items))
