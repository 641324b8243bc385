use Rattle.std.proofs.Common.{ap, sym, ◌∙◌, ◌-◌, ◌^◌, map, min}
use Rattle.std.specs.List.{sum_by}
use Rattle.wasm_core_types.specs.SubTypes.{sub_type}
use Rattle.wasm_encoder_sections.specs.CoreItems.{entity_type}
use Rattle.wasm_smith_shapes.specs.Imports.{import_item}
use Rattle.wasm_smith_externs.specs.Candidates.{type_size}
use Rattle.wasm_smith_externs.proofs.ImportSizeLaws.{all_added, sum_mapped}
use Rattle.wasm_smith_externs.proofs.import_sizes.items_size.Goals as goal

pub returns : goal.returns
returns c =
    let size = type_size (map sub_type c.args.types.now) in
    let items = c.args.items.now in
    all_added (λ item. size (entity_type item.ty)) items c.loop-item.item-index c.loop-item.size (min (sum_by (λ item. size (entity_type item.ty)) items) (2 ^ 64 - 1)) c.loop-item-test.false
    c.loop-item.invariant.fits c.loop-item.invariant.sum
    ∙ ap (λ n. min n (2 ^ 64 - 1)) (sym (sum_mapped size (λ item. item.type) (map import_item items) ∙ sum_mapped (λ item. size item.type) import_item items))
