use Rattle.std.proofs.Common.{ap, sym, ◌∙◌}
use Rattle.wasm_smith_definitions.specs.Items.{export}
use Rattle.wasm_smith_module.proofs.SaturatedSums.{all_sizes, sum_mapped}
use Rattle.wasm_smith_module.proofs.counts.exports_size.Goals as goal
use Rattle.std.specs.List.{sum_by}
use Rattle.wasm_smith_module.specs.Measured.{saturated}
use Rattle.wasm_smith_module.specs.Measures.{size_of_export, with_own}
use Rattle.wasm_smith_sections.specs.ModuleItems.{made_of}

pub returns : goal.returns
returns c =
    let size = size_of_export (with_own c.args.imported.now (made_of c.args.items.now)) in
    let exports = c.args.items.now.exports.now in
    all_sizes (λ item. size (export item)) exports c.loop-item.item-index c.loop-item.size (saturated (sum_by (λ item. size (export item)) exports)) c.loop-item-test.false
    c.loop-item.invariant.fits c.loop-item.invariant.sum
    ∙ ap saturated (sym (sum_mapped size export exports))
