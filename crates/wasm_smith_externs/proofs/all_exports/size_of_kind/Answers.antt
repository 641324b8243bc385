use Rattle.std.proofs.Common.{◌+◌, refl, arith}
use Rattle.wasm_encoder_sections.specs.CoreItems.{export_kind}
use Rattle.wasm_smith_externs.proofs.AllExportLaws.{next_kind_size}
use Rattle.wasm_smith_externs.proofs.all_exports.size_of_kind.Goals as goal

pub loop-index-preserved : goal.loop-index-preserved
loop-index-preserved c =
    next_kind_size c.args.spaces.now (export_kind c.args.kind) c.loop-index.index (c.loop-index.index + 1) c.loop-index.size c.saturating_add-size.result refl c.loop-index.invariant
    (let size = c.item_size.ensures in let sum = c.saturating_add-size.ensures in omega (arith, size, sum))
