use Rattle.std.proofs.Common.{◌+◌, refl, ◌∙◌, arith}
use Rattle.wasm_encoder_sections.specs.CoreItems.{export_kind}
use Rattle.wasm_smith_externs.proofs.AllExportLaws.{counts_stay, next_exported, none_exported}
use Rattle.wasm_smith_externs.proofs.all_exports.export_items.Goals as goal

pub loop-index-init : goal.loop-index-init
loop-index-init c = record { exported = none_exported c.args.spaces.now c.args.unstructured.now; names = c.requires.names; count = refl; taken = omega arith }

pub loop-index-preserved : goal.loop-index-preserved
loop-index-preserved c =
    let kind = export_kind c.args.kind in
    let one = c.in_ok-export_item.ensures.exported in
    record {
      exported = next_exported c.args.spaces.now c.loop-index.spaces c.export_item.new.spaces c.args.unstructured.now c.loop-index.unstructured c.export_item.new.unstructured kind c.loop-index.index
          (c.loop-index.index + 1) refl c.loop-index.invariant.exported one;
      names = c.in_ok-export_item.ensures.names;
      count = counts_stay c.loop-index.spaces c.export_item.new.spaces c.loop-index.unstructured c.export_item.new.unstructured _ one kind ∙ c.loop-index.invariant.count;
      taken = omega arith;
    }
