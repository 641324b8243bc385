use Rattle.std.proofs.Common.{◌≡◌, ◌∙◌, ap, string_bytes}
use Rattle.wasm_encoder_sections.specs.CoreItems.{export_kind}
use Rattle.wasm_smith_definitions.specs.Items.{export}
use Rattle.wasm_smith_shapes.specs.Shapes.{named_item}
use Rattle.wasm_smith_validity.specs.Spaces.{Spaces}
use Rattle.wasm_smith_externs.specs.ShapeExports.{with_one}
use Rattle.wasm_smith_externs.proofs.ShapeExportLaws.{next_exported, next_few, same_export, spaces_known, still_known}
use Rattle.wasm_smith_externs.proofs.shape_exports.shape_exports.Goals as goal

pub loop-export-preserved : goal.loop-export-preserved
loop-export-preserved c =
    let exports = c.args.exports.now in
    let i = c.loop-export.export-index in
    let it = c.export-item.result in
    let counts = c.loop-export.counts in
    let more = c.next_index-index.new.self in
    let now = c.loop-export.spaces in
    let new = c.push_export.new.self in
    let made = export (record { name = c.in_ok-name.name; kind = c.kind_of-kind.result; index = c.next_index-index.result }) in
    let pushed = ap (λ (k : Spaces). k.exports) c.in_ok-push_export.ensures.added in
    let name : string_bytes c.in_ok-name.name ≡ string_bytes c.export-item.result.name = c.in_ok-name.ensures.cases in
    let is = same_export counts (named_item it) made name c.kind_of-kind.ensures c.next_index-index.ensures.index in
    let counted = c.next_index-index.ensures.counted ∙ ap (with_one counts) c.kind_of-kind.ensures in
    record {
      exported = next_exported named_item exports i it c.loop-export-test.true c.export-item.is counts more now.exports new.exports _ made is counted pushed c.loop-export.invariant.exported;
      known = still_known c.args.spaces.now now new made c.loop-export.invariant.known c.in_ok-push_export.ensures.added;
      few = next_few named_item exports i it c.loop-export-test.true c.export-item.is counts more (export_kind c.kind_of-kind.result) c.next_index-index.ensures.counted c.loop-export.invariant.few;
    }

pub returns-clause-known : goal.returns-clause-known
returns-clause-known c = spaces_known c.args.spaces.now c.loop-export.spaces c.requires.first c.loop-export.invariant.known
