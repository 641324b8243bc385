use Rattle.std.proofs.Common.{◌≡◌, ◌∷◌, ◌++◌, [], ap}
use Rattle.std.proofs.lemmas.Result.{IfOk-weaker}
use Rattle.wasm_encoder_sections.specs.CoreItems.{export_kind}
use Rattle.wasm_smith_definitions.specs.Items.{export}
use Rattle.wasm_smith_validity.specs.Spaces.{Spaces}
use Rattle.wasm_smith_externs.proofs.AllExportLaws.{one_exported}
use Rattle.wasm_smith_externs.proofs.ExportLaws.{one_more_name}
use Rattle.wasm_smith_externs.specs.AllExports.{AreExported}
use Rattle.wasm_smith_externs.specs.Exports.{AreNames}
use Rattle.wasm_smith_externs.proofs.all_exports.export_item.Goals as goal

pub returns-clause-exported : goal.returns-clause-exported
returns-clause-exported c =
    let old = c.args.spaces.now in
    let new = c.push_export.new.self in
    let it = export c.in_ok-export.export in
    let kind = export_kind c.args.kind in
    let named = c.in_ok-export.ensures in
    IfOk-weaker c.push_export.result (λ _. new ≡ record old { exports = old.exports ++ it ∷ [] })
    (λ _. AreExported old c.args.unstructured.now new c.named_export.new.unstructured ((kind, c.args.index) ∷ []))
    (λ _ added. one_exported old new c.args.unstructured.now c.named_export.new.unstructured c.args.names.now c.named_export.new.names it kind c.args.index named.kind named.index c.requires.there
    c.requires.names named.name added named.drawn)
    c.push_export.ensures.added

pub returns-clause-names : goal.returns-clause-names
returns-clause-names c =
    let old = c.args.spaces.now in
    let new = c.push_export.new.self in
    let it = export c.in_ok-export.export in
    IfOk-weaker c.push_export.result (λ _. new ≡ record old { exports = old.exports ++ it ∷ [] }) (λ _. AreNames c.named_export.new.names new.exports)
    (λ _ added. one_more_name c.args.names.now c.named_export.new.names old.exports new.exports it (ap (λ (k : Spaces). k.exports) added) c.in_ok-export.ensures.name c.requires.names)
    c.push_export.ensures.added
