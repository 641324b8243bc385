use Rattle.std.proofs.Common.{◌∙◌, Bool, ℕ, map, sym, rules, tests}
use Rattle.std.proofs.lemmas.Iterator.{YieldsList-from_slice}
use Rattle.std.proofs.lemmas.Iterator.Search.{any_from_yields_List}
use Rattle.wasm_encoder_sections.specs.CoreItems.{export_kind}
use Rattle.wasm_smith_module.specs.ItemKinds.{is_of}
use Rattle.wasm_smith_module.proofs.ShapeChecks.{any_mapped}
use Rattle.wasm_smith_shapes.specs.Shapes.{named_item}
use Rattle.wasm_spec.specs.Types.{ExternalType}
use Rattle.wasm_smith_module.proofs.shapes.export_some.Goals as goal

pub returns : goal.returns
returns c =
    let test : ExternalType ℕ → Bool = is_of (export_kind c.args.kind) in
    any_from_yields_List (λ x. test (named_item x).type) _ _ _ c.any.ensures.ran (YieldsList-from_slice c.args.exports.now cc) (λ x b q k. search (rules, tests))
    ∙ sym
    (any_mapped test (λ export. export.type) (map named_item c.args.exports.now)
    ∙ any_mapped (λ export. test export.type) named_item c.args.exports.now)
