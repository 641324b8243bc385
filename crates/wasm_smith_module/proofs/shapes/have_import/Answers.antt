use Rattle.std.proofs.Common.{◌∙◌, Bool, sym, rules, tests}
use Rattle.std.proofs.lemmas.Iterator.{YieldsList-from_slice}
use Rattle.std.proofs.lemmas.Iterator.Search.{any_from_yields_List}
use Rattle.wasm_encoder_sections.specs.CoreItems.{export_kind}
use Rattle.wasm_smith_module.specs.ItemKinds.{is_of}
use Rattle.wasm_smith_module.proofs.ShapeChecks.{any_mapped}
use Rattle.wasm_smith_shapes.specs.Imports.{import_item}
use Rattle.wasm_spec.specs.Syntax.{ImportItem}
use Rattle.wasm_smith_module.proofs.shapes.have_import.Goals as goal

pub returns : goal.returns
returns c =
    let test : ImportItem → Bool = λ item. is_of (export_kind c.args.kind) item.type in
    any_from_yields_List (λ x. test (import_item x)) _ _ _ c.any.ensures.ran (YieldsList-from_slice c.args.items.now cc) (λ x b q k. search (rules, tests))
    ∙ sym (any_mapped test import_item c.args.items.now)
