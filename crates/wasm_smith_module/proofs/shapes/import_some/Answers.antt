use Rattle.std.proofs.Common.{◌∙◌, Bool, ℕ, sym, rules, tests}
use Rattle.std.proofs.lemmas.Iterator.{YieldsList-from_slice}
use Rattle.std.proofs.lemmas.Iterator.Search.{any_from_yields_List}
use Rattle.std.specs.List.{list_any}
use Rattle.wasm_encoder_sections.specs.CoreItems.{export_kind}
use Rattle.wasm_smith_module.specs.ItemKinds.{is_of}
use Rattle.wasm_smith_module.proofs.ShapeChecks.{any_flat}
use Rattle.wasm_smith_shapes.specs.Imports.{import_entry}
use Rattle.wasm_spec.specs.Syntax.{imported_by}
use Rattle.wasm_spec.specs.Types.{ExternalType}
use Rattle.wasm_smith_module.proofs.shapes.import_some.Goals as goal

pub returns : goal.returns
returns c =
    let test : ExternalType ℕ → Bool = is_of (export_kind c.args.kind) in
    any_from_yields_List (λ x. list_any test (imported_by (import_entry x))) _ _ _ c.any.ensures.ran (YieldsList-from_slice c.args.imports.now cc)
    (λ x b q k. search (rules, tests))
    ∙ sym (any_flat test imported_by import_entry c.args.imports.now)
