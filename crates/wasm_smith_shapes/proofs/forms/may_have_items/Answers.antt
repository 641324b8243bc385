use Rattle.std.proofs.Common.{◌∙◌, Bool, ℕ, sym, rules, tests}
use Rattle.std.proofs.lemmas.List.Folds.{list_all-map}
use Rattle.std.proofs.lemmas.Iterator.{YieldsList-from_slice}
use Rattle.std.proofs.lemmas.Iterator.Search.{all_from_yields_List}
use Rattle.wasm_encoder_sections.specs.CoreItems.{entity_type}
use Rattle.wasm_smith_shapes.specs.Forms.{may_have_item, most_named}
use Rattle.wasm_spec.specs.Types.{ExternalType}
use Rattle.wasm_smith_shapes.proofs.forms.may_have_items.Goals as goal

pub returns : goal.returns
returns c =
    let test : ExternalType ℕ → Bool = may_have_item (most_named c.args.purpose) in
    all_from_yields_List (λ x. test (entity_type x)) _ _ _ c.all.ensures.ran (YieldsList-from_slice c.args.items.now cc) (λ x b q k. search (rules, tests))
    ∙ sym (list_all-map test entity_type c.args.items.now)
