use Rattle.std.proofs.Common.{◌∙◌, Bool, ℕ, sym, rules, tests}
use Rattle.std.proofs.lemmas.List.Folds.{list_all-map}
use Rattle.std.proofs.lemmas.Iterator.{YieldsList-from_slice}
use Rattle.std.proofs.lemmas.Iterator.Search.{all_from_yields_List}
use Rattle.wasm_core_types.specs.SubTypes.{sub_type}
use Rattle.wasm_smith_shapes.specs.Forms.{may_have_named_type}
use Rattle.wasm_spec.specs.Types.{SubType}
use Rattle.wasm_smith_shapes.proofs.forms.may_have_types.Goals as goal

pub returns : goal.returns
returns c =
    let test : SubType ℕ → Bool = may_have_named_type c.args.purpose c.args.named in
    all_from_yields_List (λ x. test (sub_type x)) _ _ _ c.all.ensures.ran (YieldsList-from_slice c.args.types.now cc) (λ x b q k. search (rules, tests))
    ∙ sym (list_all-map test sub_type c.args.types.now)
