use Rattle.std.proofs.Common.{◌∙◌, Bool, ℕ, sym, rules, tests}
use Rattle.std.proofs.lemmas.List.Folds.{list_all-map}
use Rattle.std.proofs.lemmas.Iterator.{YieldsList-from_slice}
use Rattle.std.proofs.lemmas.Iterator.Search.{all_from_yields_List}
use Rattle.wasm_core_types.specs.CoreTypes.{val_type}
use Rattle.wasm_smith_shapes.specs.Forms.{may_hold}
use Rattle.wasm_spec.specs.Types.{ValType}
use Rattle.wasm_smith_shapes.proofs.forms.may_hold_all.Goals as goal

pub returns : goal.returns
returns c =
    let test : ValType ℕ → Bool = may_hold c.args.named in
    all_from_yields_List (λ x. test (val_type x)) _ _ _ c.all.ensures.ran (YieldsList-from_slice c.args.types.now cc) (λ x b q k. search (rules, tests))
    ∙ sym (list_all-map test val_type c.args.types.now)
