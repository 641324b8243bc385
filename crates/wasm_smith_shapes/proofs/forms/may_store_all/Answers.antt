use Rattle.std.proofs.Common.{◌∙◌, Bool, ℕ, sym, rules, tests}
use Rattle.std.proofs.lemmas.List.Folds.{list_all-map}
use Rattle.std.proofs.lemmas.Iterator.{YieldsList-from_slice}
use Rattle.std.proofs.lemmas.Iterator.Search.{all_from_yields_List}
use Rattle.wasm_core_types.specs.CoreTypes.{field_type}
use Rattle.wasm_smith_shapes.specs.Forms.{may_store}
use Rattle.wasm_spec.specs.Types.{FieldType}
use Rattle.wasm_smith_shapes.proofs.forms.may_store_all.Goals as goal

pub returns : goal.returns
returns c =
    let test : FieldType ℕ → Bool = λ field. may_store c.args.named field.element_type in
    all_from_yields_List (λ x. test (field_type x)) _ _ _ c.all.ensures.ran (YieldsList-from_slice c.args.fields.now cc) (λ x b q k. search (rules, tests))
    ∙ sym (list_all-map test field_type c.args.fields.now)
