use Rattle.std.proofs.Common.{◌∙◌, sym, rules, tests}
use Rattle.std.proofs.lemmas.List.Folds.{list_all-map}
use Rattle.std.proofs.lemmas.Iterator.{YieldsList-from_slice}
use Rattle.std.proofs.lemmas.Iterator.Search.{all_from_yields_List}
use Rattle.wasm_core_types.specs.CoreTypes.{field_type}
use Rattle.wasm_smith_witness.specs.Family.{is_member_field}
use Rattle.wasm_smith_witness.proofs.membership.are_member_fields.Goals as goal

pub returns : goal.returns
returns c =
    all_from_yields_List (λ x. is_member_field c.args.config.now c.args.bound (field_type x)) _ _ _ c.all.ensures.ran (YieldsList-from_slice c.args.fields.now cc) (λ x b q k. search (rules, tests)) ∙
    sym (list_all-map (is_member_field c.args.config.now c.args.bound) field_type c.args.fields.now)
