use Rattle.std.proofs.Common.{rules, sym, tests, ◌∙◌}
use Rattle.std.proofs.lemmas.Iterator.{YieldsList-from_slice}
use Rattle.std.proofs.lemmas.Iterator.Search.{all_from_yields_List}
use Rattle.std.proofs.lemmas.List.Folds.{list_all-map}
use Rattle.wasm_core_types.specs.Features.{feature_set}
use Rattle.wasm_spec.specs.Gates.{is_allowed_sub}
use Rattle.wasmparser_types.specs.SubTypes.{sub_type}
use Rattle.wasmparser_type_relations.proofs.gates.are_allowed_subs.Goals as goal

pub returns : goal.returns
returns c =
    all_from_yields_List (λ x. is_allowed_sub (feature_set c.args.features) (sub_type x)) _ _ _ c.all.ensures.ran (YieldsList-from_slice c.args.types.now cc) (λ x b q k. search (rules, tests))
    ∙ sym (list_all-map (is_allowed_sub (feature_set c.args.features)) sub_type c.args.types.now)
