use Rattle.std.proofs.Common.{rules, sym, tests, ◌∙◌}
use Rattle.std.proofs.lemmas.Iterator.{YieldsList-from_slice}
use Rattle.std.proofs.lemmas.Iterator.Search.{all_from_yields_List}
use Rattle.std.proofs.lemmas.List.Folds.{list_all-map}
use Rattle.wasmparser_types.specs.ValTypes.{is_defaultable, storage_type, unpacked_type}
use Rattle.wasmparser_constants.proofs.aggregates.are_defaultable.Goals as goal

pub returns : goal.returns
returns c =
    all_from_yields_List (λ field. is_defaultable (unpacked_type (storage_type field.element_type))) _ _ _ c.all.ensures.ran (YieldsList-from_slice c.args.fields.now cc) (λ x b q k. search (rules, tests))
    ∙ sym (list_all-map is_defaultable (λ field. unpacked_type (storage_type field.element_type)) c.args.fields.now)
