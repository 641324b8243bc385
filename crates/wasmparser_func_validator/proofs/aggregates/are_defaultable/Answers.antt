use Rattle.std.proofs.Common.{rules, sym, tests, map, ◌∙◌}
use Rattle.std.proofs.lemmas.Iterator.{YieldsList-from_slice}
use Rattle.std.proofs.lemmas.Iterator.Search.{all_from_yields_List}
use Rattle.std.proofs.lemmas.List.Folds.{list_all-map}
use Rattle.wasm_bodies.specs.BodyContext.{is_defaultable, unpacked}
use Rattle.wasmparser_types.specs.ValTypes.{field_type}
use Rattle.wasmparser_func_validator.proofs.TypeLaws.{default_is}
use Rattle.wasmparser_func_validator.proofs.aggregates.are_defaultable.Goals as goal

pub returns : goal.returns
returns c =
    all_from_yields_List (λ field. is_defaultable (unpacked (field_type field))) _ _ _ c.all.ensures.ran (YieldsList-from_slice c.args.fields.now cc) (λ x b q k. search (rules, tests, default_is))
    ∙ sym (list_all-map (λ field. is_defaultable (unpacked field)) field_type c.args.fields.now)
    ∙ sym (list_all-map is_defaultable unpacked (map field_type c.args.fields.now))
