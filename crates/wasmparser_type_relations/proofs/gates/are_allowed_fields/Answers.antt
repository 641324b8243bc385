use Rattle.std.proofs.Common.{rules, sym, tests, ◌∙◌, Bool}
use Rattle.std.proofs.lemmas.Iterator.{YieldsList-from_slice}
use Rattle.std.proofs.lemmas.Iterator.Search.{all_from_yields_List}
use Rattle.std.proofs.lemmas.List.Folds.{list_all-map}
use Rattle.wasm_core_types.specs.Features.{feature_set}
use Rattle.wasm_spec.specs.Gates.{is_allowed_storage}
use Rattle.wasm_spec.specs.Types.{FieldType}
use Rattle.wasmparser_types.specs.Index.{Index}
use Rattle.wasmparser_types.specs.ValTypes.{field_type}
use Rattle.wasmparser_type_relations.proofs.gates.are_allowed_fields.Goals as goal

pub returns : goal.returns
returns c =
    let allowed : FieldType Index → Bool = λ field. is_allowed_storage (feature_set c.args.features) field.element_type in
    all_from_yields_List (λ x. allowed (field_type x)) _ _ _ c.all.ensures.ran (YieldsList-from_slice c.args.fields.now cc) (λ x b q k. search (rules, tests))
    ∙ sym (list_all-map allowed field_type c.args.fields.now)
