use Rattle.std.proofs.Common.{ap, option_map, refl, ◌∙◌}
use Rattle.std.proofs.lemmas.Option.{slice_get-map, slice_get_read}
use Rattle.wasmparser_types.specs.SubTypes.{sub_type}
use Rattle.wasmparser_rec_groups.proofs.rules.passed_by_items.Goals as goal

pub returns-in-Some-clause-passed : goal.returns-in-Some-clause-passed
returns-in-Some-clause-passed c =
    let types = c.args.types.now in
    let i = c.loop-it.it-index in
    let item = c.it-item.result in
    record {
      place = i;
      type = sub_type item;
      at = slice_get-map sub_type types i ∙ ap (option_map sub_type) (slice_get_read types _ i item refl c.loop-it-test.true c.it-item.is);
      passes = c.in-Some.ensures.passed;
    }
