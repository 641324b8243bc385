use Rattle.std.proofs.Common.{rules, sym, ◌∙◌, ◌<◌}
use Rattle.wasmparser_types.specs.SubTypes.{sub_type}
use Rattle.wasmparser_interning_tests.proofs.EarlierLaws.{one_below, single}
use Rattle.wasmparser_interning_tests.proofs.earlier.is_below_earlier.Goals as goal

pub returns-in-Some : goal.returns-in-Some
returns-in-Some c h =
    let one = single _ _ _ c.as_slice.ensures.value c.in-len1.len_at_least c.in-len1.len_below c.supertype-item.is in
    let lower : c.in-Some.above < c.args.id = search rules in
    one_below c.args.list.now c.args.id c.in-Some.above (sub_type c.args.it.now) _ one (sym c.as_core_type_id.ensures ∙ c.in-Some.is) lower (c.is_of_kind.ensures h)
