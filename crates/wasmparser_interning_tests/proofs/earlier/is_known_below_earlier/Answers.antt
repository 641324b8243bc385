use Rattle.std.proofs.Common.{sym, ap, subst, ◌∙◌}
use Rattle.std.specs.Option.{option_copied}
use Rattle.wasmparser_types.specs.SubTypes.{sub_type}
use Rattle.wasmparser_type_list.proofs.TableLaws.{stands_for}
use Rattle.wasmparser_interning_tests.specs.Earlier.{IsBelowEarlierAt}
use Rattle.wasmparser_interning_tests.proofs.EarlierLaws.{at_id}
use Rattle.wasmparser_interning_tests.proofs.earlier.is_known_below_earlier.Goals as goal

pub returns-in-Some : goal.returns-in-Some
returns-in-Some c h =
    let tables = c.args.list.now in
    let is = c.from_index-id.ensures in
    let found = stands_for tables c.from_index-id.result _ (ap option_copied (sym c.in-Some.is) ∙ c.get.ensures) in
    subst (IsBelowEarlierAt tables) (is ∙ c.in-Ok.ensures.1) (at_id tables c.from_index-id.result (sub_type c.in-Some.it.now) found (c.is_below_earlier.ensures h))
