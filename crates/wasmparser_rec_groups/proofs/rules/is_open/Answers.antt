use Rattle.std.proofs.Common.{◌∙◌, ap, sym}
use Rattle.std.specs.Option.{option_copied}
use Rattle.wasmparser_types.specs.SubTypes.{sub_type}
use Rattle.wasmparser_type_list.proofs.TableLaws.{stands_for}
use Rattle.wasmparser_rec_groups.proofs.RuleLaws.{not_open, open_by}
use Rattle.wasmparser_rec_groups.proofs.rules.is_open.Goals as goal

pub returns-in-Some : goal.returns-in-Some
returns-in-Some c =
    let tables = c.args.types.now in
    open_by tables c.args.id (sub_type c.in-Some.it.now) (sym (stands_for tables c.args.id _ (ap option_copied (sym c.in-Some.is) ∙ c.get.ensures)))

pub returns-in-None : goal.returns-in-None
returns-in-None c =
    let tables = c.args.types.now in
    ((λ h. absurd cc), (λ h. absurd (not_open tables c.args.id (sym (stands_for tables c.args.id _ (ap option_copied (sym c.in-None.is) ∙ c.get.ensures))) h)))
