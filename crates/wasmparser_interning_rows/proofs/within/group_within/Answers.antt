use Rattle.std.proofs.Common.{length, sym, ap, ◌∙◌}
use Rattle.std.proofs.lemmas.List.{length-map}
use Rattle.wasmparser_types.specs.SubTypes.{sub_type}
use Rattle.wasmparser_interning_rows.proofs.Allowed.{group}
use Rattle.wasmparser_interning_rows.proofs.within.group_within.Goals as goal

pub returns-in-Ok : goal.returns-in-Ok
returns-in-Ok c =
    let types = c.types-count.result.now in
    group c.args.before (length types) _ _ (sym (length-map types sub_type) ∙ ap length c.types-count.ensures) c.in-Ok.ensures.remapped c.in-Ok.ensures.accepted
