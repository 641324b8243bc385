use Rattle.std.proofs.Common.{◌-◌, ap, sym, ◌∙◌, length}
use Rattle.wasmparser_type_list.proofs.IdRanges.{ids_count}
use Rattle.wasmparser_type_list.proofs.rec_group_elements.RecGroupElementsExactSizeIterator.len.Goals as goal

pub returns-clause-value : goal.returns-clause-value
returns-clause-value c =
    let count = ids_count c.self.inside.next (c.self.inside.end - c.self.inside.next) in
    c.saturating_sub.ensures ∙ sym count ∙ ap length c.self.view_is
