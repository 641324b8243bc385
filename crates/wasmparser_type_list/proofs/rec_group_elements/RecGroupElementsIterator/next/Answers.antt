use Rattle.std.proofs.Common.{rules, ap, sym, ◌∙◌, length, arith}
use Rattle.wasmparser_type_list.proofs.IdRanges.{one_more}
use Rattle.wasmparser_type_list.proofs.rec_group_elements.RecGroupElementsIterator.next.Goals as goal

pub returns-clause-steps : goal.returns-clause-steps
returns-clause-steps c =
    sym c.self.view_is ∙ one_more c.self.inside.next c.self.inside.end (omega (arith, c.if-self.false))
    ∙ rw c.from_index-id.ensures (search rules)

pub returns-clause-goes : goal.returns-clause-goes
returns-clause-goes c =
    let whole = ap length (sym c.self.view_is ∙ one_more c.self.inside.next c.self.inside.end (omega (arith, c.if-self.false))) in
    record { on = λ finite. (tt, tt, omega (arith, whole)); keeps = tt; rests = λ finite. tt }
