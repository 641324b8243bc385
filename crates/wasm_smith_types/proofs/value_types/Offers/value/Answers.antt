use Rattle.std.proofs.Common.{◌∙◌}
use Rattle.wasm_smith_types.proofs.OfferLaws.{is_chosen, value_plain, value_reference}
use Rattle.wasm_smith_types.proofs.value_types.Offers.value.Goals as goal

pub unwrap-requires : goal.unwrap-requires
unwrap-requires c = is_chosen _ c.self.inside.kinds.items _ _ c.choose.result (rw c.deref.ensures.value at c.choose.ensures.exact) c.self.invariant.some_kind

pub returns-in-NumberOrVector-clause-drawn : goal.returns-in-NumberOrVector-clause-drawn
returns-in-NumberOrVector-clause-drawn c =
    value_plain c.self.inside.kinds.items c.self.inside.heaps.items c.self.inside.gc c.self.inside.most_results _ _ _ _ _ c.self.view_is
    (rw (c.deref.ensures.value, c.unwrap.ensures, c.in-NumberOrVector.is) at c.choose.ensures.exact)

pub returns-in-Reference-clause-drawn : goal.returns-in-Reference-clause-drawn
returns-in-Reference-clause-drawn c =
    value_reference c.self.inside.kinds.items c.self.inside.heaps.items c.self.inside.gc c.self.inside.most_results _ _ _ _ c.self.view_is
    (rw (c.deref.ensures.value, c.unwrap.ensures, c.in-Reference.is) at c.choose.ensures.exact)
    ∙ c.reference.ensures.drawn
