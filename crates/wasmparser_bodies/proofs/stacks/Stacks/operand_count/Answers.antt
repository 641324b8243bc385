use Rattle.std.proofs.Common.{sym, ◌∙◌, ap, length, map, reverse}
use Rattle.std.proofs.lemmas.List.{length-map, length-reverse}
use Rattle.wasmparser_bodies.specs.StackViews.{operand}
use Rattle.wasmparser_bodies.proofs.Stacked.{all_known_is}
use Rattle.wasmparser_bodies.proofs.stacks.Stacks.operand_count.Goals as goal

pub returns : goal.returns
returns c =
    let i = c.self.inside in
    rw (← c.self.view_is) (c.len.ensures ∙ i.operands.ok.0 ∙ sym (ap length (all_known_is (reverse i.frames.items) i.operands.items i.assigned.items c.self.invariant.heights) ∙ length-reverse (map operand i.operands.items) ∙ length-map i.operands.items operand))
