use Rattle.std.proofs.Common.{sym, ◌∙◌, map}
use Rattle.wasmparser_bodies.specs.StackViews.{operand}
use Rattle.wasmparser_bodies.proofs.Stacked.{length_frames}
use Rattle.wasmparser_bodies.proofs.stacks.Stacks.frame_count.Goals as goal

pub returns : goal.returns
returns c =
    let i = c.self.inside in
    rw (← c.self.view_is) (c.len.ensures ∙ i.frames.ok.0 ∙ sym (length_frames i.frames.items (map operand i.operands.items) i.assigned.items))
