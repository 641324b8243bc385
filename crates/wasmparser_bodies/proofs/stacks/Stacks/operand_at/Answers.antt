use Rattle.std.proofs.Common.{◌≡◌, ◌<◌, ◌≤◌, sym, ◌∙◌, ap, length, reverse, arith}
use Rattle.std.specs.Prelude.{slice_get}
use Rattle.wasmparser_bodies.proofs.Stacked.{all_known_is, operand_past, operand_there}
use Rattle.wasmparser_bodies.proofs.stacks.Stacks.operand_at.Goals as goal

pub returns-then-depth-len : goal.returns-then-depth-len
returns-then-depth-len c =
    let i = c.self.inside in
    let n : c.len-then-depth-len.result ≡ length i.operands.items = omega (arith, i.operands.ok.0, c.len-then-depth-len.ensures) in
    let lt : c.args.depth < length i.operands.items = omega (arith, i.operands.ok.0) in
    let is = rw n at c.index.ensures in
    rw (← c.self.view_is) (sym (ap (λ l. slice_get l c.args.depth) (all_known_is (reverse i.frames.items) i.operands.items i.assigned.items c.self.invariant.heights) ∙ operand_there i.operands.items c.args.depth c.index.result.now lt is))

pub returns-else-depth-len : goal.returns-else-depth-len
returns-else-depth-len c =
    let i = c.self.inside in
    let le : length i.operands.items ≤ c.args.depth = omega (arith, i.operands.ok.0) in
    rw (← c.self.view_is) (sym (ap (λ l. slice_get l c.args.depth) (all_known_is (reverse i.frames.items) i.operands.items i.assigned.items c.self.invariant.heights) ∙ operand_past i.operands.items c.args.depth le))
