use Rattle.std.proofs.Common.{◌≡◌, ◌<◌, ◌≤◌, sym, length, map, arith}
use Rattle.wasmparser_bodies.specs.StackViews.{operand}
use Rattle.wasmparser_bodies.proofs.Stacked.{frame_there, frame_past, place_there, place_past}
use Rattle.wasmparser_bodies.proofs.stacks.Stacks.frame_at.Goals as goal

pub returns-then-depth-len-clause-block : goal.returns-then-depth-len-clause-block
returns-then-depth-len-clause-block c =
    let i = c.self.inside in
    let n : c.len-then-depth-len.result ≡ length i.frames.items = omega (arith, i.frames.ok.0, c.len-then-depth-len.ensures) in
    let lt : c.args.depth < length i.frames.items = omega (arith, i.frames.ok.0) in
    rw (← c.self.view_is) (sym (frame_there i.frames.items (map operand i.operands.items) i.assigned.items c.args.depth c.index.result.now lt (rw n at c.index.ensures)))

pub returns-then-depth-len-clause-place : goal.returns-then-depth-len-clause-place
returns-then-depth-len-clause-place c =
    let i = c.self.inside in
    let n : c.len-then-depth-len.result ≡ length i.frames.items = omega (arith, i.frames.ok.0, c.len-then-depth-len.ensures) in
    let lt : c.args.depth < length i.frames.items = omega (arith, i.frames.ok.0) in
    rw (← c.self.view_is) (sym (place_there i.frames.items i.operands.items i.assigned.items c.args.depth c.index.result.now c.self.invariant.heights lt (rw n at c.index.ensures)))

pub returns-else-depth-len-clause-block : goal.returns-else-depth-len-clause-block
returns-else-depth-len-clause-block c =
    let i = c.self.inside in
    let le : length i.frames.items ≤ c.args.depth = omega (arith, i.frames.ok.0) in
    rw (← c.self.view_is) (sym (frame_past i.frames.items (map operand i.operands.items) i.assigned.items c.args.depth le))

pub returns-else-depth-len-clause-place : goal.returns-else-depth-len-clause-place
returns-else-depth-len-clause-place c =
    let i = c.self.inside in
    let le : length i.frames.items ≤ c.args.depth = omega (arith, i.frames.ok.0) in
    rw (← c.self.view_is) (sym (place_past i.frames.items i.operands.items i.assigned.items c.args.depth c.self.invariant.heights le))
