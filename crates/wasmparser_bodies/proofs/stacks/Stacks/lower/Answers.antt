use Rattle.std.proofs.Common.{◌≡◌, ◌+◌, ◌-◌, ◌++◌, [], ap, length, map, reverse, take, sym, ◌∙◌, arith}
use Rattle.std.proofs.lemmas.List.{append-nil, take-map}
use Rattle.wasmparser_bodies.specs.StackViews.{base_of, operand}
use Rattle.wasmparser_bodies.proofs.Stacked.{replaced}
use Rattle.wasmparser_bodies.proofs.stacks.Stacks.lower.Goals as goal

pub returns : goal.returns
returns c =
    let i = c.self.inside in
    let at = c.start_of-at.result in
    let n : c.len.result ≡ length i.operands.items = omega (arith, c.len.ensures, i.operands.ok.0) in
    let is : at ≡ base_of (reverse i.frames.items) + (length i.operands.items - base_of (reverse i.frames.items) - c.args.count) = rw (n, c.deref.ensures.value) at c.start_of-at.ensures in
    let all : map operand c.truncate.new.self.items ≡ take at (map operand i.operands.items) ++ [] = ap (map operand) c.truncate.ensures.items ∙ sym (take-map operand at i.operands.items) ∙ sym (append-nil (take at (map operand i.operands.items))) in
    rw (← c.self.view_is) (replaced (reverse i.frames.items) i.operands.items (map operand c.truncate.new.self.items) [] at c.args.count i.assigned.items c.self.invariant.heights is all)
