use Rattle.std.proofs.Common.{◌≡◌, ◌+◌, ◌-◌, ◌∷◌, ◌++◌, [], ◌∙◌, ap, refl, sym, length, map, reverse, take, arith, false}
use Rattle.std.proofs.lemmas.List.{append-nil, reverse-append, take-map}
use Rattle.wasmparser_bodies.specs.StackViews.{base_of, operand, view_of}
use Rattle.wasmparser_bodies.specs.declared.frame.Frame.{Frame}
use Rattle.wasmparser_bodies.proofs.Stacked.{entered}
use Rattle.wasmparser_bodies.proofs.stacks.Stacks.enter_within_capacity.Goals as goal

pub returns-clause-ok : goal.returns-clause-ok
returns-clause-ok c =
    let i = c.self.inside in
    let f : Frame = record { kind = c.args.kind; block_type = c.args.block_type; height = c.start_of-at.result; unreachable = false; init_height = c.len-3.result } in
    let n : c.len-2.result ≡ length i.operands.items = omega (arith, c.len-2.ensures, i.operands.ok.0) in
    let is : c.start_of-at.result ≡ base_of (reverse i.frames.items) + (length i.operands.items - base_of (reverse i.frames.items) - c.args.count) = rw (n, c.deref.ensures.value) at c.start_of-at.ensures in
    let k : c.len-3.result ≡ length i.assigned.items = omega (arith, c.len-3.ensures, i.assigned.ok.0) in
    let frames : reverse c.push_reserved.new.self.items ≡ f ∷ reverse i.frames.items = ap reverse c.push_reserved.ensures.items ∙ reverse-append i.frames.items (f ∷ []) in
    let all : map operand c.truncate.new.self.items ≡ take c.start_of-at.result (map operand i.operands.items) ++ [] = ap (map operand) c.truncate.ensures.items ∙ sym (take-map operand c.start_of-at.result i.operands.items) ∙ sym (append-nil (take c.start_of-at.result (map operand i.operands.items))) in
    rw (← c.self.view_is) (ap (λ l. view_of l (map operand c.truncate.new.self.items) i.assigned.items) frames
    ∙ entered (reverse i.frames.items) f i.operands.items (map operand c.truncate.new.self.items) [] c.args.count i.assigned.items c.self.invariant.heights is k refl all)
