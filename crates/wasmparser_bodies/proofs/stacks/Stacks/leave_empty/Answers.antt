use Rattle.std.proofs.Common.{◌≡◌, ◌-◌, ◌<◌, ◌∷◌, ◌++◌, [], ◌∙◌, ap, sym, subst, length, map, reverse, take, get_or, arith}
use Rattle.std.proofs.lemmas.List.{append-nil, take-map}
use Rattle.wasmparser_bodies.specs.StackChanges.{left_with}
use Rattle.wasmparser_bodies.specs.StackViews.{AreWithin, operand, view_of}
use Rattle.wasmparser_bodies.proofs.Stacked.{frames_split, left, left_within}
use Rattle.wasmparser_bodies.proofs.Places.{placed_before}
use Rattle.wasmparser_bodies.proofs.stacks.Stacks.leave_empty.Goals as goal

pub invariant_of-self : goal.invariant_of-self
invariant_of-self c =
    let i = c.self.inside in
    let f = c.in-Some.frame.now in
    let n : length i.frames.items ≡ c.len.result = omega (arith, c.len.ensures, i.frames.ok.0) in
    let lt : 0 < length i.frames.items = omega (arith, c.in-Some.ensures.item.3.0, ap length c.deref.ensures.value) in
    let at : f ≡ get_or i.frames.items (length i.frames.items - 1) f = rw c.deref.ensures.value at c.in-Some.ensures.item.1 in
    let split : reverse i.frames.items ≡ f ∷ reverse (take (length i.frames.items - 1) i.frames.items) = frames_split i.frames.items f lt at in
    let w = subst (λ l. AreWithin l (length i.operands.items) (length i.assigned.items)) split c.self.invariant.heights in
    let others : c.truncate-3.new.self.items ≡ take (length i.frames.items - 1) i.frames.items = rw n c.truncate-3.ensures.items in
    let all : map operand c.truncate.new.self.items ≡ take f.height (map operand i.operands.items) ++ [] = ap (map operand) c.truncate.ensures.items ∙ sym (take-map operand f.height i.operands.items) ∙ sym (append-nil (take f.height (map operand i.operands.items))) in
    record {
      heights = rw (others, c.truncate-2.ensures.items) (left_within (reverse (take (length i.frames.items - 1) i.frames.items)) f i.operands.items c.truncate.new.self.items [] i.assigned.items w all);
      places = rw c.truncate-2.ensures.items (placed_before i.assigned.items i.places.items f.init_height c.self.invariant.places);
    }

pub returns : goal.returns
returns c =
    let i = c.self.inside in
    let f = c.in-Some.frame.now in
    let n : length i.frames.items ≡ c.len.result = omega (arith, c.len.ensures, i.frames.ok.0) in
    let lt : 0 < length i.frames.items = omega (arith, c.in-Some.ensures.item.3.0, ap length c.deref.ensures.value) in
    let at : f ≡ get_or i.frames.items (length i.frames.items - 1) f = rw c.deref.ensures.value at c.in-Some.ensures.item.1 in
    let split : reverse i.frames.items ≡ f ∷ reverse (take (length i.frames.items - 1) i.frames.items) = frames_split i.frames.items f lt at in
    let w = subst (λ l. AreWithin l (length i.operands.items) (length i.assigned.items)) split c.self.invariant.heights in
    let others : c.truncate-3.new.self.items ≡ take (length i.frames.items - 1) i.frames.items = rw n c.truncate-3.ensures.items in
    let all : map operand c.truncate.new.self.items ≡ take f.height (map operand i.operands.items) ++ [] = ap (map operand) c.truncate.ensures.items ∙ sym (take-map operand f.height i.operands.items) ∙ sym (append-nil (take f.height (map operand i.operands.items))) in
    rw (← c.self.view_is, others, c.truncate-2.ensures.items) (left (reverse (take (length i.frames.items - 1) i.frames.items)) f i.operands.items (map operand c.truncate.new.self.items) [] i.assigned.items w all
    ∙ ap (λ l. left_with [] (view_of l (map operand i.operands.items) i.assigned.items)) (sym split))
