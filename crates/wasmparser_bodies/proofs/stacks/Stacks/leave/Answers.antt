use Rattle.std.proofs.Common.{◌≡◌, ◌-◌, ◌<◌, ◌∷◌, ◌∙◌, ap, sym, subst, length, map, reverse, take, get_or, arith}
use Rattle.wasmparser_bodies.specs.StackChanges.{left_with}
use Rattle.wasmparser_bodies.specs.StackViews.{AreWithin, all_of, operand, view_of}
use Rattle.wasmparser_types.specs.ValTypes.{val_type}
use Rattle.wasmparser_bodies.proofs.Stacked.{frames_split, left, left_within}
use Rattle.wasmparser_bodies.proofs.Places.{placed_before}
use Rattle.wasmparser_bodies.proofs.stacks.Stacks.leave.Goals as goal

pub invariant_of-self-2 : goal.invariant_of-self-2
invariant_of-self-2 c =
    let i = c.self.inside in
    let f = c.in-Some.frame.now in
    let n : length i.frames.items ≡ c.len.result = omega (arith, c.len.ensures, i.frames.ok.0) in
    let lt : 0 < length i.frames.items = omega (arith, c.in-Some.ensures.item.3.0, ap length c.deref.ensures.value) in
    let at : f ≡ get_or i.frames.items (length i.frames.items - 1) f = rw c.deref.ensures.value at c.in-Some.ensures.item.1 in
    let split : reverse i.frames.items ≡ f ∷ reverse (take (length i.frames.items - 1) i.frames.items) = frames_split i.frames.items f lt at in
    let w = subst (λ l. AreWithin l (length i.operands.items) (length i.assigned.items)) split c.self.invariant.heights in
    let others : c.truncate-2.new.self.items ≡ take (length i.frames.items - 1) i.frames.items = rw n c.truncate-2.ensures.items in
    record {
      heights = rw (others, c.truncate.ensures.items) (left_within (reverse (take (length i.frames.items - 1) i.frames.items)) f i.operands.items c.replace_tail.new.operands.items (all_of c.args.results.now) i.assigned.items w c.in_ok-replace_tail.ensures.ok);
      places = rw c.truncate.ensures.items (placed_before i.assigned.items i.places.items f.init_height c.self.invariant.places);
    }

pub returns-clause-ok : goal.returns-clause-ok
returns-clause-ok c =
    let i = c.self.inside in
    let f = c.in-Some.frame.now in
    let n : length i.frames.items ≡ c.len.result = omega (arith, c.len.ensures, i.frames.ok.0) in
    let lt : 0 < length i.frames.items = omega (arith, c.in-Some.ensures.item.3.0, ap length c.deref.ensures.value) in
    let at : f ≡ get_or i.frames.items (length i.frames.items - 1) f = rw c.deref.ensures.value at c.in-Some.ensures.item.1 in
    let split : reverse i.frames.items ≡ f ∷ reverse (take (length i.frames.items - 1) i.frames.items) = frames_split i.frames.items f lt at in
    let w = subst (λ l. AreWithin l (length i.operands.items) (length i.assigned.items)) split c.self.invariant.heights in
    let others : c.truncate-2.new.self.items ≡ take (length i.frames.items - 1) i.frames.items = rw n c.truncate-2.ensures.items in
    rw (← c.self.view_is, others, c.truncate.ensures.items) (left (reverse (take (length i.frames.items - 1) i.frames.items)) f i.operands.items (map operand c.replace_tail.new.operands.items) c.args.results.now i.assigned.items w c.in_ok-replace_tail.ensures.ok
    ∙ ap (λ l. left_with (map val_type c.args.results.now) (view_of l (map operand i.operands.items) i.assigned.items)) (sym split))
