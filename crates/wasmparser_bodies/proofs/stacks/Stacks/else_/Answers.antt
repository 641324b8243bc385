use Rattle.std.proofs.Common.{◌≡◌, ◌-◌, ◌<◌, ◌∷◌, ◌∙◌, ap, refl, sym, subst, length, map, reverse, take, get_or, arith, false}
use Rattle.std.proofs.Math.ListN.{set}
use Rattle.wasmparser_bodies.specs.StackChanges.{else_with}
use Rattle.wasmparser_bodies.specs.StackViews.{AreWithin, all_of, operand, view_of}
use Rattle.wasmparser_bodies.specs.declared.frame.Frame.{Frame}
use Rattle.wasmparser_bodies.specs.declared.frame.FrameKind.TheVariants as kinds
use Rattle.wasmparser_types.specs.ValTypes.{val_type}
use Rattle.wasmparser_bodies.proofs.Stacked.{else_is, else_within, frames_split, reverse_set_last}
use Rattle.wasmparser_bodies.proofs.Places.{placed_before}
use Rattle.wasmparser_bodies.proofs.stacks.Stacks.else_.Goals as goal

pub invariant_of-self-2 : goal.invariant_of-self-2
invariant_of-self-2 c =
    let i = c.self.inside in
    let f = c.in-Some.frame.now in
    let g : Frame = record f { kind = kinds.Else; unreachable = false } in
    let lt : 0 < length i.frames.items = omega (arith, c.in-Some.ensures.item.3.0, ap length c.deref.ensures.value) in
    let n : c.len-last.result - 1 ≡ length i.frames.items - 1 = omega (arith, c.len-last.ensures, i.frames.ok.0) in
    let at : f ≡ get_or i.frames.items (length i.frames.items - 1) f = rw c.deref.ensures.value at c.in-Some.ensures.item.1 in
    let split : reverse i.frames.items ≡ f ∷ reverse (take (length i.frames.items - 1) i.frames.items) = frames_split i.frames.items f lt at in
    let w = subst (λ l. AreWithin l (length i.operands.items) (length i.assigned.items)) split c.self.invariant.heights in
    let frames : reverse (set i.frames.items (length i.frames.items - 1) g) ≡ g ∷ reverse (take (length i.frames.items - 1) i.frames.items) = reverse_set_last i.frames.items (length i.frames.items - 1) g (omega arith) in
    record {
      heights = rw (n, frames, c.truncate.ensures.items) (else_within (reverse (take (length i.frames.items - 1) i.frames.items)) f g i.operands.items c.replace_tail.new.operands.items (all_of c.args.params.now) i.assigned.items w refl c.in_ok-replace_tail.ensures.ok);
      places = rw c.truncate.ensures.items (placed_before i.assigned.items i.places.items f.init_height c.self.invariant.places);
    }

pub returns-clause-ok : goal.returns-clause-ok
returns-clause-ok c =
    let i = c.self.inside in
    let f = c.in-Some.frame.now in
    let g : Frame = record f { kind = kinds.Else; unreachable = false } in
    let lt : 0 < length i.frames.items = omega (arith, c.in-Some.ensures.item.3.0, ap length c.deref.ensures.value) in
    let n : c.len-last.result - 1 ≡ length i.frames.items - 1 = omega (arith, c.len-last.ensures, i.frames.ok.0) in
    let at : f ≡ get_or i.frames.items (length i.frames.items - 1) f = rw c.deref.ensures.value at c.in-Some.ensures.item.1 in
    let split : reverse i.frames.items ≡ f ∷ reverse (take (length i.frames.items - 1) i.frames.items) = frames_split i.frames.items f lt at in
    let w = subst (λ l. AreWithin l (length i.operands.items) (length i.assigned.items)) split c.self.invariant.heights in
    let frames : reverse (set i.frames.items (length i.frames.items - 1) g) ≡ g ∷ reverse (take (length i.frames.items - 1) i.frames.items) = reverse_set_last i.frames.items (length i.frames.items - 1) g (omega arith) in
    rw (← c.self.view_is, n, frames, c.truncate.ensures.items) (else_is (reverse (take (length i.frames.items - 1) i.frames.items)) f g i.operands.items (map operand c.replace_tail.new.operands.items) c.args.params.now i.assigned.items w refl c.in_ok-replace_tail.ensures.ok
    ∙ ap (λ l. else_with (map val_type c.args.params.now) (view_of l (map operand i.operands.items) i.assigned.items)) (sym split))
