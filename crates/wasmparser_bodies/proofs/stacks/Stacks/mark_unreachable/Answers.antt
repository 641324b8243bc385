use Rattle.std.proofs.Common.{◌≡◌, ◌-◌, ◌<◌, ◌∷◌, ◌∙◌, ap, refl, sym, subst, length, map, reverse, take, get_or, arith, true}
use Rattle.std.proofs.Math.ListN.{set}
use Rattle.wasm_bodies.specs.Operands.{nothing_known}
use Rattle.wasmparser_bodies.specs.StackChanges.{at_list}
use Rattle.wasmparser_bodies.specs.StackViews.{AreWithin, operand, state_of, view_of}
use Rattle.wasmparser_bodies.specs.declared.frame.Frame.{Frame}
use Rattle.wasmparser_bodies.proofs.Stacked.{frames_split, marked, marked_within, reverse_set_last, some_frame}
use Rattle.wasmparser_bodies.proofs.stacks.Stacks.mark_unreachable.Goals as goal

pub invariant_of-self : goal.invariant_of-self
invariant_of-self c =
    let i = c.self.inside in
    let f = c.index-frame.result.now in
    let g : Frame = record f { unreachable = true } in
    let lt : 0 < length i.frames.items = some_frame i.frames.items (map operand i.operands.items) i.assigned.items (λ h. c.requires (sym (ap (λ m. m.frames) c.self.view_is) ∙ h)) in
    let n : c.len-last.result - 1 ≡ length i.frames.items - 1 = omega (arith, c.len-last.ensures, i.frames.ok.0) in
    let at : f ≡ get_or i.frames.items (length i.frames.items - 1) f = rw n at c.index-frame.ensures in
    let split : reverse i.frames.items ≡ f ∷ reverse (take (length i.frames.items - 1) i.frames.items) = frames_split i.frames.items f lt at in
    let w = subst (λ l. AreWithin l (length i.operands.items) (length i.assigned.items)) split c.self.invariant.heights in
    let frames : reverse (set i.frames.items (length i.frames.items - 1) g) ≡ g ∷ reverse (take (length i.frames.items - 1) i.frames.items) = reverse_set_last i.frames.items (length i.frames.items - 1) g (omega arith) in
    record {
      heights = rw (n, frames, c.truncate.ensures.items) (marked_within (reverse (take (length i.frames.items - 1) i.frames.items)) f g i.operands.items (length i.assigned.items) w refl);
      places = c.self.invariant.places;
    }

pub returns : goal.returns
returns c =
    let i = c.self.inside in
    let f = c.index-frame.result.now in
    let g : Frame = record f { unreachable = true } in
    let lt : 0 < length i.frames.items = some_frame i.frames.items (map operand i.operands.items) i.assigned.items (λ h. c.requires (sym (ap (λ m. m.frames) c.self.view_is) ∙ h)) in
    let n : c.len-last.result - 1 ≡ length i.frames.items - 1 = omega (arith, c.len-last.ensures, i.frames.ok.0) in
    let at : f ≡ get_or i.frames.items (length i.frames.items - 1) f = rw n at c.index-frame.ensures in
    let split : reverse i.frames.items ≡ f ∷ reverse (take (length i.frames.items - 1) i.frames.items) = frames_split i.frames.items f lt at in
    let w = subst (λ l. AreWithin l (length i.operands.items) (length i.assigned.items)) split c.self.invariant.heights in
    let frames : reverse (set i.frames.items (length i.frames.items - 1) g) ≡ g ∷ reverse (take (length i.frames.items - 1) i.frames.items) = reverse_set_last i.frames.items (length i.frames.items - 1) g (omega arith) in
    rw (← c.self.view_is, n, frames, c.truncate.ensures.items) (marked (reverse (take (length i.frames.items - 1) i.frames.items)) f g i.operands.items i.assigned.items w refl
    ∙ ap (λ l. at_list (nothing_known (state_of l (map operand i.operands.items) i.assigned.items)) (view_of l (map operand i.operands.items) i.assigned.items)) (sym split))
