use Rattle.std.proofs.Common.{◌≡◌, ◌∙◌, ◌<◌, ◌≤◌, ◌+◌, ◌-◌, ◌++◌, ◌∷◌, [], ap, sym, subst, length, map, reverse, arith, false}
use Rattle.std.proofs.Math.ListN.{set}
use Rattle.std.proofs.lemmas.List.{length-append}
use Rattle.wasm_bodies.specs.BodyContext.{is_among}
use Rattle.wasmparser_bodies.specs.StackChanges.{at_list, marked}
use Rattle.wasmparser_bodies.specs.StackViews.{ArePlaced, all_of, base_of, operand}
use Rattle.wasmparser_bodies.proofs.Places.{placed}
use Rattle.wasmparser_bodies.proofs.Stacked.{base_within, more_assigned, replaced, replaced_within, within_more}
use Rattle.wasmparser_bodies.proofs.stacks.Stacks.replace_and_assign.Goals as goal

pub invariant_of-self-2 : goal.invariant_of-self-2
invariant_of-self-2 c =
    let i = c.self.inside in
    let x = c.args.local in
    let fs = reverse i.frames.items in
    let at = c.start_of-at.result in
    let new : c.push_reserved.new.self.items ≡ i.assigned.items ++ x ∷ [] = c.push_reserved.ensures.items ∙ ap (λ l. l ++ x ∷ []) c.in_ok-reserve.ensures.items in
    let more : length i.assigned.items ≤ length c.push_reserved.new.self.items = omega (arith, ap length new, length-append i.assigned.items (x ∷ [])) in
    let no_x : is_among i.assigned.items x ≡ false = ap (λ v. is_among v.now.assigned x) c.self.view_is ∙ sym c.if-is_assigned.ensures in
    let room : x < length c.grow.new.places.items = omega (arith, c.in_ok-grow.ensures.room, c.grow.new.places.ok.0) in
    let last : c.len-place.result ≡ length i.assigned.items = omega (arith, c.len-place.ensures, ap length c.in_ok-reserve.ensures.items, c.reserve.new.self.ok.0) in
    let p = placed i.assigned.items c.grow.new.places.items i.places.items x c.self.invariant.places c.in_ok-grow.ensures.same no_x room in
    let n : c.len.result ≡ length i.operands.items = omega (arith, c.len.ensures, i.operands.ok.0) in
    let is : at ≡ base_of fs + (length i.operands.items - base_of fs - c.args.count) = rw (n, c.deref.ensures.value) at c.start_of-at.ensures in
    let le = base_within fs (length i.operands.items) (length i.assigned.items) c.self.invariant.heights in
    let heights = replaced_within fs i.operands.items c.replace_tail.new.operands.items (all_of c.args.types.now) at (length i.assigned.items) c.self.invariant.heights (omega arith) (omega arith) c.in_ok-replace_tail.ensures.ok in
    record {
      heights = within_more fs (length c.replace_tail.new.operands.items) _ _ more heights;
      places = subst (λ l. ArePlaced l (set c.grow.new.places.items x c.len-place.result)) (sym new) (subst (λ k. ArePlaced (i.assigned.items ++ x ∷ []) (set c.grow.new.places.items x k)) (sym last) p);
    }

pub returns-clause-ok : goal.returns-clause-ok
returns-clause-ok c =
    let i = c.self.inside in
    let x = c.args.local in
    let fs = reverse i.frames.items in
    let at = c.start_of-at.result in
    let new : c.push_reserved.new.self.items ≡ i.assigned.items ++ x ∷ [] = c.push_reserved.ensures.items ∙ ap (λ l. l ++ x ∷ []) c.in_ok-reserve.ensures.items in
    let no_x : is_among i.assigned.items x ≡ false = ap (λ v. is_among v.now.assigned x) c.self.view_is ∙ sym c.if-is_assigned.ensures in
    let n : c.len.result ≡ length i.operands.items = omega (arith, c.len.ensures, i.operands.ok.0) in
    let is : at ≡ base_of fs + (length i.operands.items - base_of fs - c.args.count) = rw (n, c.deref.ensures.value) at c.start_of-at.ensures in
    let le = base_within fs (length i.operands.items) (length i.assigned.items) c.self.invariant.heights in
    let heights = replaced_within fs i.operands.items c.replace_tail.new.operands.items (all_of c.args.types.now) at (length i.assigned.items) c.self.invariant.heights (omega arith) (omega arith) c.in_ok-replace_tail.ensures.ok in
    let first = replaced fs i.operands.items (map operand c.replace_tail.new.operands.items) (all_of c.args.types.now) at c.args.count i.assigned.items c.self.invariant.heights is c.in_ok-replace_tail.ensures.ok in
    let second = more_assigned fs (map operand c.replace_tail.new.operands.items) i.assigned.items x (length c.replace_tail.new.operands.items) heights no_x in
    rw (← c.self.view_is, new) (second ∙ ap (λ m. at_list (marked x m.now) m) first)
