use Rattle.std.proofs.Common.{◌≡◌, ◌∙◌, ◌<◌, ◌≤◌, ◌++◌, ◌∷◌, [], ap, sym, subst, length, map, reverse, arith, false}
use Rattle.std.proofs.Math.ListN.{set}
use Rattle.std.proofs.lemmas.List.{length-append}
use Rattle.wasm_bodies.specs.BodyContext.{is_among}
use Rattle.wasmparser_bodies.specs.StackViews.{ArePlaced, operand}
use Rattle.wasmparser_bodies.proofs.Places.{placed}
use Rattle.wasmparser_bodies.proofs.Stacked.{more_assigned, within_more}
use Rattle.wasmparser_bodies.proofs.stacks.Stacks.assign.Goals as goal

pub invariant_of-self-2 : goal.invariant_of-self-2
invariant_of-self-2 c =
    let i = c.self.inside in
    let x = c.args.local in
    let new = c.in_ok-push.ensures.items in
    let more : length i.assigned.items ≤ length c.push.new.self.items = omega (arith, ap length new, length-append i.assigned.items (x ∷ [])) in
    let n : is_among i.assigned.items x ≡ false = ap (λ v. is_among v.now.assigned x) c.self.view_is ∙ sym c.if-is_assigned.ensures in
    let room : x < length c.grow.new.places.items = omega (arith, c.in_ok-grow.ensures.room, c.grow.new.places.ok.0) in
    let at : c.len-place.result ≡ length i.assigned.items = omega (arith, c.len-place.ensures, i.assigned.ok.0) in
    let p = placed i.assigned.items c.grow.new.places.items i.places.items x c.self.invariant.places c.in_ok-grow.ensures.same n room in
    record {
      heights = within_more (reverse i.frames.items) (length i.operands.items) _ _ more c.self.invariant.heights;
      places = subst (λ l. ArePlaced l (set c.grow.new.places.items x c.len-place.result)) (sym new) (subst (λ k. ArePlaced (i.assigned.items ++ x ∷ []) (set c.grow.new.places.items x k)) (sym at) p);
    }

pub returns-clause-ok : goal.returns-clause-ok
returns-clause-ok c =
    let i = c.self.inside in
    let n : is_among i.assigned.items c.args.local ≡ false = ap (λ v. is_among v.now.assigned c.args.local) c.self.view_is ∙ sym c.if-is_assigned.ensures in
    rw (← c.self.view_is, c.in_ok-push.ensures.items) (more_assigned (reverse i.frames.items) (map operand i.operands.items) i.assigned.items c.args.local (length i.operands.items) c.self.invariant.heights n)
