use Rattle.std.proofs.Common.{◌≡◌, ◌∙◌, ◌<◌, ◌≤◌, ap, length, get_or, arith}
use Rattle.std.proofs.lemmas.List.{get_or_default}
use Rattle.wasmparser_bodies.proofs.Places.{found, not_found}
use Rattle.wasmparser_bodies.proofs.stacks.Stacks.is_assigned.Goals as goal

pub returns-then-place-len : goal.returns-then-place-len
returns-then-place-len c =
    let i = c.self.inside in
    let p = c.place_of-place.result in
    let v = c.index.result.now in
    let lt : p < length i.assigned.items = omega (arith, i.assigned.ok.0, c.len.ensures) in
    let at : p ≡ get_or i.places.items c.args.local 0 = c.place_of-place.ensures ∙ ap (λ l. get_or l c.args.local 0) c.deref.ensures.value in
    let e : v ≡ get_or i.assigned.items p 0 = c.index.ensures ∙ get_or_default i.assigned.items p v 0 lt in
    rw (← c.self.view_is) (found i.assigned.items i.places.items c.args.local v p c.self.invariant.places at lt e)

pub returns-else-place-len : goal.returns-else-place-len
returns-else-place-len c =
    let i = c.self.inside in
    let p = c.place_of-place.result in
    let le : length i.assigned.items ≤ p = omega (arith, i.assigned.ok.0, c.len.ensures) in
    let at : p ≡ get_or i.places.items c.args.local 0 = c.place_of-place.ensures ∙ ap (λ l. get_or l c.args.local 0) c.deref.ensures.value in
    rw (← c.self.view_is) (not_found i.assigned.items i.places.items c.args.local p c.self.invariant.places at le)
