use Rattle.std.proofs.Common.{◌≡◌, ◌+◌, ◌-◌, ◌∷◌, ◌++◌, [], ◌∙◌, ap, refl, sym, subst, length, map, reverse, arith, false}
use Rattle.std.proofs.lemmas.List.{reverse-append}
use Rattle.wasmparser_bodies.specs.StackViews.{AreWithin, all_of, base_of, operand, view_of}
use Rattle.wasmparser_bodies.specs.declared.frame.Frame.{Frame}
use Rattle.wasmparser_bodies.proofs.Stacked.{base_within, entered, entered_within}
use Rattle.wasmparser_bodies.proofs.stacks.Stacks.enter.Goals as goal

pub invariant_of-self-2 : goal.invariant_of-self-2
invariant_of-self-2 c =
    let i = c.self.inside in
    let at = c.start_of-at.result in
    let f : Frame = record { kind = c.args.kind; block_type = c.args.block_type; height = c.start_of-at.result; unreachable = false; init_height = c.len-2.result } in
    let n : c.len.result ≡ length i.operands.items = omega (arith, c.len.ensures, i.operands.ok.0) in
    let is : c.start_of-at.result ≡ base_of (reverse i.frames.items) + (length i.operands.items - base_of (reverse i.frames.items) - c.args.count) = rw (n, c.deref.ensures.value) at c.start_of-at.ensures in
    let le = base_within (reverse i.frames.items) (length i.operands.items) (length i.assigned.items) c.self.invariant.heights in
    let k : c.len-2.result ≡ length i.assigned.items = omega (arith, c.len-2.ensures, i.assigned.ok.0) in
    let frames : reverse c.push_reserved.new.self.items ≡ f ∷ reverse i.frames.items = ap reverse (c.push_reserved.ensures.items ∙ ap (λ l. l ++ f ∷ []) c.in_ok-reserve.ensures.items) ∙ reverse-append i.frames.items (f ∷ []) in
    record {
      heights = subst (λ l. AreWithin l (length c.replace_tail.new.operands.items) (length i.assigned.items)) (sym frames) (entered_within (reverse i.frames.items) f i.operands.items c.replace_tail.new.operands.items (all_of c.args.params.now) (length i.assigned.items) c.self.invariant.heights (omega arith) (omega arith) k c.in_ok-replace_tail.ensures.ok);
      places = c.self.invariant.places;
    }

pub returns-clause-ok : goal.returns-clause-ok
returns-clause-ok c =
    let i = c.self.inside in
    let f : Frame = record { kind = c.args.kind; block_type = c.args.block_type; height = c.start_of-at.result; unreachable = false; init_height = c.len-2.result } in
    let n : c.len.result ≡ length i.operands.items = omega (arith, c.len.ensures, i.operands.ok.0) in
    let is : c.start_of-at.result ≡ base_of (reverse i.frames.items) + (length i.operands.items - base_of (reverse i.frames.items) - c.args.count) = rw (n, c.deref.ensures.value) at c.start_of-at.ensures in
    let k : c.len-2.result ≡ length i.assigned.items = omega (arith, c.len-2.ensures, i.assigned.ok.0) in
    let frames : reverse c.push_reserved.new.self.items ≡ f ∷ reverse i.frames.items = ap reverse (c.push_reserved.ensures.items ∙ ap (λ l. l ++ f ∷ []) c.in_ok-reserve.ensures.items) ∙ reverse-append i.frames.items (f ∷ []) in
    rw (← c.self.view_is) (ap (λ l. view_of l (map operand c.replace_tail.new.operands.items) i.assigned.items) frames
    ∙ entered (reverse i.frames.items) f i.operands.items (map operand c.replace_tail.new.operands.items) c.args.params.now c.args.count i.assigned.items c.self.invariant.heights is k refl c.in_ok-replace_tail.ensures.ok)
