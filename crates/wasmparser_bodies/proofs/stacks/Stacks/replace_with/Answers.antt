use Rattle.std.proofs.Common.{◌≡◌, ◌+◌, ◌-◌, ◌∷◌, ◌++◌, [], ◌∙◌, refl, length, map, reverse, arith}
use Rattle.std.proofs.lemmas.List.{reverse-append}
use Rattle.wasmparser_bodies.specs.StackViews.{all_of, base_of, operand}
use Rattle.wasmparser_bodies.proofs.Stacked.{base_within, replaced, replaced_within}
use Rattle.wasmparser_bodies.proofs.stacks.Stacks.replace_with.Goals as goal

pub invariant_of-self-2 : goal.invariant_of-self-2
invariant_of-self-2 c =
    let i = c.self.inside in
    let fs = reverse i.frames.items in
    let at = c.start_of-at.result in
    let n : c.len.result ≡ length i.operands.items = omega (arith, c.len.ensures, i.operands.ok.0) in
    let is : at ≡ base_of (reverse i.frames.items) + (length i.operands.items - base_of (reverse i.frames.items) - c.args.count) = rw (n, c.deref.ensures.value) at c.start_of-at.ensures in
    let le = base_within (reverse i.frames.items) (length i.operands.items) (length i.assigned.items) c.self.invariant.heights in
    record {
      heights = replaced_within fs i.operands.items c.replace_tail_with.new.operands.items (all_of c.args.types.now ++ operand c.args.last.now ∷ []) at (length i.assigned.items) c.self.invariant.heights (omega arith) (omega arith) c.in_ok-replace_tail_with.ensures.ok;
      places = c.self.invariant.places;
    }

pub returns-clause-ok : goal.returns-clause-ok
returns-clause-ok c =
    let i = c.self.inside in
    let at = c.start_of-at.result in
    let n : c.len.result ≡ length i.operands.items = omega (arith, c.len.ensures, i.operands.ok.0) in
    let is : at ≡ base_of (reverse i.frames.items) + (length i.operands.items - base_of (reverse i.frames.items) - c.args.count) = rw (n, c.deref.ensures.value) at c.start_of-at.ensures in
    rw (← c.self.view_is) (replaced (reverse i.frames.items) i.operands.items (map operand c.replace_tail_with.new.operands.items) (all_of c.args.types.now ++ operand c.args.last.now ∷ []) at c.args.count i.assigned.items c.self.invariant.heights is c.in_ok-replace_tail_with.ensures.ok
    ∙ rw (reverse-append (all_of c.args.types.now) (operand c.args.last.now ∷ [])) refl)
