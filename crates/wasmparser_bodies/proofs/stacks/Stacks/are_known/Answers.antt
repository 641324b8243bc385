use Rattle.std.proofs.Common.{◌≡◌, ◌+◌, ◌-◌, ◌≤◌, ap, drop, length, map, reverse, sym, take, ◌∙◌, subst, arith}
use Rattle.std.specs.List.{between}
use Rattle.wasmparser_types.specs.ValTypes.{val_type}
use Rattle.std.proofs.lemmas.List.{length-map}
use Rattle.wasmparser_bodies.specs.StackViews.{all_of, base_of, operand}
use Rattle.wasmparser_bodies.proofs.Stacked.{base_within}
use Rattle.wasmparser_bodies.proofs.Taking.{above_map, all_known_taken, reverse-same}
use Rattle.wasmparser_bodies.proofs.stacks.Stacks.are_known.Goals as goal

-- the operands that are asked of
part : (c : goal.After-are_of) → take (length c.args.types.now) (drop c.args.depth c.args.self.now.now.known) ≡ reverse (map operand (between (c.base-base.result + c.saturating_sub-left.result - length c.args.types.now) (c.base-base.result + c.saturating_sub-left.result) c.self.inside.operands.items))
part c =
    let i = c.self.inside in
    let b = base_of (reverse i.frames.items) in
    let d = c.args.depth in
    let n = length c.args.types.now in
    let old = i.operands.items in
    let known : c.args.self.now.now.known ≡ reverse (drop (base_of (reverse i.frames.items)) (map operand i.operands.items)) = sym (ap (λ m. m.now.known) c.self.view_is) in
    let base : c.base-base.result ≡ base_of (reverse i.frames.items) = rw c.deref.ensures.value at c.base-base.ensures in
    let left : c.saturating_sub-left.result ≡ length i.operands.items - base_of (reverse i.frames.items) - c.args.depth = omega (arith, c.saturating_sub-left.ensures, c.len.ensures, i.operands.ok.0) in
    let end : base_of (reverse i.frames.items) + (length i.operands.items - base_of (reverse i.frames.items) - c.args.depth) ≡ c.base-base.result + c.saturating_sub-left.result = omega arith in
    let le : base_of (reverse i.frames.items) ≤ length i.operands.items = base_within (reverse i.frames.items) (length i.operands.items) (length i.assigned.items) c.self.invariant.heights in
    let few : length c.args.types.now ≤ length i.operands.items - base_of (reverse i.frames.items) - c.args.depth = omega arith in
    ap (λ l. take n (drop d l)) known ∙ subst (λ e. take n (drop d (reverse (drop b (map operand old)))) ≡ reverse (map operand (between (e - n) e old))) end (above_map operand old b d n le few)

pub returns-clause-exact : goal.returns-clause-exact
returns-clause-exact c =
    let is = rw c.deref-2.ensures.value at c.are_of.ensures in
    (λ h. part c ∙ ap reverse (is.0 h), λ e. is.1 (reverse-same _ _ (sym (part c) ∙ e)))

pub returns-clause-taken : goal.returns-clause-taken
returns-clause-taken c = λ h items itself.
    let is = rw c.deref-2.ensures.value at c.are_of.ensures in
    let n : length (map val_type c.args.types.now) ≡ length c.args.types.now = length-map c.args.types.now val_type in
    let e : take (length (map val_type c.args.types.now)) (drop c.args.depth c.args.self.now.now.known) ≡ reverse (all_of c.args.types.now) = rw n (part c ∙ ap reverse (is.0 h)) in
    rw n at (all_known_taken items itself (map val_type c.args.types.now) c.args.depth c.args.self.now.now e)
