use Rattle.std.proofs.Common.{◌++◌, ◌∙◌, ap, sym, arith}
use Rattle.wasm_gen_view.proofs.KnownGroups.{range_known}
use Rattle.wasm_gen_view.proofs.known_references.KnownReferences.sub_types.Goals as goal

pub unreachable-requires : goal.unreachable-requires
unreachable-requires c =
    let first = c.args.self.now.group.now.first in
    let count = c.args.self.now.group.now.count in
    let whole = sym c.loop-id.invariant.left ∙ ap (λ ids. c.loop-id.yielded ++ ids) c.in-Some.ensures.steps in
    let below = range_known first count c.loop-id.yielded c.next.new.self c.in-Some.id whole in
    let no = c.in_default.ensures.all (omega (arith, below, c.requires.known)) in
    absurd cc
