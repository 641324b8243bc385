use Rattle.std.proofs.Common.{◌<◌, arith, subst, sym}
use Rattle.wasmparser_rec_groups.specs.Rules.{IsWithinDepth, KeepsRules}
use Rattle.wasmparser_type_list.proofs.Agreement.{range_of}
use Rattle.wasmparser_rec_groups.proofs.GroupLaws.{whole_group, known_id, one_more, whole}
use Rattle.wasmparser_rec_groups.proofs.rules.check_rec_group.Goals as goal

pub overflow_cast-index : goal.overflow_cast-index
overflow_cast-index c =
    let ends = range_of c.args.types.now c.args.group c.index-elements.result.now c.requires.agree c.index-elements.ensures in
    omega (arith, ends.1, c.loop-index-test.true, c.index-index-end.ensures)

pub check_depth-requires-clause-known : goal.check_depth-requires-clause-known
check_depth-requires-clause-known c =
    let tables = c.args.types.now in
    let before : c.from_index.result < c.index-elements.result.now.end = omega (arith, c.from_index.ensures, c.loop-index-test.true, c.index-index-end.ensures) in
    known_id tables c.args.group c.index-elements.result.now c.from_index.result c.requires.agree c.index-elements.ensures before

pub loop-index-preserved : goal.loop-index-preserved
loop-index-preserved c =
    let tables = c.args.types.now in
    one_more (IsWithinDepth tables) c.index-index.result c.loop-index.index c.loop-index.invariant (subst (IsWithinDepth tables) c.from_index.ensures c.in_ok-check_depth.ensures.within)

pub overflow_cast-index-in-loop-index-2 : goal.overflow_cast-index-in-loop-index-2
overflow_cast-index-in-loop-index-2 c =
    let ends = range_of c.args.types.now c.args.group c.index-elements.result.now c.requires.agree c.index-elements.ensures in
    omega (arith, ends.1, c.loop-index-2-test.true, c.index-index-end-2.ensures)

pub check_rules-requires-clause-known : goal.check_rules-requires-clause-known
check_rules-requires-clause-known c =
    let tables = c.args.types.now in
    let before : c.from_index-in-loop-index-2.result < c.index-elements.result.now.end = omega (arith, c.from_index-in-loop-index-2.ensures, c.loop-index-2-test.true, c.index-index-end-2.ensures) in
    known_id tables c.args.group c.index-elements.result.now c.from_index-in-loop-index-2.result c.requires.agree c.index-elements.ensures before

pub loop-index-2-preserved : goal.loop-index-2-preserved
loop-index-2-preserved c =
    let tables = c.args.types.now in
    one_more (KeepsRules tables) c.index-index-2.result c.loop-index-2.index c.loop-index-2.invariant (subst (KeepsRules tables) c.from_index-in-loop-index-2.ensures c.in_ok-check_rules.ensures.kept)

pub returns-clause-kept : goal.returns-clause-kept
returns-clause-kept c =
    let range = c.index-elements.result.now in
    let rules = whole (KeepsRules c.args.types.now) range c.index-index-2.result c.loop-index-2.index (sym c.index-index-2.ensures)
    (omega (arith, c.loop-index-2-test.false, c.index-index-end-2.ensures)) c.loop-index-2.invariant in
    let depth = whole (IsWithinDepth c.args.types.now) range c.index-index.result c.loop-index.index (sym c.index-index.ensures)
    (omega (arith, c.loop-index-test.false, c.index-index-end.ensures)) c.loop-index.invariant in
    whole_group c.args.types.now c.args.group range c.index-elements.ensures rules depth
