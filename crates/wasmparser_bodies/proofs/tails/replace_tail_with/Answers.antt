use Rattle.std.proofs.Common.{◌≡◌, ◌+◌, length, arith}
use Rattle.wasmparser_bodies.proofs.TailLaws.{written_with}
use Rattle.wasmparser_bodies.proofs.tails.replace_tail_with.Goals as goal

pub returns-clause-ok : goal.returns-clause-ok
returns-clause-ok c =
    let sized = c.resize.new.self in
    let len : length sized.items ≡ c.args.at + length c.args.types.now + 1 = omega (arith, c.in_ok-resize.ensures.len, sized.ok.0) in
    written_with c.write_types.new.operands.items sized.items c.args.operands.now.items c.args.at c.args.types.now _ c.args.last.now c.write_types.ensures c.in_ok-resize.ensures.items len c.requires
