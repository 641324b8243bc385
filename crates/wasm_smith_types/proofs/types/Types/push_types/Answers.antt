use Rattle.std.proofs.Common.{arith}
use Rattle.wasm_smith_types.proofs.MakingLaws.{adds_none, adds_one_more, some_left, less_left, none_left}
use Rattle.wasm_smith_types.proofs.types.Types.push_types.Goals as goal

pub loop-init : goal.loop-init
loop-init c = record {
  valid = adds_none c.args.offers.now c.args.end c.args.self.now c.requires.candidates;
  drawn = some_left c.args.offers.now c.args.end c.args.count c.args.self.now c.args.unstructured.now;
  taken = omega arith;
}

pub loop-preserved : goal.loop-preserved
loop-preserved c = record {
  valid =
      adds_one_more c.args.offers.now c.args.end c.loop.counter c.args.self.now c.loop.self c.push_type.new.self c.loop.invariant.valid c.in_ok-push_type.ensures.valid;
  drawn =
      less_left c.args.offers.now c.args.end c.args.count c.loop.counter _ c.args.self.now c.loop.self c.push_type.new.self c.loop.unstructured c.push_type.new.unstructured c.loop-test.true c.loop.invariant.drawn c.in_ok-push_type.ensures.drawn;
  taken = omega arith;
}

pub returns-clause-drawn : goal.returns-clause-drawn
returns-clause-drawn c =
    none_left c.args.offers.now c.args.end c.args.count c.loop.counter _ c.args.self.now c.loop.self c.loop.unstructured c.loop-test.false c.loop.invariant.drawn
