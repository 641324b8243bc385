use Rattle.std.proofs.Common.{map, ap, ◌∙◌, arith}
use Rattle.std.proofs.lemmas.List.{map_push}
use Rattle.wasm_smith_definitions.specs.Items.{made_body}
use Rattle.wasm_smith_types.proofs.GrowLaws.{times_goes_on}
use Rattle.wasm_smith_module.proofs.CodeLaws.{code_begins, code_ends, raw_more}
use Rattle.wasm_smith_module.specs.Code.{body_at, code_at}
use Rattle.wasm_smith_module.specs.Contents.{raw_total}
use Rattle.wasm_smith_module.proofs.code.code.Goals as goal

pub loop-init : goal.loop-init
loop-init c = rw c.new-bodies.ensures.items (record {
  drawn = code_begins c.args.allow_raw c.args.offers.now c.args.bound c.args.count c.args.unstructured.now;
  taken = omega arith;
  within = omega arith;
})

pub loop-preserved : goal.loop-preserved
loop-preserved c =
    let pushed = ap (map made_body) c.in_ok-push_owned.ensures ∙ map_push made_body _ _ in
    record {
      drawn =
          rw pushed
          (times_goes_on (body_at c.args.allow_raw c.args.offers.now c.args.bound) _ c.args.count c.loop.counter c.loop.unstructured c.body.new.unstructured _
          (code_at c.args.allow_raw c.args.offers.now c.args.bound c.args.count c.args.unstructured.now) c.loop-test.true c.in_ok-own.ensures.drawn c.loop.invariant.drawn);
      taken = omega arith;
      within = omega (arith, ap raw_total pushed, raw_more (map made_body c.loop.bodies.items) (made_body c.in_ok-own.own), c.loop.invariant.within, c.in_ok-own.ensures.within);
    }

pub returns-clause-drawn : goal.returns-clause-drawn
returns-clause-drawn c =
    code_ends c.args.allow_raw c.args.offers.now c.args.bound c.args.count c.loop.counter c.args.unstructured.now c.loop.unstructured _ c.loop-test.false c.loop.invariant.drawn
