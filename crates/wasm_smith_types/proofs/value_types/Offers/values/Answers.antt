use Rattle.std.proofs.Common.{ap, ◌∙◌, arith}
use Rattle.std.proofs.lemmas.List.{map_push}
use Rattle.std.specs.Prelude.{map}
use Rattle.wasm_core_types.specs.CoreTypes.{val_type}
use Rattle.wasm_smith_types.proofs.GrowLaws.{grow_step, grow_ends}
use Rattle.wasm_smith_types.proofs.value_types.Offers.values.Goals as goal

pub grow-preserved : goal.grow-preserved
grow-preserved c = record {
  drawn =
      grow_step _ _ _ _ _ _ _ _ _ _ _ _ (ap (map val_type) c.in_ok-push.ensures.items ∙ map_push val_type _ _) c.in_ok-push.ensures.len
      (rw c.len.ensures at c.grow-test.ensures.exact)
      c.value.ensures.drawn c.grow.invariant.drawn;
  taken = omega arith;
}

pub returns-clause-drawn : goal.returns-clause-drawn
returns-clause-drawn c = grow_ends _ _ _ _ _ _ _ _ (rw c.len.ensures at c.grow-test.ensures.exact) c.grow.invariant.drawn
