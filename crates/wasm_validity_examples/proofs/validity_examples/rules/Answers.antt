use Rattle.std.proofs.Common.{refl, arith}
use Rattle.wasm_validity_examples.proofs.validity_examples.rules.Goals as goal

pub returns : goal.returns
returns c = record {
  kept = λ features. (
    record {
      rules = record {
        allowed = refl;
        in_range = tt;
        each = (record { earlier = tt; extends = record { at_most_one = omega arith; each = tt }; continues = tt }, tt);
      };
      small = tt;
    },
    (refl, (refl, tt)),
  );
  early = λ features index groups k. let f = k.0 in absurd cc;
}
