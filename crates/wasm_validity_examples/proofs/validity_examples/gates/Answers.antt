use Rattle.std.proofs.Common.{refl, arith}
use Rattle.wasm_validity_examples.proofs.validity_examples.gates.Goals as goal

pub returns : goal.returns
returns c = record {
  results = (
    record {
      rules = record {
        allowed = refl;
        in_range = tt;
        each = (record { earlier = tt; extends = record { at_most_one = omega arith; each = tt }; continues = tt }, tt);
      };
      small = tt;
    },
    tt,
  );
  without_multi_value = λ k. let f = k.0.rules.allowed in absurd cc;
  not_final = (
    record {
      rules = record {
        allowed = refl;
        in_range = tt;
        each = (record { earlier = tt; extends = record { at_most_one = omega arith; each = tt }; continues = tt }, tt);
      };
      small = tt;
    },
    tt,
  );
  without_gc = λ k. let f = k.0.rules.allowed in absurd cc;
}
