use Rattle.std.proofs.Common.{refl, arith}
use Rattle.wasm_validity_examples.proofs.SmallSections.{group_passes_none}
use Rattle.wasm_validity_examples.proofs.validity_examples.one_function.Goals as goal

pub returns : goal.returns
returns c = record {
  valid = λ features. record {
    rules = (
      record {
        rules = record {
          allowed = refl;
          in_range = tt;
          each = (record { earlier = tt; extends = record { at_most_one = omega arith; each = tt }; continues = tt }, tt);
        };
        small = tt;
      },
      (refl, (tt, tt)),
    );
    limits = (
      record { numbers = refl; types = group_passes_none },
      (record { numbers = refl; types = λ limit p. p }, (record { numbers = refl; types = λ limit p. p }, tt)),
    );
  };
  no_type = λ features index body v. let f = v.rules.0 in absurd cc;
  other_type = λ features body v. let f = v.rules.1.0 in absurd cc;
}
