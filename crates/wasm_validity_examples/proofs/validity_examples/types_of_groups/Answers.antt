use Rattle.std.proofs.Common.{refl, arith}
use Rattle.wasm_validity_examples.proofs.SmallSections.{pair_passes_none}
use Rattle.wasm_validity_examples.proofs.validity_examples.types_of_groups.Goals as goal

pub returns : goal.returns
returns c = record {
  second = λ features gc types. record {
    rules = (
      record {
        rules = record {
          allowed = rw (gc, types) refl;
          in_range = tt;
          each = (
            record { earlier = tt; extends = record { at_most_one = omega arith; each = tt }; continues = tt },
            (record { earlier = tt; extends = record { at_most_one = omega arith; each = tt }; continues = tt }, tt),
          );
        };
        small = tt;
      },
      (refl, (tt, tt)),
    );
    limits = (
      record { numbers = refl; types = pair_passes_none },
      (record { numbers = refl; types = λ limit p. p }, (record { numbers = refl; types = λ limit p. p }, tt)),
    );
  };
  array = λ features k. let f = k.1.0 in absurd cc;
  continuation = λ features k. let f = k.1.1.0 in absurd cc;
}
