use Rattle.std.proofs.Common.{refl, arith}
use Rattle.wasm_validity_examples.proofs.SmallSections.{group_passes_none}
use Rattle.wasm_validity_examples.proofs.validity_examples.many_sections.Goals as goal

pub returns : goal.returns
returns c = record {
  valid = λ features exceptions. record {
    rules = (
      record {
        rules = record {
          allowed = refl;
          in_range = tt;
          each = (record { earlier = tt; extends = record { at_most_one = omega arith; each = tt }; continues = tt }, tt);
        };
        small = tt;
      },
      (refl, (refl, (exceptions, (rw exceptions refl, (refl, (tt, tt)))))),
    );
    limits = (
      record { numbers = refl; types = group_passes_none },
      (
        record { numbers = refl; types = λ limit p. p },
        (
          record { numbers = refl; types = λ limit p. p },
          (
            record { numbers = refl; types = λ limit p. p },
            (record { numbers = refl; types = λ limit p. p }, (record { numbers = refl; types = λ limit p. p }, (record { numbers = refl; types = λ limit p. p }, tt))),
          ),
        ),
      ),
    );
  };
}
