use Rattle.std.proofs.Common.{refl, arith}
use Rattle.wasm_validity_examples.proofs.SmallSections.{group_passes_none, result_passes_none}
use Rattle.wasm_validity_examples.proofs.import_examples.imported_functions.Goals as goal

pub returns-clause-starts : goal.returns-clause-starts
returns-clause-starts c = λ features origin name e f. record {
  rules = (
    record {
      rules = record {
        allowed = refl;
        in_range = tt;
        each = (record { earlier = tt; extends = record { at_most_one = omega arith; each = tt }; continues = tt }, tt);
      };
      small = tt;
    },
    (refl, (refl, tt)),
  );
  limits = (
    record { numbers = refl; types = group_passes_none },
    (record { numbers = rw (e, f) refl; types = λ limit p. p }, (record { numbers = refl; types = λ limit p. p }, tt)),
  );
}

pub returns-clause-own_after_it : goal.returns-clause-own_after_it
returns-clause-own_after_it c = λ features. record {
  rules = (
    record {
      rules = record {
        allowed = refl;
        in_range = tt;
        each = (record { earlier = tt; extends = record { at_most_one = omega arith; each = tt }; continues = tt }, tt);
      };
      small = tt;
    },
    (
      record {
        rules = record {
          allowed = refl;
          in_range = tt;
          each = (record { earlier = tt; extends = record { at_most_one = omega arith; each = tt }; continues = tt }, tt);
        };
        small = tt;
      },
      (refl, (refl, (tt, tt))),
    ),
  );
  limits = (
    record { numbers = refl; types = group_passes_none },
    (
      record { numbers = refl; types = result_passes_none _ },
      (record { numbers = refl; types = λ limit p. p }, (record { numbers = refl; types = λ limit p. p }, (record { numbers = refl; types = λ limit p. p }, tt))),
    ),
  );
}

pub returns-clause-starts_with_a_parameter : goal.returns-clause-starts_with_a_parameter
returns-clause-starts_with_a_parameter c = λ features origin name v. let f = v.rules.1.1.0 in absurd cc

pub returns-clause-no_type : goal.returns-clause-no_type
returns-clause-no_type c = λ features origin name index v. let f = v.rules.0 in absurd cc

pub returns-clause-later_type : goal.returns-clause-later_type
returns-clause-later_type c = λ features origin name groups v. let f = v.rules.0 in absurd cc
