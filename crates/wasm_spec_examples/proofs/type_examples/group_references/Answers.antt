use Rattle.std.proofs.Common.{◌<◌, arith, refl}
use Rattle.wasm_spec.proofs.SectionTypes.{rules_in_range}
use Rattle.wasm_spec_examples.proofs.type_examples.group_references.Goals as goal

pub returns : goal.returns
returns c = record {
  earlier = record {
    allowed = refl;
    in_range = (omega arith, tt);
    each = (record { earlier = tt; extends = record { at_most_one = omega arith; each = tt }; continues = tt }, tt);
  };
  own = record {
    allowed = refl;
    in_range = (omega arith, tt);
    each = (record { earlier = tt; extends = record { at_most_one = omega arith; each = tt }; continues = tt }, tt);
  };
  own_without_gc = λ rules. let h : 0 < 0 = rules.in_range.0 in absurd (omega (arith, h));
  later = record {
    allowed = refl;
    in_range = (omega arith, (omega arith, tt));
    each = (
      record { earlier = tt; extends = record { at_most_one = omega arith; each = tt }; continues = tt },
      (record { earlier = tt; extends = record { at_most_one = omega arith; each = tt }; continues = tt }, tt),
    );
  };
  past_the_group = λ features rules. let h : 2 < 2 = (rules_in_range features _ _ rules).0 in absurd (omega (arith, h));
  features = refl;
  features_with_gc = refl;
}
