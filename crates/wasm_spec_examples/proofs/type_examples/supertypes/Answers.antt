use Rattle.std.proofs.Common.{◌≡◌, ◌<◌, ◌≤◌, true, false, arith, refl}
use Rattle.wasm_spec_examples.specs.TypeExamples.{empty_structure, final_type, open_type}
use Rattle.wasm_spec_examples.proofs.TypeKinds.{extends_known}
use Rattle.wasm_spec_examples.proofs.type_examples.supertypes.Goals as goal

pub returns : goal.returns
returns c = record {
  earlier = record {
    allowed = refl;
    in_range = (omega arith, tt);
    each = (
      record { earlier = tt; extends = record { at_most_one = omega arith; each = tt }; continues = tt },
      (
        record {
          earlier = (omega arith, tt);
          extends = record {
            at_most_one = omega arith;
            each = (record { supertype = open_type empty_structure; is = refl; is_open = refl; matches = tt }, tt);
          };
          continues = tt;
        },
        tt,
      ),
    );
  };
  later = λ features rules. let h : 1 < 0 = rules.each.0.earlier.0 in absurd (omega (arith, h));
  own = λ features rules. let h : 0 < 0 = rules.each.0.earlier.0 in absurd (omega (arith, h));
  final_supertype = λ features rules. let e : true ≡ false = (extends_known rules.each.1.0.extends.each.0 (final_type empty_structure) refl).0 in absurd cc;
  two = λ features rules. let h : 2 ≤ 1 = rules.each.1.1.0.extends.at_most_one in absurd (omega (arith, h));
  other_kind = λ features rules. (extends_known rules.each.1.0.extends.each.0 (open_type empty_structure) refl).1;
}
