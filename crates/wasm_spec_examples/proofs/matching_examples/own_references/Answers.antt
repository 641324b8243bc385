use Rattle.std.proofs.Common.{Bool, ◌<◌, ◌+◌, arith, refl, subst, if◌then◌else◌}
use Rattle.wasm_spec_examples.proofs.matching_examples.own_references.Goals as goal

pub returns : goal.returns
returns c = record {
  own = λ features none rules.
      let P : Bool → Type 0 = λ gc. 0 < (if gc then 0 + 1 else 0) in
      let h : 0 < 0 = subst P none rules.in_range.0 in
      absurd (omega (arith, h));
  all_others = λ rules. let h : 0 < 0 = rules.in_range.0 in absurd (omega (arith, h));
  after_others = λ rules. let h : 1 < 1 = rules.in_range.0 in absurd (omega (arith, h));
  earlier = record {
    allowed = refl;
    in_range = (omega arith, tt);
    each = (record { earlier = tt; extends = record { at_most_one = omega arith; each = tt }; continues = tt }, tt);
  };
  allowed = refl;
  features = refl;
}
