use Rattle.std.proofs.Common.{◌≡◌, ℕ, ◌≤◌, [], ◌∷◌, arith, refl, ap, inl, inr}
use Rattle.wasm_spec.specs.Features.{Features}
use Rattle.wasm_spec.specs.Groups.{KeepsGroupRules, items_in}
use Rattle.wasm_spec.specs.Limits.{Limit, most, Fields}
use Rattle.wasm_spec.specs.Subtyping.{HeapBelow, same, step}
use Rattle.wasm_spec.specs.Trees.{DefType, section_types, type_at, unrolled}
use Rattle.wasm_spec.specs.Types.{Concrete, SubType}
use Rattle.wasm_spec.proofs.Elements.{contains_first}
use Rattle.wasm_spec.proofs.TypeLimits.{depth_zero, depth_suc, passes_none}
use Rattle.wasm_spec_examples.specs.TypeExamples.{empty_structure, field_to, group_with_links, open_below, open_type}
use Rattle.wasm_spec_examples.proofs.TypeChains.{few}
use Rattle.wasm_spec_examples.proofs.TypeKinds.{extends_known, none_above, one_above}
use Rattle.wasm_spec_examples.proofs.matching_examples.links_of_the_group.Goals as goal

-- the type of a place, where the last structure refers to this one
abbrev at : ℕ → ℕ → DefType
at index place = type_at (section_types (group_with_links index ∷ [])) place

-- the four types
abbrev first : SubType DefType
first = open_type empty_structure

abbrev second : SubType DefType
second = open_below (at 1 0) empty_structure

abbrev third : ℕ → SubType DefType
third index = open_type (field_to (at index 0))

abbrev fourth : ℕ → SubType DefType
fourth index = open_below (at index 2) (field_to (at index index))

few_fields : (r : DefType) (limit : Limit) → items_in (field_to r) limit ≤ most limit
few_fields r Fields = omega arith
few_fields r _ = omega arith

-- what the last structure refers to is below the first
referred : (features : Features) (index : ℕ) → KeepsGroupRules features [] (group_with_links index) → HeapBelow unrolled (Concrete (at index index)) (Concrete (at index 0))
referred features index rules = (extends_known rules.each.1.1.1.0.extends.each.0 (third index) refl).1.0.below.heap

-- the third structure isn't below the first
third_alone : (index : ℕ) → HeapBelow unrolled (Concrete (at index 2)) (Concrete (at index 0)) → ⊥
third_alone index h =
    let e = none_above unrolled (at index 2) (at index 0) (third index) refl refl h in
    let p : 2 ≡ 0 = ap (λ d. d.place) e in
    absurd (omega (arith, p))

pub returns : goal.returns
returns c = record {
  below = record {
    rules = record {
      allowed = refl;
      in_range = (omega arith, (omega arith, (omega arith, (omega arith, tt))));
      each = (
        record { earlier = tt; extends = record { at_most_one = omega arith; each = tt }; continues = tt },
        (
          record {
            earlier = (omega arith, tt);
            extends = record { at_most_one = omega arith; each = (record { supertype = first; is = refl; is_open = refl; matches = tt }, tt) };
            continues = tt;
          },
          (
            record { earlier = tt; extends = record { at_most_one = omega arith; each = tt }; continues = tt },
            (
              record {
                earlier = (omega arith, tt);
                extends = record {
                  at_most_one = omega arith;
                  each = (
                    record {
                      supertype = third 1;
                      is = refl;
                      is_open = refl;
                      matches = (
                        record {
                          same = refl;
                          below = record {
                            null = λ e. refl;
                            heap = step (record {
                              declared = record { type = second; is = refl; among = contains_first (at 1 0) [] };
                              kind = record { type = first; is = refl; holds = refl };
                            }) same;
                          };
                          back = λ e. absurd cc;
                        },
                        tt,
                      );
                    },
                    tt,
                  );
                };
                continues = tt;
              },
              tt,
            ),
          ),
        ),
      );
    };
    within_limits =
        let a = depth_zero unrolled (at 1 0) first refl refl in
        let b = depth_suc unrolled (at 1 1) (at 1 0) second 0 refl refl a in
        let d = depth_zero unrolled (at 1 2) (third 1) refl refl in
        let e = depth_suc unrolled (at 1 3) (at 1 2) (fourth 1) 0 refl refl d in (
          passes_none unrolled (at 1 0) first 0 refl a (omega arith) few,
          (
            passes_none unrolled (at 1 1) second 1 refl b (omega arith) few,
            (
              passes_none unrolled (at 1 2) (third 1) 0 refl d (omega arith) (few_fields (at 1 0)),
              (passes_none unrolled (at 1 3) (fourth 1) 1 refl e (omega arith) (few_fields (at 1 1)), tt),
            ),
          ),
        );
  };
  unrelated = λ features rules. third_alone 2 (referred features 2 rules);
  itself = λ features rules. elim (one_above unrolled (at 3 3) (at 3 2) (at 3 0) (fourth 3) refl refl (referred features 3 rules)) [
    | inl e ↦
        let p : 3 ≡ 0 = ap (λ d. d.place) e in
        absurd (omega (arith, p))
    | inr h ↦ third_alone 3 h
  ];
}
