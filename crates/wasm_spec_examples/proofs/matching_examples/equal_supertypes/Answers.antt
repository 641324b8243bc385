use Rattle.std.proofs.Common.{◌≡◌, ℕ, List, [], ◌∷◌, ◌++◌, arith, refl, ap, inl, inr}
use Rattle.std.specs.List.{slice_get, flat_map}
use Rattle.wasm_spec.specs.Subtyping.{HeapBelow, same, step}
use Rattle.wasm_spec.specs.Syntax.{members}
use Rattle.wasm_spec.specs.Trees.{DefType, GroupTree, Rolled, NoMore, Then, section_types, type_at, unrolled}
use Rattle.wasm_spec.specs.Types.{Concrete, RecGroup, Single, SubType}
use Rattle.wasm_spec.proofs.Elements.{contains_first}
use Rattle.wasm_spec_examples.specs.TypeExamples.{empty_structure, field_to, open_below, open_type, twins}
use Rattle.wasm_spec_examples.proofs.TypeKinds.{extends_known, none_above, one_above}
use Rattle.wasm_spec_examples.proofs.matching_examples.equal_supertypes.Goals as goal

-- by index
abbrev upper : SubType ℕ
upper = open_type empty_structure

abbrev lower : SubType ℕ
lower = open_below 1 empty_structure

-- by type
abbrev at : ℕ → DefType
at index = type_at (section_types twins) index

abbrev lower_type : SubType DefType
lower_type = open_below (at 1) empty_structure

-- how many references a tree has: none or more
abbrev refers : GroupTree → ℕ
refers (Rolled shapes NoMore) = 0
refers (Rolled shapes (Then r rs)) = 1

below : HeapBelow unrolled (Concrete (at 2)) (Concrete (at 0))
below = step (record {
  declared = record { type = lower_type; is = refl; among = contains_first (at 1) [] };
  kind = record { type = open_type empty_structure; is = refl; holds = refl };
}) same

not_above : HeapBelow unrolled (Concrete (at 0)) (Concrete (at 2)) → ⊥
not_above h =
    let e = none_above unrolled (at 0) (at 2) (open_type empty_structure) refl refl h in
    let n : 0 ≡ 1 = ap (λ d. refers d.tree) e in
    absurd (omega (arith, n))

-- the twins, and a structure that refers to the type of this index
abbrev section : ℕ → List (RecGroup ℕ)
section index = twins ++ (Single (open_type (field_to index)) ∷ [])

pub returns : goal.returns
returns c = record {
  one_type = refl;
  declared = step (record {
    declared = record { type = lower; is = refl; among = contains_first 1 [] };
    kind = record { type = upper; is = refl; holds = refl };
  }) same;
  by_index = λ h. elim (one_above (slice_get (flat_map members twins)) 2 1 0 lower refl refl h) [
    | inl e ↦ absurd (omega (arith, e))
    | inr h' ↦ let e = none_above (slice_get (flat_map members twins)) 1 0 upper refl refl h' in absurd (omega (arith, e))
  ];
  by_type = below;
  above = not_above;
  field = record {
    allowed = refl;
    in_range = (omega arith, (omega arith, tt));
    each = (
      record {
        earlier = (omega arith, tt);
        extends = record {
          at_most_one = omega arith;
          each = (
            record {
              supertype = open_type (field_to (at 0));
              is = refl;
              is_open = refl;
              matches = (record { same = refl; below = record { null = λ e. refl; heap = below }; back = λ e. absurd cc }, tt);
            },
            tt,
          );
        };
        continues = tt;
      },
      tt,
    );
  };
  other_field = λ features rules. not_above (extends_known rules.each.0.extends.each.0 (open_type (field_to (at 2))) refl).1.0.below.heap;
}
