use Rattle.std.proofs.Common.{ℕ, ◌≤◌, [], ◌∷◌, arith, refl}
use Rattle.wasm_spec.specs.Groups.{items_in}
use Rattle.wasm_spec.specs.Limits.{Limit, most, Fields}
use Rattle.wasm_spec.specs.Subtyping.{same, step}
use Rattle.wasm_spec.specs.Trees.{DefType, section_types, type_at, unrolled}
use Rattle.wasm_spec.specs.Types.{Group, RecGroup, SubType}
use Rattle.wasm_spec.proofs.Elements.{contains_first}
use Rattle.wasm_spec.proofs.TypeLimits.{depth_zero, depth_suc, passes_none}
use Rattle.wasm_spec_examples.specs.TypeExamples.{open_type, open_below, one_field, two_fields}
use Rattle.wasm_spec_examples.proofs.TypeKinds.{extends_known}
use Rattle.wasm_spec_examples.proofs.type_examples.wider_structures.Goals as goal

abbrev group : RecGroup ℕ
group = Group (open_type one_field ∷ open_below 0 two_fields ∷ [])

-- the type of an index
abbrev at : ℕ → DefType
at index = type_at (section_types (group ∷ [])) index

abbrev lower : SubType DefType
lower = open_below (at 0) two_fields

few_of_one : (limit : Limit) → items_in (one_field {R = DefType}) limit ≤ most limit
few_of_one Fields = omega arith
few_of_one _ = omega arith

few_of_two : (limit : Limit) → items_in (two_fields {R = DefType}) limit ≤ most limit
few_of_two Fields = omega arith
few_of_two _ = omega arith

pub returns : goal.returns
returns c = record {
  well_formed = record {
    rules = record {
      allowed = refl;
      in_range = (omega arith, tt);
      each = (
        record { earlier = tt; extends = record { at_most_one = omega arith; each = tt }; continues = tt },
        (
          record {
            earlier = (omega arith, tt);
            extends = record {
              at_most_one = omega arith;
              each = (record { supertype = open_type one_field; is = refl; is_open = refl; matches = (record { same = refl; below = tt; back = λ e. tt }, tt) }, tt);
            };
            continues = tt;
          },
          tt,
        ),
      );
    };
    within_limits =
        let top = depth_zero unrolled (at 0) (open_type one_field) refl refl in
        let next = depth_suc unrolled (at 1) (at 0) lower 0 refl refl top in
        (passes_none unrolled (at 0) (open_type one_field) 0 refl top (omega arith) few_of_one, (passes_none unrolled (at 1) lower 1 refl next (omega arith) few_of_two, tt));
  };
  by_index = step (record {
    declared = record { type = open_below 0 two_fields; is = refl; among = contains_first 0 [] };
    kind = record { type = open_type one_field; is = refl; holds = refl };
  }) same;
  below = step (record {
    declared = record { type = lower; is = refl; among = contains_first (at 0) [] };
    kind = record { type = open_type one_field; is = refl; holds = refl };
  }) same;
  narrower = λ features rules. (extends_known rules.each.1.0.extends.each.0 (open_type two_fields) refl).1.1;
}
