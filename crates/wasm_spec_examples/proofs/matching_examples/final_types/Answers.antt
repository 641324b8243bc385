use Rattle.std.proofs.Common.{◌≡◌, ℕ, [], ◌∷◌, true, false, arith, refl}
use Rattle.wasm_spec.specs.Trees.{DefType, section_types, type_at, unrolled}
use Rattle.wasm_spec.specs.Types.{Group, RecGroup, SubType}
use Rattle.wasm_spec.proofs.TypeLimits.{depth_zero, depth_suc, passes_none}
use Rattle.wasm_spec_examples.specs.TypeExamples.{empty_structure, final_below, open_below, open_type}
use Rattle.wasm_spec_examples.proofs.TypeChains.{few}
use Rattle.wasm_spec_examples.proofs.TypeKinds.{extends_known}
use Rattle.wasm_spec_examples.proofs.matching_examples.final_types.Goals as goal

-- the type of an index, after groups that begin with an open structure and a final one below it
abbrev at : RecGroup ℕ → ℕ → DefType
at group index = type_at (section_types (group ∷ [])) index

abbrev two : RecGroup ℕ
two = Group (open_type empty_structure ∷ final_below 0 empty_structure ∷ [])

-- and one more structure
abbrev three : SubType ℕ → RecGroup ℕ
three type = Group (open_type empty_structure ∷ final_below 0 empty_structure ∷ type ∷ [])

abbrev lower : RecGroup ℕ → SubType DefType
lower group = final_below (at group 0) empty_structure

pub returns : goal.returns
returns c = record {
  below_open = record {
    rules = record {
      allowed = refl;
      in_range = (omega arith, tt);
      each = (
        record { earlier = tt; extends = record { at_most_one = omega arith; each = tt }; continues = tt },
        (
          record {
            earlier = (omega arith, tt);
            extends = record { at_most_one = omega arith; each = (record { supertype = open_type empty_structure; is = refl; is_open = refl; matches = tt }, tt) };
            continues = tt;
          },
          tt,
        ),
      );
    };
    within_limits =
        let top = depth_zero unrolled (at two 0) (open_type empty_structure) refl refl in
        let next = depth_suc unrolled (at two 1) (at two 0) (lower two) 0 refl refl top in
        (passes_none unrolled (at two 0) (open_type empty_structure) 0 refl top (omega arith) few, (passes_none unrolled (at two 1) (lower two) 1 refl next (omega arith) few, tt));
  };
  below_final = λ features rules.
      let e : true ≡ false = (extends_known rules.each.1.1.0.extends.each.0 (lower (three (open_below 1 empty_structure))) refl).0 in
      absurd cc;
  final_below_final = λ features rules.
      let e : true ≡ false = (extends_known rules.each.1.1.0.extends.each.0 (lower (three (final_below 1 empty_structure))) refl).0 in
      absurd cc;
  beside_final = record {
    allowed = refl;
    in_range = (omega arith, (omega arith, tt));
    each = (
      record { earlier = tt; extends = record { at_most_one = omega arith; each = tt }; continues = tt },
      (
        record {
          earlier = (omega arith, tt);
          extends = record { at_most_one = omega arith; each = (record { supertype = open_type empty_structure; is = refl; is_open = refl; matches = tt }, tt) };
          continues = tt;
        },
        (
          record {
            earlier = (omega arith, tt);
            extends = record { at_most_one = omega arith; each = (record { supertype = open_type empty_structure; is = refl; is_open = refl; matches = tt }, tt) };
            continues = tt;
          },
          tt,
        ),
      ),
    );
  };
  later_group = λ features rules. let e : true ≡ false = (extends_known rules.each.0.extends.each.0 (lower two) refl).0 in absurd cc;
}
