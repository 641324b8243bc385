-- Steps beside the types of shapes.
use Rattle.std.proofs.Common.{◌≡◌, ℕ, ◌+◌, ◌-◌, ◌^◌, ◌≤◌, ◌<◌, List, max, length, Option, Some, None, IfSome, refl, sym, ap, ◌∙◌, subst, arith}
use Rattle.std.proofs.Math.Nat.{le-max_left, le-max_right}
use Rattle.wasm_spec.specs.Features.{Features}
use Rattle.wasm_spec.specs.Trees.{AreInRange}
use Rattle.wasm_spec.specs.Types.{RecGroup}
use Rattle.wasm_smith_config.specs.Config.{AreFeaturesOf}
use Rattle.wasm_smith_config.specs.Rows.{switches}
use Rattle.wasm_smith_config.specs.declared.config.Config.{Config}
use Rattle.wasm_smith_config.proofs.UnionLaws.{grown_by, flags}
use Rattle.wasm_smith_shapes.specs.Shapes.{ShapeValue}
use Rattle.wasm_smith_types.specs.DrawnGroups.{drawn_groups_at}
use Rattle.wasm_smith_types.specs.Given.{type_count, given_types, HasGivenGroups, HaveGoodGroups, then_groups, with_given, for_drawing, AskForMore, HaveMoreFor}
use Rattle.wasm_smith_types.proofs.GivenLaws.{given_count}
use Rattle.wasm_smith_types.proofs.ShiftLaws.{shifted_valid}
use Rattle.wasm_smith_validity.specs.ValidGroups.{AreValidGroups, types_of}
use Rattle.wasm_smith_validity.proofs.GroupLaws.{valid_in_range}

-- ---- one shape

pub in_range : (c : Config) (shape : Option ShapeValue) → IfSome shape (HasGivenGroups c) → IfSome shape (λ it. AreInRange 0 it.groups)
in_range c (Some shape) good = let features : Features = grown_by 0 (switches c) in valid_in_range features shape.groups (good.valid features (flags c))
in_range c None good = tt

pub few_given : (c : Config) (shape : Option ShapeValue) → IfSome shape (HasGivenGroups c) → type_count shape ≤ 2 ^ 29
few_given c (Some shape) good = good.few
few_given c None good = omega arith

then_valid : (c : Config) (features : Features) (groups : List (RecGroup ℕ)) (shape : Option ShapeValue) → AreFeaturesOf c features → IfSome shape (HasGivenGroups c)
    → AreValidGroups features groups → AreValidGroups features (then_groups groups shape)
then_valid c features groups (Some shape) are good valid = shifted_valid features groups shape.groups valid (good.valid features are)
then_valid c features groups None are good valid = valid

-- ---- the shapes of a configuration

pub with_given_valid : (c : Config) (features : Features) (drawn : List (RecGroup ℕ)) → HaveGoodGroups c → AreFeaturesOf c features → AreValidGroups features drawn
    → AreValidGroups features (with_given c drawn)
with_given_valid c features drawn good are valid =
    then_valid c features (then_groups drawn c.available_imports) c.exports are good.exports
    (then_valid c features drawn c.available_imports are good.available_imports valid)

pub both_added : (c : Config) (drawn mid all : List (RecGroup ℕ)) → mid ≡ then_groups drawn c.available_imports → all ≡ then_groups mid c.exports → all ≡ with_given c drawn
both_added c drawn mid all first second = second ∙ ap (λ groups. then_groups groups c.exports) first

module _ (c : Config) (none : c.module_shape ≡ None) where
  pub given_beside : given_types c ≡ type_count c.available_imports + type_count c.exports
  given_beside = rw none (omega arith)

  pub all_count : (drawn all : List (RecGroup ℕ)) → all ≡ with_given c drawn → length (types_of all) ≡ length (types_of drawn) + given_types c
  all_count drawn all is = omega (arith, ap (λ groups. length (types_of groups)) is, given_count c drawn, given_beside)

  pub at_most : (drawn all : List (RecGroup ℕ)) → all ≡ with_given c drawn → length (types_of drawn) ≤ c.max_types - given_types c
      → length (types_of all) ≤ max c.max_types (given_types c)
  at_most drawn all is few =
      omega (arith, all_count drawn all is, few, le-max_left c.max_types (given_types c), le-max_right c.max_types (given_types c))

  have_more : (s : List ℕ) (most room : ℕ) → most ≤ room + given_types c
      → IfSome (drawn_groups_at (for_drawing c) s) (λ d. room < length (types_of d.0)) → HaveMoreFor c.module_shape c s most
  have_more s most room enough past =
      subst (λ (shape : Option ShapeValue). HaveMoreFor shape c s most) (sym none) (go (drawn_groups_at (for_drawing c) s) past)
    where
      go : (d : Option (List (RecGroup ℕ) × List ℕ)) → IfSome d (λ d. room < length (types_of d.0)) → IfSome d (λ d. most < length (types_of (with_given c d.0)))
      go None past = tt
      go (Some d) past = omega (arith, all_count d.0 (with_given c d.0) refl, past, enough)

  given_more : (s : List ℕ) (most : ℕ) → most < given_types c → HaveMoreFor c.module_shape c s most
  given_more s most past = subst (λ (shape : Option ShapeValue). HaveMoreFor shape c s most) (sym none) (go (drawn_groups_at (for_drawing c) s))
    where
      go : (d : Option (List (RecGroup ℕ) × List ℕ)) → IfSome d (λ d. most < length (types_of (with_given c d.0)))
      go None = tt
      go (Some d) = omega (arith, all_count d.0 (with_given c d.0) refl, past)

  pub given_past : (s : List ℕ) (most : ℕ) → most < given_types c → AskForMore c s most
  given_past s most past = record { allowed = omega (arith, past, le-max_right c.max_types (given_types c)); more = given_more s most past }

  pub drawn_past : (s : List ℕ) (most room : ℕ) → most ≡ room + given_types c → room < c.max_types - given_types c
      → IfSome (drawn_groups_at (for_drawing c) s) (λ d. room < length (types_of d.0)) → AskForMore c s most
  drawn_past s most room is allowed past =
      record { allowed = omega (arith, is, allowed, le-max_left c.max_types (given_types c)); more = have_more s most room (omega (arith, is)) past }
