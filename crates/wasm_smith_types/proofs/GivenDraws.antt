-- Draws beside types that are given.
use Rattle.std.proofs.Common.{◌≡◌, ℕ, ◌+◌, ◌-◌, ◌<◌, true, false, List, length, map, IfSome}
use Rattle.wasm_spec.specs.Types.{SubType, RecGroup, Single}
use Rattle.wasm_smith_config.specs.declared.config.Config.{Config}
use Rattle.wasm_smith_types.specs.Drawing.{function_type_at, groups_at, no_groups}
use Rattle.wasm_smith_types.specs.DrawnGroups.{drawn_groups_at}
use Rattle.wasm_smith_types.specs.Given.{for_drawing, given_types}
use Rattle.wasm_smith_types.specs.Growing.{grow_at}
use Rattle.wasm_smith_types.specs.Offering.{offers, function_types_at, gc_groups_at}
use Rattle.wasm_smith_types.proofs.PastLaws.{drawn_with_gc, drawn_without_gc, past_with_gc, past_without_gc}
use Rattle.wasm_smith_validity.specs.ValidGroups.{types_of, entry}

module _ (c : Config) (min max : ℕ) (fewest : min ≡ c.min_types - given_types c) (greatest : max ≡ c.max_types - given_types c) (old : List ℕ) where
  pub beside_with_gc : (new : List ℕ) (groups : List (RecGroup ℕ)) → c.gc_enabled ≡ true
      → (min ≡ 0 → IfSome (groups_at (offers c) max (max + 1) no_groups old) (λ drawn. (groups ≡ map entry drawn.0) × (new ≡ drawn.1)))
      → IfSome (drawn_groups_at (for_drawing c) old) (λ drawn. drawn ≡ (groups, new))
  unfolding gc_groups_at offers
  beside_with_gc new groups on h = drawn_with_gc (for_drawing c) old new groups on (rw (fewest, greatest) at h)

  pub past_beside_with_gc : (most : ℕ) → c.gc_enabled ≡ true
      → (min ≡ 0 → IfSome (groups_at (offers c) max (max + 1) no_groups old) (λ drawn. most < length (types_of (map entry drawn.0))))
      → IfSome (drawn_groups_at (for_drawing c) old) (λ drawn. most < length (types_of drawn.0))
  unfolding gc_groups_at offers
  past_beside_with_gc most on h = past_with_gc (for_drawing c) old most on (rw (fewest, greatest) at h)

  pub beside_without_gc : (new : List ℕ) (groups : List (RecGroup ℕ)) (types : List (SubType ℕ)) → c.gc_enabled ≡ false → groups ≡ map Single types
      → grow_at (function_type_at (offers c)) min max 0 old ≡ (types, new) → IfSome (drawn_groups_at (for_drawing c) old) (λ drawn. drawn ≡ (groups, new))
  unfolding function_types_at offers
  beside_without_gc new groups types off singles e = drawn_without_gc (for_drawing c) old new groups types off singles (rw (fewest, greatest) at e)

  pub past_beside_without_gc : (most : ℕ) → c.gc_enabled ≡ false → most < length (grow_at (function_type_at (offers c)) min max 0 old).0
      → IfSome (drawn_groups_at (for_drawing c) old) (λ drawn. most < length (types_of drawn.0))
  unfolding function_types_at offers
  past_beside_without_gc most off past = past_without_gc (for_drawing c) old most off (rw (fewest, greatest) at past)
