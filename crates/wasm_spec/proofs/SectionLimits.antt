-- In a section, rules and limits are apart.
use Rattle.std.proofs.Common.{◌≡◌, ℕ, List, [], ◌∷◌, ◌++◌, Some, subst}
use Rattle.std.specs.List.{slice_get, AllByRecursion}
use Rattle.wasm_spec.specs.Features.{Features}
use Rattle.wasm_spec.specs.Groups.{PassesLimit, AreWithinLimits, IsWithinGroupLimits, KeepGroupRules, AreWellFormedGroups}
use Rattle.wasm_spec.specs.Limits.{Limit}
use Rattle.wasm_spec.specs.Trees.{DefType, types_of_group, types_after, types_from, unrolled}
use Rattle.wasm_spec.specs.Types.{RecGroup}
use Rattle.wasm_spec.proofs.MappedBack.{all_left, all_right}
use Rattle.wasm_spec.proofs.Places.{all_get}
use Rattle.wasm_spec.proofs.SectionTypes.{types_from_more}

all_append : {X : Type 0} (P : X → Type 0) (xs ys : List X) → AllByRecursion P xs → AllByRecursion P ys → AllByRecursion P (xs ++ ys)
all_append P [] ys h k = k
all_append P (x ∷ xs) ys h k = (h.0, all_append P xs ys h.1 k)

-- it passes no limit
abbrev IsWithin : DefType → Type 0
IsWithin type = (limit : Limit) → PassesLimit unrolled type limit → ⊥

pub well_formed_limits : (features : Features) (groups : List (RecGroup ℕ)) (before : List DefType) → AreWithinLimits before → AreWellFormedGroups features before groups → AreWithinLimits (types_from before groups)
well_formed_limits features [] before k h = k
well_formed_limits features (group ∷ groups) before k h =
    well_formed_limits features groups (types_after before group) (all_append IsWithin before (types_of_group before group) k h.0.within_limits) h.1

pub rules_and_limits : (features : Features) (groups : List (RecGroup ℕ)) (before : List DefType) → KeepGroupRules features before groups → AreWithinLimits (types_from before groups) → AreWellFormedGroups features before groups
rules_and_limits features [] before h k = tt
rules_and_limits features (group ∷ groups) before h k =
    let more = types_from_more groups (types_after before group) in
    let all : AreWithinLimits (types_after before group ++ more.0) = subst AreWithinLimits more.1 k in
    let own : IsWithinGroupLimits before group =
    all_right IsWithin before (types_of_group before group) (all_left IsWithin (types_after before group) more.0 all) in
    (record { rules = h.0; within_limits = own }, rules_and_limits features groups (types_after before group) h.1 k)

pub no_limit_passed : (features : Features) (groups : List (RecGroup ℕ)) → AreWellFormedGroups features [] groups → (index : ℕ) (type : DefType) (limit : Limit) → slice_get (types_from [] groups) index ≡ Some type → PassesLimit unrolled type limit → ⊥
no_limit_passed features groups h index type limit at =
    all_get IsWithin (types_from [] groups) (well_formed_limits features groups [] tt h) index type at limit
