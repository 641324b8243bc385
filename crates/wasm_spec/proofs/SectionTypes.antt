-- The types of a section by index: its references stand for its sub types, and rules keep them in range.
use Rattle.std.proofs.Common.{◌≡◌, ℕ, ◌+◌, ◌<◌, ◌≤◌, Bool, true, false, List, [], ◌∷◌, ◌++◌, length, refl, ap, sym, ◌∙◌, arith, if◌then◌else◌, None, Some, append_assoc}
use Rattle.std.proofs.lemmas.Option.{slice_get_within, slice_get_past}
use Rattle.std.proofs.lemmas.List.{append-nil}
use Rattle.std.specs.List.{slice_get, flat_map}
use Rattle.std.specs.Option.{unwrap_or}
use Rattle.wasm_spec.specs.Features.{Features, Gc, has}
use Rattle.wasm_spec.specs.Groups.{reference_bound, KeepsGroupRules, AllGroups, KeepGroupRules}
use Rattle.wasm_spec.specs.ReferenceMaps.{IsOneToOne, IsType, KeepsTypes, ReferToTypes}
use Rattle.wasm_spec.specs.Syntax.{members}
use Rattle.wasm_spec.specs.TypeReferences.{sub_refs, group_refs}
use Rattle.wasm_spec.specs.Trees.{DefType, types_of_group, types_after, types_from, section_types, no_type, type_at, unrolled, RefersBelow, AreInRange, AreDistinct}
use Rattle.wasm_spec.specs.Types.{RecGroup}
use Rattle.wasm_spec.proofs.GroupTrees.{section_stands, all_each, length-types_after}
use Rattle.wasm_spec.proofs.Places.{get_some}

pub section_keeps : (groups : List (RecGroup ℕ)) → AreInRange 0 groups → KeepsTypes (type_at (section_types groups)) (slice_get (flat_map members groups)) unrolled
section_keeps groups range = (section_stands groups range).unrolls

pub section_closed : (groups : List (RecGroup ℕ)) → AreInRange 0 groups → ReferToTypes (slice_get (flat_map members groups))
section_closed groups range index type at =
    let it = section_stands groups range in
    let types = flat_map members groups in
    all_each (λ i. i < length (section_types groups)) (IsType (slice_get types)) (λ i h. get_some types i (omega (arith, h, it.lengths))) (sub_refs type) (it.in_range index type at)

pub section_one_to_one : (groups : List (RecGroup ℕ)) → AreInRange 0 groups → AreDistinct (section_types groups) → IsOneToOne (type_at (section_types groups)) (slice_get (flat_map members groups))
section_one_to_one groups range one r t known known' e =
    let it = section_stands groups range in
    let ts = section_types groups in
    let (a, at) = get_some ts r (omega (arith, slice_get_within (flat_map members groups) r known.0 known.1, it.lengths)) in
    let (b, at') = get_some ts t (omega (arith, slice_get_within (flat_map members groups) t known'.0 known'.1, it.lengths)) in
    let same : b ≡ a = sym (ap (λ q. unwrap_or q no_type) at') ∙ sym e ∙ ap (λ q. unwrap_or q no_type) at in
    one r t a at (at' ∙ ap Some same)

pub bound_in_range : (features : Features) (before : ℕ) (group : RecGroup ℕ) → RefersBelow (reference_bound features before group) group → RefersBelow (before + length (members group)) group
bound_in_range features before group range = go (has features Gc) range
  where
    go : (b : Bool) → RefersBelow (if b then before + length (members group) else before) group → RefersBelow (before + length (members group)) group
    go true h = h
    go false h = all_each (λ i. i < before) (λ i. i < before + length (members group)) (λ i k. omega (arith, k)) (group_refs group) h

pub rules_in_range : (features : Features) (before : List DefType) (group : RecGroup ℕ) → KeepsGroupRules features before group → RefersBelow (length before + length (members group)) group
rules_in_range features before group rules = bound_in_range features (length before) group rules.in_range

pub groups_in_range : (features : Features) (before : List DefType) (groups : List (RecGroup ℕ)) → KeepGroupRules features before groups → AreInRange (length before) groups
groups_in_range features before [] h = tt
groups_in_range features before (group ∷ groups) h = (
  rules_in_range features before group h.0,
  rw (length-types_after before group) at (groups_in_range features (types_after before group) groups h.1),
)

-- ---- one group after the others

pub more_types : (before : List DefType) (groups : List (RecGroup ℕ)) (group : RecGroup ℕ) → types_from before (groups ++ group ∷ []) ≡ types_after (types_from before groups) group
more_types before [] group = refl
more_types before (g ∷ groups) group = more_types (types_after before g) groups group

pub groups_split : (Holds : List DefType → RecGroup ℕ → Type 0) (before : List DefType) (groups : List (RecGroup ℕ)) (group : RecGroup ℕ) → AllGroups Holds before (groups ++ group ∷ []) → AllGroups Holds before groups × Holds (types_from before groups) group
groups_split Holds before [] group h = (tt, h.0)
groups_split Holds before (g ∷ groups) group h =
    let rest = groups_split Holds (types_after before g) groups group h.1 in ((h.0, rest.0), rest.1)

pub groups_joined : (Holds : List DefType → RecGroup ℕ → Type 0) (before : List DefType) (groups : List (RecGroup ℕ)) (group : RecGroup ℕ) → AllGroups Holds before groups → Holds (types_from before groups) group → AllGroups Holds before (groups ++ group ∷ [])
groups_joined Holds before [] group h k = (k, tt)
groups_joined Holds before (g ∷ groups) group h k = (h.0, groups_joined Holds (types_after before g) groups group h.1 k)

pub groups_each : (Holds Others : List DefType → RecGroup ℕ → Type 0) → ((before : List DefType) (group : RecGroup ℕ) → Holds before group → Others before group) → (before : List DefType) (groups : List (RecGroup ℕ)) → AllGroups Holds before groups → AllGroups Others before groups
groups_each Holds Others one before [] h = tt
groups_each Holds Others one before (group ∷ groups) h = (one before group h.0, groups_each Holds Others one (types_after before group) groups h.1)

-- the types before are those of a section that come first
pub types_from_more : (groups : List (RecGroup ℕ)) (before : List DefType) → (more : List DefType) × (types_from before groups ≡ before ++ more)
types_from_more [] before = ([], sym (append-nil before))
types_from_more (group ∷ groups) before =
    let rest = types_from_more groups (types_after before group) in
    (types_of_group before group ++ rest.0, rest.1 ∙ append_assoc before (types_of_group before group) rest.0)

pub past_the_end : (types : List DefType) (index : ℕ) → length types ≤ index → unrolled (type_at types index) ≡ None
past_the_end types index h =
    let none : slice_get types index ≡ None = slice_get_past types index h in
    ap (λ q. unrolled (unwrap_or q no_type)) none
