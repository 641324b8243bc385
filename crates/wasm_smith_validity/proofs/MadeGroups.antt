-- The groups of types of a made module keep the rules on types. The context and the index spaces after them.
use Rattle.std.proofs.Common.{◌≡◌, ℕ, ◌+◌, ◌<◌, ◌≤◌, List, [], ◌∷◌, ◌++◌, length, map, refl, ap, sym, ◌∙◌, subst, arith, append_assoc, length-append}
use Rattle.std.proofs.lemmas.List.{append-nil}
use Rattle.wasm_spec.specs.Features.{Features}
use Rattle.wasm_spec.specs.Groups.{KeepGroupRules}
use Rattle.wasm_spec.specs.Limits.{Types, most, total_of_types}
use Rattle.wasm_spec.specs.Syntax.{members}
use Rattle.wasm_spec.specs.Trees.{AreInRange, types_from, section_types}
use Rattle.wasm_spec.specs.TypeReferences.{group_refs}
use Rattle.wasm_spec.specs.Types.{RecGroup, SubType}
use Rattle.wasm_spec.proofs.GroupTrees.{Stand, all_each, length-types_after, section_stands}
use Rattle.wasm_validity.specs.Context.{Context, after, after_all, at_first}
use Rattle.wasm_validity.specs.Entries.{Entry, OfType}
use Rattle.wasm_validity.specs.Rules.{KeepRules}
use Rattle.wasm_smith_validity.specs.ValidGroups.{AreValidAfter, AreValidGroups, types_of}
use Rattle.wasm_smith_validity.proofs.GroupLaws.{valid_in_range, valid_rules}
use Rattle.wasm_smith_validity.specs.Rules.{KeepAll}
use Rattle.wasm_smith_validity.specs.Spaces.{Spaces, spaces_after, spaces_after_all, spaces_of_types}
use Rattle.wasm_smith_validity.proofs.IndexedContext.{by_index}

abbrev pub of_groups : List (RecGroup ℕ) → List Entry
of_groups groups = map (λ x. OfType x) groups

-- what is known after the groups
abbrev pub typed : List (RecGroup ℕ) → Context
typed groups = after_all at_first (of_groups groups)

-- ---- rules

-- the types of a group stand before those of the others
shifted : (cx : Context) (group : RecGroup ℕ) (groups : List (RecGroup ℕ))
    → length (after cx (OfType group)).types + length (types_of groups) ≡ length cx.types + length (types_of (group ∷ groups))
shifted cx group groups = omega (arith, length-types_after cx.types group, length-append (members group) (types_of groups))

rules_from : (features : Features) (cx : Context) (groups : List (RecGroup ℕ)) → KeepGroupRules features cx.types groups → AreInRange (length cx.types) groups
    → length cx.types + length (types_of groups) ≤ total_of_types → KeepRules features cx (of_groups groups)
rules_from features cx [] rules range few = tt
rules_from features cx (group ∷ groups) rules range few =
    let parts = length-append (members group) (types_of groups) in (
      record {
        rules = rules.0;
        small = all_each (λ index. index < length cx.types + length (members group)) (λ index. index < total_of_types) (λ index below. omega (arith, below, few, parts)) (group_refs group) range.0;
      },
      rules_from features (after cx (OfType group)) groups rules.1 (rw (length-types_after cx.types group) range.1) (omega (arith, few, shifted cx group groups)),
    )

pub groups_keep : (features : Features) (groups : List (RecGroup ℕ)) → AreValidGroups features groups → length (types_of groups) ≤ most Types
    → KeepRules features at_first (of_groups groups)
groups_keep features groups valid few =
    rules_from features at_first groups (valid_rules features groups valid) (valid_in_range features groups valid) (omega (arith, few))

-- ---- what is known after them

after_groups : (cx : Context) (groups : List (RecGroup ℕ)) → (n : ℕ) × (after_all cx (of_groups groups) ≡ record cx { types = types_from cx.types groups; groups = n })
after_groups cx [] = (cx.groups, refl)
after_groups cx (group ∷ groups) = after_groups (after cx (OfType group)) groups

pub types_known : (groups : List (RecGroup ℕ)) → (typed groups).types ≡ section_types groups
types_known groups = let (n, is) = after_groups at_first groups in rw is refl

pub groups_stand : (features : Features) (groups : List (RecGroup ℕ)) → AreValidGroups features groups → Stand (types_of groups) (typed groups).types
groups_stand features groups valid = subst (Stand (types_of groups)) (sym (types_known groups)) (section_stands groups (valid_in_range features groups valid))

pub spaces_known : (groups : List (RecGroup ℕ)) → by_index (types_of groups) (typed groups) ≡ spaces_of_types (types_of groups)
spaces_known groups = let (n, is) = after_groups at_first groups in rw is refl

-- ---- rules by index

-- these types behind those that are there
abbrev with_types : Spaces → List (SubType ℕ) → Spaces
with_types k types = record k { types = k.types ++ types }

no_types : (k : Spaces) → with_types k [] ≡ k
no_types k = ap (λ types. record k { types = types }) (append-nil k.types)

more_types : (k : Spaces) (group : RecGroup ℕ) (groups : List (RecGroup ℕ)) → with_types (spaces_after k (OfType group)) (types_of groups) ≡ with_types k (types_of (group ∷ groups))
more_types k group groups = ap (λ types. record k { types = types }) (append_assoc k.types (members group) (types_of groups))

spaces_behind : (k : Spaces) (groups : List (RecGroup ℕ)) (others : List Entry)
    → spaces_after_all k (of_groups groups ++ others) ≡ spaces_after_all (with_types k (types_of groups)) others
spaces_behind k [] others = ap (λ k. spaces_after_all k others) (sym (no_types k))
spaces_behind k (group ∷ groups) others =
    spaces_behind (spaces_after k (OfType group)) groups others ∙ ap (λ k. spaces_after_all k others) (more_types k group groups)

split : (features : Features) (k : Spaces) (groups : List (RecGroup ℕ)) (others : List Entry) → KeepAll features k (of_groups groups ++ others)
    → AreValidAfter features k.types groups × KeepAll features (with_types k (types_of groups)) others
split features k [] others h = (tt, subst (λ k. KeepAll features k others) (sym (no_types k)) h)
split features k (group ∷ groups) others h =
    let later = split features (spaces_after k (OfType group)) groups others h.1 in
    ((h.0, later.0), subst (λ k. KeepAll features k others) (more_types k group groups) later.1)

joined : (features : Features) (k : Spaces) (groups : List (RecGroup ℕ)) (others : List Entry) → AreValidAfter features k.types groups
    → KeepAll features (with_types k (types_of groups)) others → KeepAll features k (of_groups groups ++ others)
joined features k [] others valid h = subst (λ k. KeepAll features k others) (no_types k) h
joined features k (group ∷ groups) others valid h =
    (valid.0, joined features (spaces_after k (OfType group)) groups others valid.1 (subst (λ k. KeepAll features k others) (sym (more_types k group groups)) h))

-- the groups at the start are valid, and what comes behind them keeps its rules
pub record KeepRulesBehind (features : Features) (groups : List (RecGroup ℕ)) (others : List Entry) : Type 0 where
  pub valid : AreValidGroups features groups
  pub behind_types : KeepAll features (spaces_of_types (types_of groups)) others

pub rules_behind : (features : Features) (groups : List (RecGroup ℕ)) (others : List Entry) → KeepAll features (spaces_of_types []) (of_groups groups ++ others)
    → KeepRulesBehind features groups others
rules_behind features groups others h = let (valid, behind) = split features (spaces_of_types []) groups others h in record { valid = valid; behind_types = behind }

pub rules_together : (features : Features) (groups : List (RecGroup ℕ)) (others : List Entry) → KeepRulesBehind features groups others
    → KeepAll features (spaces_of_types []) (of_groups groups ++ others)
rules_together features groups others h = joined features (spaces_of_types []) groups others h.valid h.behind_types

pub spaces_together : (groups : List (RecGroup ℕ)) (others : List Entry)
    → spaces_after_all (spaces_of_types []) (of_groups groups ++ others) ≡ spaces_after_all (spaces_of_types (types_of groups)) others
spaces_together groups others = spaces_behind (spaces_of_types []) groups others
