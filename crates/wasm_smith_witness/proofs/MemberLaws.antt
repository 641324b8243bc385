-- Lemmas on the tests of membership.
use Rattle.std.proofs.Common.{◌≡◌, ℕ, ◌+◌, ◌≤◌, ◌<◌, ◌^◌, true, false, List, [], ◌∷◌, ◌++◌, length, map, drop, get_or, Global, refl, sym, ap, subst, ◌∙◌, arith}
use Rattle.std.specs.Prelude.{◌&&◌}
use Rattle.std.proofs.lemmas.Bool.{and_parts, ltb-false}
use Rattle.std.proofs.lemmas.List.{length-append, drop_more}
use Rattle.std.proofs.lemmas.List.{length-map}
use Rattle.std.specs.declared.vec.Vec.{Vec}
use Rattle.wasm_core_types.specs.SubTypes.{sub_type}
use Rattle.wasm_core_types.specs.declared.types.SubType as code
use Rattle.wasm_spec.specs.Types.{SubType}
use Rattle.wasm_smith_witness.specs.Groups.{group_of}
use Rattle.wasm_smith_config.specs.Config.{IsGood, NamesBad, AreGood, HasBad, Field, at_least, fields}
use Rattle.wasm_smith_config.specs.declared.config.Config.{Config}
use Rattle.wasm_smith_unstructured.specs.declared.error.Error.{Error}
use Rattle.wasm_smith_unstructured.specs.declared.error.Error.TheVariants.{IncorrectFormat, EmptyChoose, NotEnoughData, BadConfig, BadShape, TypeSize, Memory, TooLong}
use Rattle.wasm_smith_validity.specs.ValidGroups.{entry}
use Rattle.wasm_smith_validity.specs.ValidGroups as flat
use Rattle.wasm_smith_validity.proofs.GroupLaws.{entry_members}
use Rattle.wasm_smith_module.proofs.BareLaws.{HasNoShapes, bare_bounds, has_no_shapes}
use Rattle.wasm_smith_module.specs.Asked.{import_bounds}
use Rattle.wasm_smith_module.specs.Generating.{OwesNothingElse}
use Rattle.wasm_smith_witness.specs.Asking.{full_bounds}
use Rattle.wasm_smith_witness.specs.Family.{AreMemberGroups, IsAskable, is_member_group, are_member_groups, types_of}

-- ---- configurations

bad_somewhere : (table : List Field) (name : List ℕ) → AreGood table → HasBad table name → ⊥
bad_somewhere table name good bad =
    let off : bad.1.is_bad ≡ false = subst (λ (field : Field). field.is_bad ≡ false) bad.3 (good bad.0 bad.1 bad.2) in
    let both : false ≡ true = sym off ∙ bad.4.1 in
    absurd cc

pub not_good : (c : Config) (e : Error) → NamesBad (fields c) e → IsGood c → ⊥
not_good c (BadConfig name) h good = bad_somewhere (fields c) name.now good h
not_good c IncorrectFormat h good = h
not_good c EmptyChoose h good = h
not_good c NotEnoughData h good = h
not_good c (BadShape name) h good = h
not_good c TypeSize h good = h
not_good c Memory h good = h
not_good c TooLong h good = h

pub shapeless : (c : Config) → IsAskable c → HasNoShapes c
shapeless c asked = has_no_shapes c asked.no_shapes

pub bounds_are : (c : Config) → IsAskable c → (types : List (SubType ℕ)) → import_bounds c types ≡ full_bounds c
bounds_are c asked types = bare_bounds c (shapeless c asked) types

pub types_small : (c : Config) → IsAskable c → c.max_types ≤ 2 ^ 31
types_small c asked = ltb-false (2 ^ 31) c.max_types (asked.good 11 (at_least [] 0 0) (omega arith))

pub no_min_types : (c : Config) → IsAskable c → c.min_types ≡ 0
no_min_types c asked = asked.nothing_owed.0

pub no_min_imports : (c : Config) → IsAskable c → c.min_imports ≡ 0
no_min_imports c asked = asked.nothing_owed.1.0

pub no_min_tags : (c : Config) → IsAskable c → c.min_tags ≡ 0
no_min_tags c asked = asked.nothing_owed.1.1.0

pub no_min_funcs : (c : Config) → IsAskable c → c.min_funcs ≡ 0
no_min_funcs c asked = asked.nothing_owed.1.1.1.0

-- nothing has to be made after the functions, and not everything is exported
pub nothing_else : (c : Config) → IsAskable c → OwesNothingElse c
nothing_else c asked =
    let rest = asked.nothing_owed.1.1.1.1 in
    let segments = rest.1.1.1.1 in
    record { minimums = omega (arith, rest.0, rest.1.0, rest.1.1.0, segments.0, segments.1.0, segments.1.1.0); no_exports = asked.no_exports }

-- ---- groups

-- groups have the same types with their forms as without
pub flat_entries : (groups : List (List (SubType ℕ))) → flat.types_of (map entry groups) ≡ types_of groups
flat_entries [] = refl
flat_entries (group ∷ groups) = rw (entry_members group, flat_entries groups) refl

-- these groups are left, after so many types
pub record AreLeft (c : Config) (groups rest : List (List (SubType ℕ))) (before : ℕ) : Type 0 where
  pub room : before ≤ c.max_types
  pub same : are_member_groups c before rest ≡ are_member_groups c 0 groups
  pub types : before + length (types_of rest) ≡ length (types_of groups)

pub split : (groups : List (Vec code.SubType Global)) (i : ℕ) (group : Vec code.SubType Global) → i < length groups → group ≡ get_or groups i group → map group_of (drop i groups) ≡ map sub_type group.items ∷ map group_of (drop (i + 1) groups)
split groups i group lt is = ap (map group_of) (drop_more groups i group lt ∙ ap (λ g. g ∷ drop (i + 1) groups) (sym is))

-- a group that isn't a member, or doesn't fit, tells of all groups
pub member_out : (c : Config) (groups : List (Vec code.SubType Global)) (i : ℕ) (group : Vec code.SubType Global) (before : ℕ) → i < length groups → group ≡ get_or groups i group
    → (is_member_group c (before + length group.items) (map sub_type group.items) ≡ true → c.max_types < before + length group.items)
    → AreLeft c (map group_of groups) (map group_of (drop i groups)) before → AreMemberGroups c (map group_of groups) → ⊥
member_out c groups i group before lt is out left whole =
    let types = map sub_type group.items in
    let rest = map group_of (drop (i + 1) groups) in
    let now : AreLeft c (map group_of groups) (types ∷ rest) before = rw (split groups i group lt is) at left in
    let n : length types ≡ length group.items = length-map group.items sub_type in
    let all : is_member_group c (before + length types) types && are_member_groups c (before + length types) rest ≡ true = now.same ∙ whole.each in
    let both = and_parts (is_member_group c (before + length types) types) (are_member_groups c (before + length types) rest) all in
    let past : c.max_types < before + length group.items = out (ap (λ k. is_member_group c (before + k) types) (sym n) ∙ both.0) in
    let sum : length (types ++ types_of rest) ≡ length types + length (types_of rest) = length-append types (types_of rest) in
    absurd (omega (arith, sum, now.types, n, past, whole.few))
