use Rattle.std.proofs.Common.{◌≡◌, ℕ, zero, suc, ◌+◌, ◌≤◌, ◌<◌, ◌&&◌, true, replicate, List, [], ◌∷◌, ◌++◌, Some, arith, refl, ap, sym, ◌∙◌, subst}
use Rattle.std.proofs.lemmas.List.{length-map, length-replicate}
use Rattle.std.specs.List.{AllByRecursion, list_all, flat_map}
use Rattle.wasm_spec.specs.Features.{Features}
use Rattle.wasm_spec.specs.Gates.{is_allowed}
use Rattle.wasm_spec.specs.Groups.{IsWithinGroupLimits, KeepsGroupRules, items_in, many_items}
use Rattle.wasm_spec.specs.Limits.{Limit, Params, most}
use Rattle.wasm_spec.specs.Trees.{DefType, section_types, type_at, unrolled}
use Rattle.wasm_spec.specs.TypeReferences.{sub_map, val_map, val_refs}
use Rattle.wasm_spec.specs.Types.{I32, Single, Group, RecGroup, SubType}
use Rattle.wasm_spec.proofs.SectionTypes.{section_keeps}
use Rattle.wasm_spec.proofs.TypeLimits.{depth_zero, passes_none}
use Rattle.wasm_spec_examples.specs.TypeExamples.{of_params}
use Rattle.wasm_spec_examples.proofs.type_examples.group_limits.Goals as goal

all_allowed : (features : Features) (n : ℕ) → list_all (is_allowed {R = ℕ} features) (replicate n I32) ≡ true
all_allowed features zero = refl
all_allowed features (suc n) = all_allowed features n

no_references : (n : ℕ) → flat_map (val_refs {R = ℕ}) (replicate n I32) ≡ []
no_references zero = refl
no_references (suc n) = no_references n

all_of_none : (P : ℕ → Type 0) (rs : List ℕ) → rs ≡ [] → AllByRecursion P rs
all_of_none P rs e = subst (AllByRecursion P) (sym e) tt

-- the type of a group of one function type
abbrev type_of : ℕ → DefType
type_of n = type_at (section_types (Single (of_params n) ∷ [])) 0

abbrev unrolled_type : ℕ → SubType DefType
unrolled_type n = sub_map (type_at (section_types (Single (of_params n) ∷ []))) (of_params n)

unrolls : (n : ℕ) → unrolled (type_of n) ≡ Some (unrolled_type n)
unrolls n =
    let range = all_of_none (λ index. index < 0 + 1) _ (ap (λ rs. rs ++ []) (no_references n)) in
    section_keeps (Single (of_params n) ∷ []) (range, tt) 0 (of_params n) refl

count : (n : ℕ) → items_in (unrolled_type n).composite_type Params ≡ n
count n =
    length-map (replicate n I32) (val_map (type_at (section_types (Single (of_params n) ∷ [])))) ∙ length-replicate n I32

few : (n : ℕ) → n ≤ 1000 → (limit : Limit) → items_in (unrolled_type n).composite_type limit ≤ most limit
few n h Params = omega (arith, h, count n)
few n h _ = omega arith

keeps_rules : (features : Features) (n : ℕ) → KeepsGroupRules features [] (Single (of_params n))
keeps_rules features n = record {
  allowed = ap (λ b. (b && true) && true) (all_allowed features n);
  in_range = all_of_none _ _ (ap (λ rs. rs ++ []) (no_references n));
  each = (record { earlier = tt; extends = record { at_most_one = omega arith; each = tt }; continues = tt }, tt);
}

within : IsWithinGroupLimits [] (Single (of_params 1000))
within =
    let depth = depth_zero unrolled (type_of 1000) (unrolled_type 1000) (unrolls 1000) refl in
    (passes_none unrolled (type_of 1000) (unrolled_type 1000) 0 (unrolls 1000) depth (omega arith) (few 1000 (omega arith)), tt)

passed : IsWithinGroupLimits [] (Single (of_params 1001)) → ⊥
passed within =
    let more : 1000 < items_in (unrolled_type 1001).composite_type Params = omega (arith, count 1001) in
    within.0 Params (many_items (record { type = unrolled_type 1001; is = unrolls 1001; holds = more }))

-- a group whose middle member has so many parameters
abbrev three : ℕ → RecGroup ℕ
three n = Group (of_params 0 ∷ of_params n ∷ of_params 0 ∷ [])

abbrev middle_type : ℕ → SubType DefType
middle_type n = sub_map (type_at (section_types (three n ∷ []))) (of_params n)

middle_unrolls : (n : ℕ) → unrolled (type_at (section_types (three n ∷ [])) 1) ≡ Some (middle_type n)
middle_unrolls n =
    let range = all_of_none (λ index. index < 0 + 3) _ (ap (λ rs. (rs ++ []) ++ []) (no_references n)) in
    section_keeps (three n ∷ []) (range, tt) 1 (of_params n) refl

middle_passed : (n : ℕ) → 1000 < n → IsWithinGroupLimits [] (three n) → ⊥
middle_passed n h within =
    let counted : items_in (middle_type n).composite_type Params ≡ n =
    length-map (replicate n I32) (val_map (type_at (section_types (three n ∷ [])))) ∙ length-replicate n I32 in
    let more : 1000 < items_in (middle_type n).composite_type Params = omega (arith, h, counted) in
    within.1.0 Params (many_items (record { type = middle_type n; is = middle_unrolls n; holds = more }))

pub returns : goal.returns
returns c = record {
  rules = keeps_rules;
  most_params = within;
  many_params = passed;
  middle = middle_passed 1001 (omega arith);
  well_formed = λ features. record { rules = keeps_rules features 1000; within_limits = within };
  refused = λ features h. passed h.within_limits;
}
