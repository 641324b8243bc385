-- Groups that are checked one after the other, as far as a loop has come.
use Rattle.std.proofs.Common.{◌≡◌, ◌↔◌, ℕ, ◌+◌, ◌≤◌, ◌<◌, Bool, true, List, [], ◌∷◌, ◌++◌, take, drop, length, map, get_or, append_assoc, refl, sym, ap, ◌∙◌, arith, subst, length-append}
use Rattle.std.specs.Global.{Global}
use Rattle.std.specs.List.{list_all}
use Rattle.std.specs.declared.vec.Vec.{Vec}
use Rattle.std.proofs.lemmas.Bool.{and_from, and_parts}
use Rattle.std.proofs.lemmas.List.{length-map}
use Rattle.wasm_core_types.specs.SubTypes.{sub_type}
use Rattle.wasm_core_types.specs.declared.types.SubType as code
use Rattle.wasm_spec.specs.Features.{Features}
use Rattle.wasm_spec.specs.Syntax.{members}
use Rattle.wasm_spec.specs.Types.{RecGroup, SubType}
use Rattle.wasm_smith_validity.specs.ValidGroups.{AllKeepTypeRules, AreValidAfter, IsValidGroup, entry, types_of}
use Rattle.wasm_smith_validity.proofs.GroupLaws.{entry_members, rules_after}
use Rattle.wasm_smith_shapes.specs.Forms.{may_have_type}
use Rattle.wasm_smith_shapes.specs.Shapes.{group_of}
use Rattle.wasm_smith_shapes.specs.declared.shape.ShapeUse.{ShapeUse}
use Rattle.wasm_smith_shapes.proofs.FlatLaws.{done, next_left}
use Rattle.wasm_smith_shapes.proofs.GroupParts.{length_take, map_take}

take_all : {X : Type 0} (xs ys : List X) → take (length xs) (xs ++ ys) ≡ xs
take_all [] ys = refl
take_all (x ∷ xs) ys = ap (λ zs. x ∷ zs) (take_all xs ys)

drop_all : {X : Type 0} (xs ys : List X) → drop (length xs) (xs ++ ys) ≡ ys
drop_all [] ys = refl
drop_all (x ∷ xs) ys = drop_all xs ys

all_both : {X : Type 0} (test : X → Bool) (xs ys : List X) → list_all test (xs ++ ys) ≡ true ↔ ((list_all test xs ≡ true) × (list_all test ys ≡ true))
all_both test [] ys = ((λ e. (refl, e)), (λ both. both.1))
all_both test (x ∷ xs) ys =
    let more = all_both test xs ys in (
      (λ e.
          let parts = and_parts (test x) (list_all test (xs ++ ys)) e in
          let (first, last) = more.0 parts.1 in
          (and_from (test x) (list_all test xs) parts.0 first, last)),
      (λ both.
          let parts = and_parts (test x) (list_all test xs) both.0 in
          and_from (test x) (list_all test (xs ++ ys)) parts.0 (more.1 (parts.1, both.1))),
    )

module _ (features : Features) (purpose : ShapeUse) (groups : List (Vec code.SubType Global)) (ts : List (SubType ℕ)) where
  abbrev left : ℕ → List (RecGroup ℕ)
  left i = map group_of (drop i groups)

  abbrev Good : List (SubType ℕ) → List (RecGroup ℕ) → Type 0
  Good before gs = AreValidAfter features before gs × (list_all (may_have_type purpose) (types_of gs) ≡ true)

  -- the first types are those of the groups before this place, and keep the rules; what is left is good where all is
  pub record IsAsFar (i start : ℕ) : Type 0 where
    pub front : List (SubType ℕ)
    pub long : length front ≡ start
    pub parts : front ++ types_of (left i) ≡ ts
    pub rules : AllKeepTypeRules front
    pub same : Good front (left i) ↔ Good [] (map group_of groups)

  pub begins : ts ≡ types_of (map group_of groups) → IsAsFar 0 0
  begins all = record { front = []; long = refl; parts = sym all; rules = λ index type is. absurd cc; same = ((λ h. h), (λ h. h)) }

  pub ends : (i start : ℕ) → IsAsFar i start → length groups ≤ i → Good [] (map group_of groups)
  ends i start far past = far.same.0 (rw (done groups i past) (tt, refl))

  module _ (i start : ℕ) (group : Vec code.SubType Global) (far : IsAsFar i start) (lt : i < length groups) (is : group ≡ get_or groups i group) (n : ℕ) (size : n ≡ length group.items) where
    abbrev own : List (SubType ℕ)
    own = map sub_type group.items

    next : left i ≡ group_of group ∷ left (i + 1)
    next = ap (map group_of) (next_left groups i group lt is)

    next_types : types_of (left i) ≡ own ++ types_of (left (i + 1))
    next_types = ap types_of next ∙ ap (λ xs. xs ++ types_of (left (i + 1))) (entry_members own)

    split : (far.front ++ own) ++ types_of (left (i + 1)) ≡ ts
    split = append_assoc far.front own (types_of (left (i + 1))) ∙ ap (λ xs. far.front ++ xs) (sym next_types) ∙ far.parts

    long : length (far.front ++ own) ≡ start + n
    long = omega (arith, length-append far.front own, far.long, length-map group.items sub_type, size)

    pub within : start + n ≤ length ts
    within = omega (arith, long, ap length (sym split), length-append (far.front ++ own) (types_of (left (i + 1))))

    -- the types up to the group's end, those before it, and its own
    pub slice : take (start + n) ts ≡ far.front ++ own
    slice = ap (λ n. take n ts) (sym long) ∙ ap (take (length (far.front ++ own))) (sym split) ∙ take_all (far.front ++ own) (types_of (left (i + 1)))

    pub slice_front : take start (take (start + n) ts) ≡ far.front
    slice_front = ap (take start) slice ∙ ap (λ n. take n (far.front ++ own)) (sym far.long) ∙ take_all far.front own

    pub slice_own : drop start (take (start + n) ts) ≡ own
    slice_own = ap (drop start) slice ∙ ap (λ n. drop n (far.front ++ own)) (sym far.long) ∙ drop_all far.front own

    abbrev IsGood : Type 0
    IsGood = IsValidGroup features far.front (group_of group) × (list_all (may_have_type purpose) own ≡ true)

    -- the slice of the types up to the group's end
    module _ (types : List code.SubType) (e : ts ≡ map sub_type types) where
      abbrev seen : List (SubType ℕ)
      seen = map sub_type (take (start + n) types)

      seen_is : seen ≡ take (start + n) ts
      seen_is = map_take sub_type (start + n) types ∙ ap (take (start + n)) (sym e)

      pub sliced : length (take (start + n) types) ≡ start + n
      sliced = length_take (start + n) types (omega (arith, within, ap length e, length-map types sub_type))

      seen_front : take start seen ≡ far.front
      seen_front = ap (take start) seen_is ∙ slice_front

      seen_own : drop start seen ≡ own
      seen_own = ap (drop start) seen_is ∙ slice_own

      pub rules_there : AllKeepTypeRules (take start seen)
      rules_there = subst AllKeepTypeRules (sym seen_front) far.rules

      abbrev Checked : List (SubType ℕ) → List (SubType ℕ) → Type 0
      Checked front members = IsValidGroup features front (entry members) × (list_all (may_have_type purpose) members ≡ true)

      -- the group is good as it is checked
      pub good_there : Checked (take start seen) (drop start seen) ↔ IsGood
      good_there = (
        (λ h. subst (λ xs. Checked xs own) seen_front (subst (Checked (take start seen)) seen_own h)),
        (λ h. subst (Checked (take start seen)) (sym seen_own) (subst (λ xs. Checked xs own) (sym seen_front) h)),
      )

    -- what is left is good where the next group is, and what is left after it
    step : Good far.front (left i) ↔ (IsGood × Good (far.front ++ own) (left (i + 1)))
    step =
        let both = all_both (may_have_type purpose) own (types_of (left (i + 1))) in
        let Front : List (RecGroup ℕ) → Type 0 = λ gs. AreValidAfter features far.front gs in
        let Behind : List (SubType ℕ) → Type 0 = λ xs. AreValidAfter features xs (left (i + 1)) in
        let Forms : List (SubType ℕ) → Type 0 = λ xs. list_all (may_have_type purpose) xs ≡ true in
        let same = ap (λ xs. far.front ++ xs) (entry_members own) in (
          (λ h.
              let valid = subst Front next h.0 in
              let forms = both.0 (subst Forms next_types h.1) in
              ((valid.0, forms.0), (subst Behind same valid.1, forms.1))),
          (λ h. (subst Front (sym next) (h.0.0, subst Behind (sym same) h.1.0), subst Forms (sym next_types) (both.1 (h.0.1, h.1.1)))),
        )

    pub goes_on : IsGood → IsAsFar (i + 1) (start + n)
    goes_on good = record {
      front = far.front ++ own;
      long = long;
      parts = split;
      rules = subst AllKeepTypeRules (ap (λ xs. far.front ++ xs) (entry_members own)) (rules_after features far.front (group_of group) far.rules good.0);
      same = ((λ h. far.same.0 (step.1 (good, h))), (λ h. (step.0 (far.same.1 h)).1));
    }

    pub stops : ¬ IsGood → ¬ (Good [] (map group_of groups))
    stops bad all = bad (step.0 (far.same.1 all)).0
