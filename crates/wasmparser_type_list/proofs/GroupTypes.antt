-- The types of one group after the types before it: they are its sub types, whatever tree it has that opens to them.
use Rattle.std.proofs.Common.{◌≡◌, ℕ, zero, suc, ◌+◌, ◌-◌, ◌<◌, Bool, List, [], ◌∷◌, ◌++◌, length, refl, ap, sym, ◌∙◌, arith, inl, inr, Some, append_assoc, subst, true}
use Rattle.std.proofs.lemmas.List.{append-nil, length-append}
use Rattle.std.proofs.lemmas.Option.{slice_get-map, slice_get_within}
use Rattle.std.specs.List.{slice_get, AllByRecursion, flat_map}
use Rattle.std.specs.Option.{option_map, unwrap_or}
use Rattle.wasm_spec.specs.Syntax.{members}
use Rattle.wasm_spec.specs.TypeReferences.{sub_map, subs_map, sub_refs, group_refs}
use Rattle.wasm_spec.specs.Trees.{GroupTree, opened, DefType, seen_from, unrolled, reference_to, reference_of, tree_of, places_of, types_from, no_type, type_at, RefersBelow, AreInRange}
use Rattle.wasm_spec.specs.Types.{SubType, RecGroup, Single, Group}
use Rattle.wasm_spec.proofs.GroupTrees.{Stand, all_each, length-places_of, type_kept}
use Rattle.wasm_spec.proofs.MappedBack.{all_left, all_right}
use Rattle.wasm_spec.proofs.Places.{get_left, get_right, get_cases, get_either}
use Rattle.wasm_spec.proofs.TypeMaps.{sub_map-sub_map, sub_map_agree}
use Rattle.wasmparser_type_list.specs.IdTypes.{id_types_from, tree_as}
use Rattle.wasmparser_type_list.proofs.MarkedTrees.{opened-as}

pub same_type : (a b : DefType) → a.tree ≡ b.tree → a.place ≡ b.place → a ≡ b
same_type a b trees places =
    ap (λ t. record { tree = t; place = a.place }) trees ∙ ap (λ p. record { tree = b.tree; place = p }) places

pub own_place : {X : Type 0} (tree : GroupTree) (place : ℕ) (xs : List X) (j : ℕ) (type : DefType) → slice_get (places_of tree place xs) j ≡ Some type
    → (type.tree ≡ tree) × (type.place ≡ place + j)
own_place tree place [] j type e = absurd cc
own_place tree place (x ∷ xs) zero type e =
    let one : record { tree = tree; place = place } ≡ type = cc in
    (sym (ap (λ q. q.tree) one), omega (arith, ap (λ q. q.place) one))
own_place tree place (x ∷ xs) (suc j) type e =
    let rest = own_place tree (suc place) xs j type e in (rest.0, omega (arith, rest.1))

places_at : {X : Type 0} (tree : GroupTree) (place : ℕ) (xs : List X) (j : ℕ) → j < length xs → slice_get (places_of tree place xs) j ≡ Some (record { tree = tree; place = place + j })
places_at tree place [] j h = absurd (omega arith)
places_at tree place (x ∷ xs) zero h = let e : place + 0 ≡ place = omega arith in rw e
places_at tree place (x ∷ xs) (suc j) h = let e : place + suc j ≡ suc place + j = omega arith in rw e (places_at tree (suc place) xs j (omega arith))

-- ---- references of a member

pub all_at : {X Y : Type 0} (P : Y → Type 0) (f : X → List Y) (xs : List X) → AllByRecursion P (flat_map f xs) → (j : ℕ) (x : X) → slice_get xs j ≡ Some x → AllByRecursion P (f x)
all_at P f [] h j x e = absurd cc
all_at P f (y ∷ xs) h zero x e =
    let one : y ≡ x = cc in
    let Q : _ → Type 0 = λ z. AllByRecursion P (f z) in
    subst Q one (all_left P (f y) (flat_map f xs) h)
all_at P f (y ∷ xs) h (suc j) x e = all_at P f xs (all_right P (f y) (flat_map f xs) h) j x e

member_refs : (P : ℕ → Type 0) (group : RecGroup ℕ) → AllByRecursion P (group_refs group) → (j : ℕ) (type : SubType ℕ) → slice_get (members group) j ≡ Some type → AllByRecursion P (sub_refs type)
member_refs P (Single type) h j m e = all_at P sub_refs (type ∷ []) (rw (append-nil (sub_refs type)) h) j m e
member_refs P (Group types) h j m e = all_at P sub_refs types h j m e

-- ---- one group

module _ (before : List DefType) (group : RecGroup ℕ) (tree : GroupTree) (opens : opened tree ≡ subs_map (reference_of before) (members group)) (in_range : RefersBelow (length before + length (members group)) group) where
  abbrev after : List DefType
  after = before ++ places_of tree 0 (members group)

  pub length-after : length after ≡ length before + length (members group)
  length-after = omega (arith, length-append before (places_of tree 0 (members group)), length-places_of tree 0 (members group))

  own_at : (j : ℕ) → j < length (members group) → type_at after (length before + j) ≡ record { tree = tree; place = j }
  own_at j h =
      let zero_add : 0 + j ≡ j = omega arith in
      ap (λ q. unwrap_or q no_type) (get_right before (places_of tree 0 (members group)) j ∙ places_at tree 0 (members group) j h) ∙ ap (λ p. record { tree = tree; place = p }) zero_add

  -- seen from its group or by index, a reference is one type
  seen_same : (n : ℕ) → n < length before + length (members group) → seen_from tree (reference_of before n) ≡ type_at after n
  seen_same n h = elim (get_either before n) [
    | inl at ↦
        let left : seen_from tree (reference_to (slice_get before n) (n - length before)) ≡ at.0 = rw at.1 in
        left ∙ sym (ap (λ q. unwrap_or q no_type) (get_left before (places_of tree 0 (members group)) n at.2 ∙ at.1))
    | inr at ↦
        let j = at.1.0 in
        let place : n - length before ≡ j = omega (arith, at.1.1) in
        let left : seen_from tree (reference_to (slice_get before n) (n - length before)) ≡ record { tree = tree; place = j } = rw (at.0, place) in
        left ∙ sym (ap (type_at after) at.1.1 ∙ own_at j (omega (arith, h, at.1.1)))
  ]

  own_unrolls : (j : ℕ) (type : SubType ℕ) → slice_get (members group) j ≡ Some type → unrolled (type_at after (length before + j)) ≡ Some (sub_map (type_at after) type)
  own_unrolls j type e =
      let read : slice_get (opened tree) j ≡ Some (sub_map (reference_of before) type) =
      ap (λ q. slice_get q j) opens ∙ slice_get-map (sub_map (reference_of before)) (members group) j ∙ ap (option_map (sub_map (reference_of before))) e in
      let refs = member_refs (λ n. n < length before + length (members group)) group in_range j type e in
      let agree : sub_map (λ n. seen_from tree (reference_of before n)) type ≡ sub_map (type_at after) type =
      sub_map_agree no_type (λ n. seen_from tree (reference_of before n)) (type_at after) type
      (all_each (λ n. n < length before + length (members group)) (λ n. seen_from tree (reference_of before n) ≡ type_at after n) seen_same (sub_refs type) refs) in
      ap unrolled (own_at j (slice_get_within (members group) j type e)) ∙ ap (option_map (sub_map (seen_from tree))) read
      ∙ ap Some (sub_map-sub_map (seen_from tree) (reference_of before) type ∙ agree)

  pub stand_after : (types : List (SubType ℕ)) → Stand types before → Stand (types ++ members group) after
  stand_after types it = record {
    lengths = omega (arith, length-after, length-append types (members group), it.lengths);
    in_range = λ i s e. elim (get_cases types (members group) i s e) [
      | inl at ↦ all_each (λ n. n < length before) (λ n. n < length after) (λ n h. omega (arith, h, length-after)) (sub_refs s) (it.in_range i s at)
      | inr at ↦ all_each (λ n. n < length before + length (members group)) (λ n. n < length after) (λ n h. omega (arith, h, length-after)) (sub_refs s)
          (member_refs (λ n. n < length before + length (members group)) group in_range at.0 s at.2)
    ];
    unrolls = λ i s e. elim (get_cases types (members group) i s e) [
      | inl at ↦
          let within : i < length before = omega (arith, slice_get_within types i s at, it.lengths) in
          let kept : sub_map (type_at after) s ≡ sub_map (type_at before) s =
          sub_map_agree no_type (type_at after) (type_at before) s
          (all_each (λ n. n < length before) (λ n. type_at after n ≡ type_at before n) (type_kept before (places_of tree 0 (members group))) (sub_refs s) (it.in_range i s at)) in
          ap unrolled (type_kept before (places_of tree 0 (members group)) i within) ∙ it.unrolls i s at ∙ ap Some (sym kept)
      | inr at ↦
          let i_is : i ≡ length before + at.0 = omega (arith, at.1, it.lengths) in
          ap (λ q. unrolled (type_at after q)) i_is ∙ own_unrolls at.0 s at.2
    ];
  }

-- ---- groups one after the other

module _ (canonical : ℕ → Bool) where
  pub stand_from : (number : ℕ) (groups : List (RecGroup ℕ)) (types : List (SubType ℕ)) (before : List DefType) → Stand types before → AreInRange (length before) groups
      → Stand (types ++ flat_map members groups) (id_types_from canonical number before groups)
  stand_from number [] types before it range = rw (append-nil types) it
  stand_from number (group ∷ groups) types before it range =
      let tree = tree_as (canonical number) number (tree_of before group) in
      let opens = opened-as (canonical number) number (subs_map (reference_of before) (members group)) in
      let after = before ++ places_of tree 0 (members group) in
      let rest : AreInRange (length after) groups = rw (length-after before group tree opens range.0) range.1 in
      rw (← append_assoc types (members group) (flat_map members groups))
      (stand_from (suc number) groups (types ++ members group) after (stand_after before group tree opens range.0 types it) rest)

  pub count_from : (number : ℕ) (groups : List (RecGroup ℕ)) (before : List DefType) → length (id_types_from canonical number before groups) ≡ length before + length (flat_map members groups)
  count_from number [] before = omega arith
  count_from number (group ∷ groups) before =
      let tree = tree_as (canonical number) number (tree_of before group) in
      let places = places_of tree 0 (members group) in
      omega (arith, count_from (suc number) groups (before ++ places), length-append before places, length-places_of tree 0 (members group), length-append (members group) (flat_map members groups))

pub all_canonical : (number : ℕ) (groups : List (RecGroup ℕ)) (before : List DefType) → id_types_from (λ _. true) number before groups ≡ types_from before groups
all_canonical number [] before = refl
all_canonical number (group ∷ groups) before = all_canonical (suc number) groups (before ++ places_of (tree_of before group) 0 (members group))
