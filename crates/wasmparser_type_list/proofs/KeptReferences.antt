-- Kept types have no places in groups, so they are the same inside and outside of one.
use Rattle.std.proofs.Common.{◌≡◌, ◌↔◌, ◌⊎◌, inl, inr, ℕ, zero, suc, ◌+◌, ◌-◌, List, [], ◌∷◌, ◌++◌, length, map, take, drop, slice_get, Some, None, refl, sym, ap, ◌∙◌, subst, arith}
use Rattle.std.proofs.lemmas.Grind.{flat_map-append}
use Rattle.std.proofs.lemmas.List.{append-nil, drop-drop, drop_all, length-map, take-append-drop}
use Rattle.std.specs.List.{AllByRecursion}
use Rattle.std.specs.declared.ops.Range.{Range}
use Rattle.wasm_spec.proofs.MappedBack.{all_left, all_right}
use Rattle.wasm_spec.proofs.TypeMaps.{same_subs, subs_map-subs_map, subs_refs-map}
use Rattle.wasm_spec.specs.Matching.{CompositeMatches}
use Rattle.wasm_spec.specs.TypeReferences.{composite_map, sub_map, sub_refs, subs_map, subs_refs}
use Rattle.wasm_spec.specs.Types.{SubType}
use Rattle.wasmparser_types.specs.Index.{Index, Module, RecGroup, Id}
use Rattle.wasmparser_types.specs.SubTypes.{sub_type}
use Rattle.wasmparser_type_list.specs.TypeTables.{AreConsecutive, IdMatches, IsWithin, RefersBack, TablesAgree, TypeTables, resolved_in, sub_types, type_by_id}

-- no reference is a place
abbrev pub HasNoPlace : Index → Type 0
HasNoPlace i = (bound : ℕ) × IsWithin bound 0 i

all_append : {X : Type 0} (P : X → Type 0) (xs ys : List X) → AllByRecursion P xs → AllByRecursion P ys → AllByRecursion P (xs ++ ys)
all_append P [] ys h k = k
all_append P (x ∷ xs) ys h k = (h.0, all_append P xs ys h.1 k)

all_from : {X : Type 0} (P Q : X → Type 0) → ((x : X) → P x → Q x) → (xs : List X) → AllByRecursion P xs → AllByRecursion Q xs
all_from P Q one [] h = tt
all_from P Q one (x ∷ xs) h = (one x h.0, all_from P Q one xs h.1)

refs_at : (P : Index → Type 0) (xs : List (SubType Index)) (i : ℕ) (x : SubType Index) → AllByRecursion P (subs_refs xs) → slice_get xs i ≡ Some x → AllByRecursion P (sub_refs x)
refs_at P [] i x all e = absurd cc
refs_at P (y ∷ xs) zero x all e =
    let one : y ≡ x = cc in
    subst (λ (z : SubType Index). AllByRecursion P (sub_refs z)) one (all_left P (sub_refs y) (subs_refs xs) all)
refs_at P (y ∷ xs) (suc i) x all e = refs_at P xs i x (all_right P (sub_refs y) (subs_refs xs) all) e

module _ (tables : TypeTables) (agree : TablesAgree tables) where
  abbrev types : List (SubType Index)
  types = sub_types tables

  from : (start : ℕ) (ranges : List (Range ℕ)) → AreConsecutive start ranges (length tables.types) → AllByRecursion (RefersBack tables) ranges → AllByRecursion HasNoPlace (subs_refs (drop start types))
  from start [] are known = let none : drop start types ≡ [] = drop_all start types (omega (arith, are, length-map tables.types sub_type)) in rw none tt
  from start (range ∷ ranges) are known =
      let count = range.end - range.start in
      let rest : drop count (drop range.start types) ≡ drop range.end types =
      let sum : range.start + count ≡ range.end = omega (arith, are.1) in drop-drop count range.start types ∙ ap (λ n. drop n types) sum in
      let split : drop start types ≡ take count (drop range.start types) ++ drop range.end types =
      ap (λ n. drop n types) (sym are.0) ∙ sym (take-append-drop count (drop range.start types)) ∙ ap (λ q. take count (drop range.start types) ++ q) rest in
      let here = all_from (IsWithin range.end 0) HasNoPlace (λ i h. (range.end, h)) (subs_refs (take count (drop range.start types))) known.0 in
      let all = all_append HasNoPlace (subs_refs (take count (drop range.start types))) (subs_refs (drop range.end types)) here (from range.end ranges are.2 known.1) in
      subst (λ q. AllByRecursion HasNoPlace (subs_refs q)) (sym split) (subst (AllByRecursion HasNoPlace) (sym (flat_map-append sub_refs (take count (drop range.start types)) (drop range.end types))) all)

  no_places : (n : ℕ) (type : SubType Index) → slice_get types n ≡ Some type → AllByRecursion HasNoPlace (sub_refs type)
  no_places n type e = refs_at HasNoPlace types n type (from 0 tables.groups agree.groups agree.references) e

  same_index : (group : ℕ) (i : Index) → HasNoPlace i → resolved_in tables group i ≡ i
  same_index group (Module n) h = refl
  same_index group (RecGroup n) h = absurd (omega (arith, h.1))
  same_index group (Id n) h = refl

  same_refs : (group : ℕ) (refs : List Index) → AllByRecursion HasNoPlace refs → map (resolved_in tables group) refs ≡ refs
  same_refs group [] all = refl
  same_refs group (i ∷ refs) all = rw (same_index group i all.0, same_refs group refs all.1)

  pub same_composite : (group n : ℕ) (type : SubType Index) → slice_get types n ≡ Some type → composite_map (resolved_in tables group) type.composite_type ≡ type.composite_type
  same_composite group n type e =
      let f = resolved_in tables group in
      let refs = same_refs group (subs_refs (type ∷ [])) (rw (append-nil (sub_refs type)) (no_places n type e)) in
      let whole : subs_map f (type ∷ []) ≡ type ∷ [] =
      same_subs (Id 0) (subs_map f (type ∷ [])) (type ∷ []) (subs_map-subs_map (λ _. tt {0}) f (type ∷ [])) (subs_refs-map f (type ∷ []) ∙ refs) in
      let one : sub_map f type ≡ type = cc in
      ap (λ (s : SubType Index). s.composite_type) one

  -- matching of what two ids stand for, whatever groups they are read in
  pub matches_by_id : (P : Type 0) (a b a_group b_group : ℕ) (lower upper : SubType Index) → slice_get types a ≡ Some lower → slice_get types b ≡ Some upper
      → P ↔ CompositeMatches (type_by_id tables) (composite_map (resolved_in tables a_group) lower.composite_type) (composite_map (resolved_in tables b_group) upper.composite_type)
      → P ↔ IdMatches tables a b
  matches_by_id P a b a_group b_group lower upper a_is b_is is =
      let same_a = same_composite a_group a lower a_is in
      let same_b = same_composite b_group b upper b_is in
      let Match : SubType Index → SubType Index → Type 0 = λ x y. CompositeMatches (type_by_id tables) x.composite_type y.composite_type in (
        (λ h. record { lower = lower; upper = upper; a_is = a_is; b_is = b_is; matches = rw (same_a, same_b) at (is.0 h) }),
        (λ m.
            let one : m.lower ≡ lower = let e = m.a_is in cc in
            let two : m.upper ≡ upper = let e = m.b_is in cc in
            is.1 (rw (same_a, same_b) (subst (λ x. Match x upper) one (subst (Match m.lower) two m.matches)))),
      )

  pub no_match : (a b : ℕ) → (slice_get types a ≡ None) ⊎ (slice_get types b ≡ None) → ¬ (IdMatches tables a b)
  no_match a b (inl none) m = let e = m.a_is in cc
  no_match a b (inr none) m = let e = m.b_is in cc
