-- A clone of a group in the flat list of types.
use Rattle.std.proofs.Common.{◌≡◌, ℕ, zero, suc, ◌+◌, ◌-◌, ◌^◌, ◌≤◌, ◌<◌, true, List, [], ◌∷◌, ◌++◌, map, take, drop, length, Some, append_assoc, refl, sym, ap, ◌∙◌, arith, inl, inr, subst, length-append, length-drop}
use Rattle.std.proofs.lemmas.Bool.{cases_lt, lt-ltb, le-ltb}
use Rattle.std.proofs.lemmas.List.{length-map, map-append, append-nil}
use Rattle.std.proofs.lemmas.Option.{slice_get_within, slice_get-map}
use Rattle.std.specs.List.{slice_get, AllByRecursion, flat_map}
use Rattle.wasm_spec.specs.Features.{Features, Gc, has}
use Rattle.wasm_spec.specs.Gates.{is_allowed_composite}
use Rattle.wasm_spec.specs.Syntax.{members}
use Rattle.wasm_spec.specs.TypeReferences.{composite_map, sub_map, sub_refs, composite_refs, group_map, group_refs, val_map, field_map}
use Rattle.wasm_spec.specs.Types.{SubType, RecGroup, CompositeType, FuncComposite, StructComposite, ArrayComposite, ContComposite}
use Rattle.wasm_spec.proofs.MappedBack.{all_left, all_right}
use Rattle.wasm_spec.proofs.Places.{all_by_place, get_left, get_cases}
use Rattle.wasm_spec.proofs.TypeMaps.{sub_map_agree}
use Rattle.wasm_smith_types.specs.Clones.{shifted, clone_of}
use Rattle.wasm_smith_types.specs.Copies.{shifted_index}
use Rattle.wasm_smith_types.specs.Drawing.{total}
use Rattle.wasm_smith_types.specs.Bounds.{IsSmallComposite}
use Rattle.wasm_smith_types.specs.Fitting.{IsSpan}
use Rattle.wasm_smith_types.specs.Grouped.{cloned, grouped, shifted_types}
use Rattle.wasm_smith_types.specs.Making.{IsMember, AreMembers}
use Rattle.wasm_smith_validity.specs.ValidGroups.{IsValidGroup, AreValidGroups, types_of, entry}
use Rattle.wasm_smith_types.specs.declared.fitting.Span.{Span}
use Rattle.wasm_smith_types.proofs.CloneLaws.{clone_of_valid, allowed_composite, from_option}
use Rattle.wasm_smith_types.proofs.PermittedLaws.{all_imply'}
use Rattle.wasm_smith_validity.proofs.GroupLaws.{rules_with_more}
use Rattle.wasm_smith_types.proofs.GroupedLaws.{types_of_grouped, grouped_more, valid_more, whole_more, sum_more, sub_in_range, members_below_more}
use Rattle.wasm_smith_validity.proofs.GroupLaws.{entry_members}

-- ---- lists in parts

drop_nothing : {X : Type 0} (n : ℕ) → drop {A = X} n [] ≡ []
drop_nothing zero = refl
drop_nothing (suc n) = refl

take_nothing : {X : Type 0} (n : ℕ) → take {A = X} n [] ≡ []
take_nothing zero = refl
take_nothing (suc n) = refl

drop_drop : {X : Type 0} (n m : ℕ) (xs : List X) → drop m (drop n xs) ≡ drop (n + m) xs
drop_drop zero m xs = let e : 0 + m ≡ m = omega arith in rw e refl
drop_drop (suc n) m [] = drop_nothing m ∙ sym (drop_nothing (suc n + m))
drop_drop (suc n) m (x ∷ xs) = let e : suc n + m ≡ suc (n + m) = omega arith in rw e (drop_drop n m xs)

take_take : {X : Type 0} (n m : ℕ) (xs : List X) → take n xs ++ take m (drop n xs) ≡ take (n + m) xs
take_take zero m xs = let e : 0 + m ≡ m = omega arith in rw e refl
take_take (suc n) m [] = take_nothing m ∙ sym (take_nothing (suc n + m))
take_take (suc n) m (x ∷ xs) = let e : suc n + m ≡ suc (n + m) = omega arith in rw e (ap (λ zs. x ∷ zs) (take_take n m xs))

length_take : {X : Type 0} (n : ℕ) (xs : List X) → n ≤ length xs → length (take n xs) ≡ n
length_take zero xs h = refl
length_take (suc n) [] h = absurd (omega (arith, h))
length_take (suc n) (x ∷ xs) h = ap suc (length_take n xs (omega (arith, h)))

few_taken : {X : Type 0} (n : ℕ) (xs : List X) → length (take n xs) ≤ n
few_taken zero xs = omega arith
few_taken (suc n) [] = omega arith
few_taken (suc n) (x ∷ xs) = let h = few_taken n xs in omega (arith, h)

get_dropped : {X : Type 0} (n i : ℕ) (xs : List X) → slice_get (drop n xs) i ≡ slice_get xs (n + i)
get_dropped zero i xs = let e : 0 + i ≡ i = omega arith in rw e refl
get_dropped (suc n) i [] = refl
get_dropped (suc n) i (x ∷ xs) = let e : suc n + i ≡ suc (n + i) = omega arith in rw e (get_dropped n i xs)

get_taken : {X : Type 0} (n i : ℕ) (xs : List X) (x : X) → slice_get (take n xs) i ≡ Some x → slice_get xs i ≡ Some x
get_taken zero i xs x e = absurd cc
get_taken (suc n) i [] x e = absurd cc
get_taken (suc n) zero (y ∷ xs) x e = e
get_taken (suc n) (suc i) (y ∷ xs) x e = get_taken n i xs x e

pub take_one_more : {X : Type 0} (i : ℕ) (xs : List X) (x : X) → slice_get xs i ≡ Some x → take (i + 1) xs ≡ take i xs ++ x ∷ []
take_one_more i [] x e = absurd cc
take_one_more zero (y ∷ xs) x e = let one : y ≡ x = cc in ap (λ z. z ∷ []) one
take_one_more (suc i) (y ∷ xs) x e = let k : suc i + 1 ≡ suc (i + 1) = omega arith in rw k (ap (λ zs. y ∷ zs) (take_one_more i xs x e))

-- ---- one of the groups

pub span_within : (sizes : List ℕ) (place size : ℕ) → slice_get sizes place ≡ Some size → total (take place sizes) + size ≤ total sizes
span_within [] place size e = absurd cc
span_within (n ∷ ns) zero size e = let one : n ≡ size = cc in omega (arith, one)
span_within (n ∷ ns) (suc place) size e = let h = span_within ns place size e in omega (arith, h)

record Split (sizes : List ℕ) (ts : List (SubType ℕ)) (start size : ℕ) : Type 0 where
  front : List (RecGroup ℕ)
  back : List (RecGroup ℕ)
  is : grouped sizes ts ≡ front ++ entry (take size (drop start ts)) ∷ back
  before : types_of front ≡ take start ts

split : (sizes : List ℕ) (ts : List (SubType ℕ)) (place size : ℕ) → slice_get sizes place ≡ Some size → Split sizes ts (total (take place sizes)) size
split [] ts place size e = absurd cc
split (n ∷ ns) ts zero size e =
    let one : n ≡ size = cc in record { front = []; back = grouped ns (drop n ts); is = ap (λ m. entry (take m ts) ∷ grouped ns (drop n ts)) one; before = refl }
split (n ∷ ns) ts (suc place) size e =
    let rest = split ns (drop n ts) place size e in
    let m = total (take place ns) in
    record {
      front = entry (take n ts) ∷ rest.front;
      back = rest.back;
      is = ap (λ gs. entry (take n ts) ∷ gs) rest.is ∙ ap (λ xs. entry (take n ts) ∷ (rest.front ++ entry (take size xs) ∷ rest.back)) (drop_drop n m ts);
      before = ap (λ xs. xs ++ types_of rest.front) (entry_members (take n ts)) ∙ ap (λ xs. take n ts ++ xs) rest.before ∙ take_take n m ts;
    }

-- ---- shifted types

shifted_same : (start by r : ℕ) → r + by < 2 ^ 32 → shifted_index start by r ≡ shifted start by r
shifted_same start by r h = elim (cases_lt r start) [
  | inl low ↦ rw (lt-ltb r start low) refl
  | inr high ↦ rw (le-ltb r start high) (omega (arith, h))
]

pub entry_map : (f : ℕ → ℕ) (types : List (SubType ℕ)) → group_map f (entry types) ≡ entry (map (sub_map f) types)
entry_map f [] = refl
entry_map f (t ∷ []) = refl
entry_map f (t ∷ u ∷ types) = refl

map_agree : {X Y : Type 0} (f g : X → Y) (xs : List X) → AllByRecursion (λ x. f x ≡ g x) xs → map f xs ≡ map g xs
map_agree f g [] h = refl
map_agree f g (x ∷ xs) h = rw (h.0, map_agree f g xs h.1) refl

small_map : (f : ℕ → ℕ) (c : CompositeType ℕ) → IsSmallComposite c → IsSmallComposite (composite_map f c)
small_map f (FuncComposite t) h =
    let p = h.0 in let r = h.1 in (omega (arith, p, length-map t.params (val_map f)), omega (arith, r, length-map t.results (val_map f)))
small_map f (StructComposite fields) h = omega (arith, h, length-map fields (field_map f))
small_map f (ArrayComposite field) h = tt
small_map f (ContComposite r) h = tt

flat_at : (P : ℕ → Type 0) (xs : List (SubType ℕ)) (j : ℕ) (x : SubType ℕ) → AllByRecursion P (flat_map sub_refs xs) → slice_get xs j ≡ Some x
    → AllByRecursion P (sub_refs x)
flat_at P [] j x h e = absurd cc
flat_at P (y ∷ xs) zero x h e = let one : y ≡ x = cc in subst (λ z. AllByRecursion P (sub_refs z)) one (all_left P (sub_refs y) (flat_map sub_refs xs) h)
flat_at P (y ∷ xs) (suc j) x h e = flat_at P xs j x (all_right P (sub_refs y) (flat_map sub_refs xs) h) e

entry_ref_at : (P : ℕ → Type 0) (own : List (SubType ℕ)) (j : ℕ) (x : SubType ℕ) → AllByRecursion P (group_refs (entry own)) → slice_get own j ≡ Some x
    → AllByRecursion P (sub_refs x)
entry_ref_at P [] j x h e = absurd cc
entry_ref_at P (t ∷ []) j x h e = flat_at P (t ∷ []) j x (subst (AllByRecursion P) (sym (append-nil (sub_refs t))) h) e
entry_ref_at P (t ∷ u ∷ own) j x h e = flat_at P (t ∷ u ∷ own) j x h e

-- ---- the clone

module _ (features : Features) (sizes : List ℕ) (ts : List (SubType ℕ)) (span : Span) (on : has features Gc ≡ true) (whole : total sizes ≡ length ts) (few : length ts ≤ 2 ^ 31) (at : IsSpan sizes span) (valid : AreValidGroups features (grouped sizes ts)) (all : AreMembers features (length ts) ts) where
  abbrev by : ℕ
  by = length ts - span.start

  abbrev mid : List (SubType ℕ)
  mid = take span.size (drop span.start ts)

  abbrev own : List (SubType ℕ)
  own = shifted_types span.start by mid

  within : span.start + span.size ≤ length ts
  within = let h = span_within sizes at.place span.size at.size in let s = at.start in omega (arith, h, whole, s)

  pub size_of_own : length own ≡ span.size
  size_of_own =
      length-map mid (sub_map (shifted_index span.start by)) ∙ length_take span.size (drop span.start ts) (omega (arith, within, length-drop span.start ts))

  mid_at : (j : ℕ) (t : SubType ℕ) → slice_get mid j ≡ Some t → slice_get ts (span.start + j) ≡ Some t
  mid_at j t e = sym (get_dropped span.start j ts) ∙ get_taken span.size j (drop span.start ts) t e

  own_same : map (sub_map (shifted span.start by)) mid ≡ own
  own_same =
      map_agree (sub_map (shifted span.start by)) (sub_map (shifted_index span.start by)) mid
      (all_by_place (λ t. sub_map (shifted span.start by) t ≡ sub_map (shifted_index span.start by) t) mid (λ j t e.
      let i = span.start + j in
      let is = mid_at j t e in
      let m = all i t is in
      sub_map_agree 0 (shifted span.start by) (shifted_index span.start by) t
      (all_imply' (λ r. r < length ts) (λ r. shifted span.start by r ≡ shifted_index span.start by r) (λ r h. sym (shifted_same span.start by r (omega (arith, h, few)))) (sub_refs t)
      (sub_in_range features (length ts) ts i t (slice_get_within ts i t is) m))))

  own_valid : IsValidGroup features ts (entry own)
  own_valid =
      let parts = split sizes ts at.place span.size at.size in
      let e : grouped sizes ts ≡ parts.front ++ entry (take span.size (drop (total (take at.place sizes)) ts)) ∷ parts.back = parts.is in
      let e' : grouped sizes ts ≡ parts.front ++ entry mid ∷ parts.back =
      e ∙ ap (λ s. parts.front ++ entry (take span.size (drop s ts)) ∷ parts.back) at.start in
      let cloned = clone_of_valid features parts.front parts.back (entry mid) (subst (AreValidGroups features) e' valid) in
      let types : types_of (parts.front ++ entry mid ∷ parts.back) ≡ ts = ap types_of (sym e') ∙ types_of_grouped sizes ts whole in
      let begins : length (types_of parts.front) ≡ span.start =
      ap length parts.before ∙ length_take (total (take at.place sizes)) ts (let s = at.start in omega (arith, s, within)) ∙ at.start in
      let group : clone_of (length (types_of parts.front)) (length (types_of (parts.front ++ entry mid ∷ parts.back))) (entry mid) ≡ entry own =
      ap (λ n. clone_of n (length (types_of (parts.front ++ entry mid ∷ parts.back))) (entry mid)) begins
      ∙ ap (λ xs. clone_of span.start (length xs) (entry mid)) types ∙ entry_map (shifted span.start by) mid ∙ ap entry own_same in
      let P : RecGroup ℕ → Type 0 = λ g. IsValidGroup features (types_of (parts.front ++ entry mid ∷ parts.back)) g in
      subst (λ xs. IsValidGroup features xs (entry own)) types (subst P group cloned)

  pub clone_groups : AreValidGroups features (grouped (sizes ++ span.size ∷ []) (ts ++ own))
  clone_groups =
      let P : ℕ → Type 0 = λ n. AreValidGroups features (grouped (sizes ++ n ∷ []) (ts ++ own)) in
      subst P size_of_own
      (rw (grouped_more sizes ts own whole) (valid_more features [] (grouped sizes ts) (entry own) valid (rw (types_of_grouped sizes ts whole) own_valid)))

  original : (j : ℕ) (t : SubType ℕ) → slice_get own j ≡ Some t
      → (old : SubType ℕ) × (slice_get mid j ≡ Some old) × (sub_map (shifted_index span.start by) old ≡ t)
  original j t e =
      from_option (sub_map (shifted_index span.start by)) (slice_get mid j) t (sym (slice_get-map (sub_map (shifted_index span.start by)) mid j) ∙ e)

  own_member : (j : ℕ) (t : SubType ℕ) → slice_get own j ≡ Some t → IsMember features (length (ts ++ own)) (ts ++ own) (length ts + j) t
  own_member j t e =
      let (old, is, same) = original j t e in
      let m = all (span.start + j) old (mid_at j old is) in
      let group = own_valid in
      let refs = entry_ref_at (λ r. r < length ts + length (members (entry own))) own j t (rw on at group.in_range) e in
      let longer : length ts + length (members (entry own)) ≡ length (ts ++ own) = omega (arith, ap length (entry_members own), length-append ts own) in
      record {
        rules = rw (entry_members own) at (group.rules j t (rw (entry_members own) e));
        permitted = record {
          allowed =
              subst (λ (x : SubType ℕ). is_allowed_composite features x.composite_type ≡ true) same
              (allowed_composite features (shifted_index span.start by) old.composite_type ∙ m.permitted.allowed);
          in_range =
              subst (λ n. AllByRecursion (λ r. r < n) (composite_refs t.composite_type)) longer
              (all_right (λ r. r < length ts + length (members (entry own))) t.supertypes (composite_refs t.composite_type) refs);
          small =
              subst (λ (x : SubType ℕ). IsSmallComposite x.composite_type) same (small_map (shifted_index span.start by) old.composite_type m.permitted.small);
        };
      }

  pub clone_members : AreMembers features (length (ts ++ own)) (ts ++ own)
  clone_members index type is = elim (get_cases ts own index type is) [
    | inl e ↦
        let m = members_below_more features (length ts) (length (ts ++ own)) ts (omega (arith, length-append ts own)) all index type e in
        record { rules = rules_with_more ts own index type m.rules; permitted = m.permitted }
    | inr e ↦ subst (λ i. IsMember features (length (ts ++ own)) (ts ++ own) i type) (sym e.1) (own_member e.0 type e.2)
  ]

-- ---- one copy after the other

pub copied_none : (start by : ℕ) (ts xs : List (SubType ℕ)) → ts ≡ ts ++ shifted_types start by (take 0 xs)
copied_none start _ ts xs = sym (append-nil ts)

pub copied_more : (start by i n : ℕ) (ts now next : List (SubType ℕ)) (t : SubType ℕ) → start + n ≤ length ts → i < n
    → now ≡ ts ++ shifted_types start by (take i (drop start ts)) → slice_get now (start + i) ≡ Some t → next ≡ now ++ sub_map (shifted_index start by) t ∷ []
    → next ≡ ts ++ shifted_types start by (take (i + 1) (drop start ts))
copied_more start by i n ts now next t within lt so_far at added =
    let f = sub_map (shifted_index start by) in
    let early : start + i < length ts = omega (arith, within, lt) in
    let there : slice_get (drop start ts) i ≡ Some t =
    get_dropped start i ts ∙ sym (get_left ts (shifted_types start by (take i (drop start ts))) (start + i) early)
    ∙ ap (λ xs. slice_get xs (start + i)) (sym so_far) ∙ at in
    let one : take (i + 1) (drop start ts) ≡ take i (drop start ts) ++ t ∷ [] = take_one_more i (drop start ts) t there in
    added ∙ ap (λ xs. xs ++ f t ∷ []) so_far ∙ append_assoc ts (map f (take i (drop start ts))) (f t ∷ [])
    ∙ ap (λ xs. ts ++ xs) (sym (map-append f (take i (drop start ts)) (t ∷ []))) ∙ ap (λ xs. ts ++ map f xs) (sym one)

pub few_copied : (start by i : ℕ) (ts now : List (SubType ℕ)) → now ≡ ts ++ shifted_types start by (take i (drop start ts)) → length now ≤ length ts + i
few_copied start by i ts now e =
    let own = take i (drop start ts) in
    omega (arith, ap length e, length-append ts (shifted_types start by own), length-map own (sub_map (shifted_index start by)), few_taken i (drop start ts))

pub many_copied : (start by i : ℕ) (ts now : List (SubType ℕ)) → now ≡ ts ++ shifted_types start by (take i (drop start ts)) → length ts ≤ length now
many_copied start by i ts now e = omega (arith, ap length e, length-append ts (shifted_types start by (take i (drop start ts))))

pub own_length : (start by size : ℕ) (ts : List (SubType ℕ)) → start + size ≤ length ts → length (shifted_types start by (take size (drop start ts))) ≡ size
own_length start by size ts h =
    length-map (take size (drop start ts)) (sub_map (shifted_index start by)) ∙ length_take size (drop start ts) (omega (arith, h, length-drop start ts))

pub copied_all : (span : Span) (n i : ℕ) (ts now : List (SubType ℕ)) → n ≡ length ts → i ≡ span.size
    → now ≡ ts ++ shifted_types span.start (n - span.start) (take i (drop span.start ts)) → now ≡ ts ++ cloned span ts
copied_all span n i ts now count all copied =
    copied ∙ ap (λ m. ts ++ shifted_types span.start (m - span.start) (take i (drop span.start ts))) count
    ∙ ap (λ k. ts ++ shifted_types span.start (length ts - span.start) (take k (drop span.start ts))) all

pub clone_done : (features : Features) (sizes : List ℕ) (ts : List (SubType ℕ)) (span : Span) (n i : ℕ) (now : List (SubType ℕ)) (sizes' : List ℕ)
    → n ≡ length ts → i ≡ span.size → total sizes ≡ length ts → length ts ≤ 2 ^ 31 → IsSpan sizes span
    → now ≡ ts ++ shifted_types span.start (n - span.start) (take i (drop span.start ts)) → sizes' ≡ sizes ++ span.size ∷ [] → has features Gc ≡ true
    → AreValidGroups features (grouped sizes ts) → AreMembers features (length ts) ts
    → AreValidGroups features (grouped sizes' now) × AreMembers features (length now) now
clone_done features sizes ts span n i now sizes' count all whole few at copied pushed on valid members =
    let e : now ≡ ts ++ cloned span ts = copied_all span n i ts now count all copied in
    rw (e, pushed) (clone_groups features sizes ts span on whole few at valid members, clone_members features sizes ts span on whole few at valid members)

pub clone_whole : (sizes : List ℕ) (ts : List (SubType ℕ)) (start by size i : ℕ) (now : List (SubType ℕ)) (sizes' : List ℕ) → i ≡ size
    → total sizes ≡ length ts → start + size ≤ length ts → now ≡ ts ++ shifted_types start by (take i (drop start ts)) → sizes' ≡ sizes ++ size ∷ []
    → total sizes' ≡ length now
clone_whole sizes ts start by size i now sizes' all whole within copied pushed =
    let e : now ≡ ts ++ shifted_types start by (take size (drop start ts)) = copied ∙ ap (λ k. ts ++ shifted_types start by (take k (drop start ts))) all in
    rw (e, pushed) (whole_more sizes ts (shifted_types start by (take size (drop start ts))) size whole (own_length start by size ts within))

pub span_fits : (sizes : List ℕ) (n : ℕ) (span : Span) → total sizes ≡ n → IsSpan sizes span → span.start + span.size ≤ n
span_fits sizes n span whole at = let s = at.start in omega (arith, whole, s, span_within sizes at.place span.size at.size)

pub copied_count : (start by size i : ℕ) (ts now : List (SubType ℕ)) → i ≡ size → start + size ≤ length ts
    → now ≡ ts ++ shifted_types start by (take i (drop start ts)) → length now ≡ length ts + size
copied_count start by size i ts now all within copied =
    let e : now ≡ ts ++ shifted_types start by (take size (drop start ts)) = copied ∙ ap (λ k. ts ++ shifted_types start by (take k (drop start ts))) all in
    omega (arith, ap length e, length-append ts (shifted_types start by (take size (drop start ts))), own_length start by size ts within)

-- ---- the groups that fit

pub total_one_more : (sizes : List ℕ) (i start size : ℕ) → slice_get sizes i ≡ Some size → total (take i sizes) ≡ start
    → total (take (i + 1) sizes) ≡ start + size
total_one_more sizes i start size at e = ap total (take_one_more i sizes size at) ∙ sum_more (take i sizes) size ∙ ap (λ n. n + size) e

pub start_within : (sizes : List ℕ) (i start size n : ℕ) → slice_get sizes i ≡ Some size → total (take i sizes) ≡ start → total sizes ≡ n → start + size ≤ n
start_within sizes i start size n at e whole = omega (arith, e, whole, span_within sizes i size at)
