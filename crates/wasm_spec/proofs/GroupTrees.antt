-- Group trees give back what they were rolled up from, and the types of a section are its sub types by index.
use Rattle.std.proofs.Common.{◌≡◌, ℕ, zero, suc, ◌+◌, ◌-◌, ◌<◌, List, [], ◌∷◌, ◌++◌, length, refl, ap, sym, ◌∙◌, arith, inl, inr, Some, length-append, subst, append_assoc}
use Rattle.std.proofs.lemmas.List.{append-nil}
use Rattle.std.proofs.lemmas.Option.{slice_get-map, slice_get_within}
use Rattle.std.specs.List.{slice_get, AllByRecursion, flat_map}
use Rattle.std.specs.Option.{option_map, unwrap_or}
use Rattle.wasm_spec.specs.Syntax.{members}
use Rattle.wasm_spec.specs.TypeReferences.{sub_map, subs_map, sub_refs, subs_refs, subs_fill, group_refs}
use Rattle.wasm_spec.specs.Trees.{GroupTree, TreeReference, Own, joined, listed, roll, opened, DefType, seen_from, unrolled, reference_to, reference_of, tree_of, places_of, types_of_group, types_after, types_from, section_types, no_type, type_at, RefersBelow, AreInRange}
use Rattle.wasm_spec.specs.Types.{SubType, RecGroup, Single, Group}
use Rattle.wasm_spec.proofs.MappedBack.{all_left, all_right}
use Rattle.wasm_spec.proofs.Places.{get_left, get_right, get_cases, get_either}
use Rattle.wasm_spec.proofs.TypeMaps.{sub_map-sub_map, subs_fill-exact, sub_map_agree}

-- ---- trees

listed-joined : (rs : List TreeReference) → listed (joined rs) ≡ rs
listed-joined [] = refl
listed-joined (r ∷ rs) = rw (listed-joined rs)

pub opened-roll : (types : List (SubType TreeReference)) → opened (roll types) ≡ types
opened-roll types =
    let exact : subs_fill (Own 0) (subs_map (λ _. tt) types) (subs_refs types) ≡ (types, []) =
    rw (append-nil (subs_refs types)) at (subs_fill-exact (Own 0) types []) in
    ap (λ rs. (subs_fill (Own 0) (subs_map (λ _. tt) types) rs).0) (listed-joined (subs_refs types)) ∙ ap (λ q. q.0) exact

pub roll-injective : (xs ys : List (SubType TreeReference)) → roll xs ≡ roll ys → xs ≡ ys
roll-injective xs ys e = sym (opened-roll xs) ∙ ap opened e ∙ opened-roll ys

-- ---- the types of one group

places_at : {X : Type 0} (t : GroupTree) (p : ℕ) (xs : List X) (j : ℕ) → j < length xs → slice_get (places_of t p xs) j ≡ Some (record { tree = t; place = p + j })
places_at t p [] j h = absurd (omega arith)
places_at t p (x ∷ xs) zero h = let e : p + 0 ≡ p = omega arith in rw e
places_at t p (x ∷ xs) (suc j) h =
    let e : p + suc j ≡ suc p + j = omega arith in rw e (places_at t (suc p) xs j (omega arith))

pub length-places_of : {X : Type 0} (t : GroupTree) (p : ℕ) (xs : List X) → length (places_of t p xs) ≡ length xs
length-places_of t p [] = refl
length-places_of t p (x ∷ xs) = rw (length-places_of t (suc p) xs)

pub length-types_after : (ts : List DefType) (g : RecGroup ℕ) → length (types_after ts g) ≡ length ts + length (members g)
length-types_after ts g = omega (arith, length-append ts (types_of_group ts g), length-places_of (tree_of ts g) 0 (members g))

own_at : (ts : List DefType) (g : RecGroup ℕ) (j : ℕ) → j < length (members g) → type_at (types_after ts g) (length ts + j) ≡ record { tree = tree_of ts g; place = j }
own_at ts g j h =
    let zero_add : 0 + j ≡ j = omega arith in
    ap (λ q. unwrap_or q no_type) (get_right ts (types_of_group ts g) j ∙ places_at (tree_of ts g) 0 (members g) j h) ∙ ap (λ p. record { tree = tree_of ts g; place = p }) zero_add

-- with more types after them, types keep their indexes
pub type_kept : (ts us : List DefType) (n : ℕ) → n < length ts → type_at (ts ++ us) n ≡ type_at ts n
type_kept ts us n h = ap (λ q. unwrap_or q no_type) (get_left ts us n h)

-- seen from its group or by index, a reference is one type
seen_same : (ts : List DefType) (g : RecGroup ℕ) (n : ℕ) → n < length ts + length (members g) → seen_from (tree_of ts g) (reference_of ts n) ≡ type_at (types_after ts g) n
seen_same ts g n h = elim (get_either ts n) [
  | inl at ↦
      let left : seen_from (tree_of ts g) (reference_to (slice_get ts n) (n - length ts)) ≡ at.0 = rw at.1 in
      left ∙ sym (ap (λ q. unwrap_or q no_type) (get_left ts (types_of_group ts g) n at.2 ∙ at.1))
  | inr at ↦
      let j = at.1.0 in
      let place : n - length ts ≡ j = omega (arith, at.1.1) in
      let left : seen_from (tree_of ts g) (reference_to (slice_get ts n) (n - length ts)) ≡ record { tree = tree_of ts g; place = j } = rw (at.0, place) in
      left ∙ sym (ap (type_at (types_after ts g)) at.1.1 ∙ own_at ts g j (omega (arith, h, at.1.1)))
]

-- ---- references of a member

all_at : {X Y : Type 0} (P : Y → Type 0) (f : X → List Y) (xs : List X) → AllByRecursion P (flat_map f xs) → (j : ℕ) (x : X) → slice_get xs j ≡ Some x → AllByRecursion P (f x)
all_at P f [] h j x e = absurd cc
all_at P f (y ∷ xs) h zero x e =
    let one : y ≡ x = cc in
    let Q : _ → Type 0 = λ z. AllByRecursion P (f z) in
    subst Q one (all_left P (f y) (flat_map f xs) h)
all_at P f (y ∷ xs) h (suc j) x e = all_at P f xs (all_right P (f y) (flat_map f xs) h) j x e

member_refs : (P : ℕ → Type 0) (g : RecGroup ℕ) → AllByRecursion P (group_refs g) → (j : ℕ) (m : SubType ℕ) → slice_get (members g) j ≡ Some m → AllByRecursion P (sub_refs m)
member_refs P (Single type) h j m e =
    all_at P sub_refs (type ∷ []) (rw (append-nil (sub_refs type)) h) j m e
member_refs P (Group types) h j m e = all_at P sub_refs types h j m e

pub all_each : {X : Type 0} (P Q : X → Type 0) → ((x : X) → P x → Q x) → (xs : List X) → AllByRecursion P xs → AllByRecursion Q xs
all_each P Q one [] h = tt
all_each P Q one (x ∷ xs) h = (one x h.0, all_each P Q one xs h.1)

-- ---- sections

-- the sub types ss, written with type indexes, are those of the types ts
pub record Stand (ss : List (SubType ℕ)) (ts : List DefType) : Type 0 where
  pub lengths : length ts ≡ length ss
  pub in_range : (i : ℕ) (s : SubType ℕ) → slice_get ss i ≡ Some s → AllByRecursion (λ n. n < length ts) (sub_refs s)
  pub unrolls : (i : ℕ) (s : SubType ℕ) → slice_get ss i ≡ Some s → unrolled (type_at ts i) ≡ Some (sub_map (type_at ts) s)

own_unrolls : (ts : List DefType) (g : RecGroup ℕ) → RefersBelow (length ts + length (members g)) g → (j : ℕ) (s : SubType ℕ) → slice_get (members g) j ≡ Some s → unrolled (type_at (types_after ts g) (length ts + j)) ≡ Some (sub_map (type_at (types_after ts g)) s)
own_unrolls ts g range j s e =
    let t = tree_of ts g in
    let read : slice_get (opened t) j ≡ Some (sub_map (reference_of ts) s) =
    ap (λ q. slice_get q j) (opened-roll (subs_map (reference_of ts) (members g))) ∙ slice_get-map (sub_map (reference_of ts)) (members g) j ∙ ap (option_map (sub_map (reference_of ts))) e in
    let refs = member_refs (λ n. n < length ts + length (members g)) g range j s e in
    let agree : sub_map (λ n. seen_from t (reference_of ts n)) s ≡ sub_map (type_at (types_after ts g)) s =
    sub_map_agree (record { tree = t; place = 0 }) (λ n. seen_from t (reference_of ts n)) (type_at (types_after ts g)) s
    (all_each (λ n. n < length ts + length (members g)) (λ n. seen_from t (reference_of ts n) ≡ type_at (types_after ts g) n) (seen_same ts g) (sub_refs s) refs) in
    ap unrolled (own_at ts g j (slice_get_within (members g) j s e)) ∙ ap (option_map (sub_map (seen_from t))) read
    ∙ ap Some (sub_map-sub_map (seen_from t) (reference_of ts) s ∙ agree)

pub stand_after : {ss : List (SubType ℕ)} {ts : List DefType} → Stand ss ts → (g : RecGroup ℕ) → RefersBelow (length ts + length (members g)) g → Stand (ss ++ members g) (types_after ts g)
stand_after {ss} {ts} it g range = record {
  lengths = omega (arith, length-types_after ts g, length-append ss (members g), it.lengths);
  in_range = λ i s e. elim (get_cases ss (members g) i s e) [
    | inl at ↦ all_each (λ n. n < length ts) (λ n. n < length (types_after ts g)) (λ n h. omega (arith, h, length-types_after ts g)) (sub_refs s) (it.in_range i s at)
    | inr at ↦ all_each (λ n. n < length ts + length (members g)) (λ n. n < length (types_after ts g)) (λ n h. omega (arith, h, length-types_after ts g)) (sub_refs s) (member_refs (λ n. n < length ts + length (members g)) g range at.0 s at.2)
  ];
  unrolls = λ i s e. elim (get_cases ss (members g) i s e) [
    | inl at ↦
        let within : i < length ts = omega (arith, slice_get_within ss i s at, it.lengths) in
        let kept : sub_map (type_at (types_after ts g)) s ≡ sub_map (type_at ts) s =
        sub_map_agree (record { tree = tree_of ts g; place = 0 }) (type_at (types_after ts g)) (type_at ts) s
        (all_each (λ n. n < length ts) (λ n. type_at (types_after ts g) n ≡ type_at ts n) (type_kept ts (types_of_group ts g)) (sub_refs s) (it.in_range i s at)) in
        ap unrolled (type_kept ts (types_of_group ts g) i within) ∙ it.unrolls i s at ∙ ap Some (sym kept)
    | inr at ↦
        let i_is : i ≡ length ts + at.0 = omega (arith, at.1, it.lengths) in
        ap (λ q. unrolled (type_at (types_after ts g) q)) i_is ∙ own_unrolls ts g range at.0 s at.2
  ];
}

stand_from : (gs : List (RecGroup ℕ)) (ss : List (SubType ℕ)) (ts : List DefType) → Stand ss ts → AreInRange (length ts) gs → Stand (ss ++ flat_map members gs) (types_from ts gs)
stand_from [] ss ts it range = rw (append-nil ss) it
stand_from (g ∷ gs) ss ts it range =
    let rest : AreInRange (length (types_after ts g)) gs = rw (length-types_after ts g) range.1 in
    rw (← append_assoc ss (members g) (flat_map members gs))
    (stand_from gs (ss ++ members g) (types_after ts g) (stand_after it g range.0) rest)

pub section_stands : (gs : List (RecGroup ℕ)) → AreInRange 0 gs → Stand (flat_map members gs) (section_types gs)
section_stands gs range =
    let nothing : Stand [] [] = record { lengths = refl; in_range = λ i s e. absurd cc; unrolls = λ i s e. absurd cc } in
    stand_from gs [] [] nothing range

count_from : (gs : List (RecGroup ℕ)) (ts : List DefType) → length (types_from ts gs) ≡ length ts + length (flat_map members gs)
count_from [] ts = omega arith
count_from (g ∷ gs) ts =
    omega (arith, count_from gs (types_after ts g), length-types_after ts g, length-append (members g) (flat_map members gs))

pub section_count : (gs : List (RecGroup ℕ)) → length (section_types gs) ≡ length (flat_map members gs)
section_count gs = omega (arith, count_from gs [])
