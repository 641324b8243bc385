-- A group keeps all rules where its types keep those that are checked one by one.
use Rattle.std.proofs.Common.{◌≡◌, ℕ, zero, suc, ◌+◌, ◌-◌, ◌≤◌, ◌<◌, ◌^◌, Bool, true, false, List, [], ◌∷◌, ◌++◌, take, drop, length, map, Option, Some, None, inl, inr, refl, sym, ap, ◌∙◌, arith, subst, length-drop}
use Rattle.std.specs.Prelude.{◌&&◌, ◌||◌, if◌then◌else◌, nat_eq}
use Rattle.std.proofs.lemmas.Bool.{and_from, and_parts}
use Rattle.std.proofs.lemmas.Bool.Decides.{eqb_tells}
use Rattle.std.proofs.lemmas.Option.{slice_get_within}
use Rattle.std.specs.Option.{option_to_list}
use Rattle.std.specs.List.{slice_get, list_all, AllByRecursion, flat_map}
use Rattle.wasm_core_types.specs.SubTypes.{sub_type}
use Rattle.wasm_core_types.specs.declared.types.SubType as code
use Rattle.wasm_spec.specs.Features.{Features, Gc, has}
use Rattle.wasm_spec.specs.Gates.{is_allowed_composite, is_allowed_sub, is_allowed_group}
use Rattle.wasm_spec.specs.Groups.{ContinuesFunc, reference_bound}
use Rattle.wasm_spec.specs.Syntax.{members}
use Rattle.wasm_spec.specs.TypeReferences.{sub_refs, composite_refs, group_refs}
use Rattle.wasm_spec.specs.Types.{SubType, CompositeType, FuncComposite, StructComposite, ArrayComposite, ContComposite}
use Rattle.wasm_spec.proofs.Places.{all_by_place, get_cases}
use Rattle.wasm_smith_validity.specs.Linked.{IsLinked, AreLinked}
use Rattle.wasm_smith_validity.specs.ValidGroups.{KeepsTypeRules, AllKeepTypeRules, IsValidGroup, entry}
use Rattle.wasm_smith_validity.proofs.GroupLaws.{entry_members, linked_of_rule, rules_with_more}
use Rattle.wasm_smith_shapes.specs.Forms.{is_lone_function, may_be_made_of, may_have_named_type, may_have_type}
use Rattle.wasm_smith_shapes.specs.Groups.{AllFrom, HasLinks, MatchesAbove}
use Rattle.wasm_smith_shapes.specs.declared.shape.ShapeUse.{ShapeUse}
use Rattle.wasm_smith_shapes.specs.declared.shape.ShapeUse.TheVariants.{Module, Imports, Exports}
use Rattle.wasm_smith_shapes.proofs.FormLaws.{all_wider, append_all, first_all, last_all, composite_wider, composite_below, composite_back}

-- ---- lists

pub parted : {X : Type 0} (n : ℕ) (xs : List X) → take n xs ++ drop n xs ≡ xs
parted zero xs = refl
parted (suc n) [] = refl
parted (suc n) (x ∷ xs) = ap (λ zs. x ∷ zs) (parted n xs)

pub length_take : {X : Type 0} (n : ℕ) (xs : List X) → n ≤ length xs → length (take n xs) ≡ n
length_take zero xs h = refl
length_take (suc n) [] h = absurd (omega (arith, h))
length_take (suc n) (x ∷ xs) h = ap suc (length_take n xs (omega (arith, h)))

get_dropped : {X : Type 0} (n : ℕ) (xs : List X) (i : ℕ) → slice_get (drop n xs) i ≡ slice_get xs (n + i)
get_dropped zero xs i = let e : 0 + i ≡ i = omega arith in ap (λ k. slice_get xs k) (sym e)
get_dropped (suc n) [] i = refl
get_dropped (suc n) (x ∷ xs) i = let e : suc n + i ≡ suc (n + i) = omega arith in get_dropped n xs i ∙ ap (λ k. slice_get (x ∷ xs) k) (sym e)

from : (start index : ℕ) → start ≤ index → (place : ℕ) × (index ≡ start + place)
from zero index le = (index, omega arith)
from (suc start) zero le = absurd (omega (arith, le))
from (suc start) (suc index) le = let (place, e) = from start index (omega (arith, le)) in (place, omega (arith, e))

all_at : {X : Type 0} (test : X → Bool) (xs : List X) (i : ℕ) (x : X) → list_all test xs ≡ true → slice_get xs i ≡ Some x → test x ≡ true
all_at test [] i x all e = absurd cc
all_at test (y ∷ xs) zero x all e = let same : y ≡ x = cc in rw (sym same) (and_parts (test y) (list_all test xs) all).0
all_at test (y ∷ xs) (suc i) x all e = all_at test xs i x (and_parts (test y) (list_all test xs) all).1 e

pass_at : {X : Type 0} (test : X → Bool) (xs : List X) → ((i : ℕ) (x : X) → slice_get xs i ≡ Some x → test x ≡ true) → list_all test xs ≡ true
pass_at test [] h = refl
pass_at test (x ∷ xs) h = and_from (test x) (list_all test xs) (h 0 x refl) (pass_at test xs (λ i y e. h (suc i) y e))

imply : {A : Type 0} (P Q : A → Type 0) → ((x : A) → P x → Q x) → (xs : List A) → AllByRecursion P xs → AllByRecursion Q xs
imply P Q f [] all = tt
imply P Q f (x ∷ xs) all = (f x all.0, imply P Q f xs all.1)

at_place : {A : Type 0} (P : A → Type 0) (xs : List A) (i : ℕ) (x : A) → AllByRecursion P xs → slice_get xs i ≡ Some x → P x
at_place P [] i x all e = absurd cc
at_place P (y ∷ xs) zero x all e = let same : y ≡ x = cc in rw (sym same) all.0
at_place P (y ∷ xs) (suc i) x all e = at_place P xs i x all.1 e

all_flat : {X : Type 0} (P : ℕ → Type 0) (refs : X → List ℕ) (xs : List X) → AllByRecursion (λ x. AllByRecursion P (refs x)) xs → AllByRecursion P (flat_map refs xs)
all_flat P refs [] h = tt
all_flat P refs (x ∷ xs) h = append_all P (refs x) (flat_map refs xs) h.0 (all_flat P refs xs h.1)

each_flat : {X : Type 0} (P : ℕ → Type 0) (refs : X → List ℕ) (xs : List X) → AllByRecursion P (flat_map refs xs) → AllByRecursion (λ x. AllByRecursion P (refs x)) xs
each_flat P refs [] h = tt
each_flat P refs (x ∷ xs) h = (first_all P (refs x) (flat_map refs xs) h, each_flat P refs xs (last_all P (refs x) (flat_map refs xs) h))

-- ---- a group as it is written

entry_refs : (P : ℕ → Type 0) (own : List (SubType ℕ)) → AllByRecursion (λ t. AllByRecursion P (sub_refs t)) own → AllByRecursion P (group_refs (entry own))
entry_refs P [] h = tt
entry_refs P (t ∷ []) h = h.0
entry_refs P (t ∷ u ∷ own) h = all_flat P sub_refs (t ∷ u ∷ own) h

refs_entry : (P : ℕ → Type 0) (own : List (SubType ℕ)) → AllByRecursion P (group_refs (entry own)) → AllByRecursion (λ t. AllByRecursion P (sub_refs t)) own
refs_entry P [] h = tt
refs_entry P (t ∷ []) h = (h, tt)
refs_entry P (t ∷ u ∷ own) h = each_flat P sub_refs (t ∷ u ∷ own) h

-- each of the types of a group may be written
each_allowed : (features : Features) (own : List (SubType ℕ)) → is_allowed_group features (entry own) ≡ true → list_all (is_allowed_sub features) own ≡ true
each_allowed features [] e = refl
each_allowed features (t ∷ []) e = and_from (is_allowed_sub features t) true e refl
each_allowed features (t ∷ u ∷ own) e = (and_parts (has features Gc) (list_all (is_allowed_sub features) (t ∷ u ∷ own)) e).1

-- ---- forms

wider : (purpose : ShapeUse) (n m : ℕ) → n ≤ m → (type : SubType ℕ) → may_have_named_type purpose n type ≡ true → may_have_named_type purpose m type ≡ true
wider Module n m le type e = composite_wider n m le type.composite_type e
wider Imports n m le type e = composite_wider n m le type.composite_type e
wider Exports n m le type e = e

back : (purpose : ShapeUse) (n m : ℕ) (type : SubType ℕ) → may_have_named_type purpose m type ≡ true → AllByRecursion (λ r. r < n) (composite_refs type.composite_type)
    → may_have_named_type purpose n type ≡ true
back Module n m type e below = composite_back n m type.composite_type e below
back Imports n m type e below = composite_back n m type.composite_type e below
back Exports n m type e below = e

made_of : (purpose : ShapeUse) (n : ℕ) (type : SubType ℕ) → may_have_named_type purpose n type ≡ true → may_be_made_of n type.composite_type ≡ true
made_of Module n type e = e
made_of Imports n type e = e
made_of Exports n type e = composite_wider 0 n (omega arith) type.composite_type (and_parts (is_lone_function type) (may_be_made_of 0 type.composite_type) e).1

continues : (features : ℕ → Option (SubType ℕ)) (n : ℕ) (type : CompositeType ℕ) → may_be_made_of n type ≡ true → ContinuesFunc features type
continues sub_at n (FuncComposite type) e = tt
continues sub_at n (StructComposite fields) e = tt
continues sub_at n (ArrayComposite field) e = tt
continues sub_at n (ContComposite function) e = absurd cc

-- ---- the rules on a group's types, among those before them and themselves

no_supertypes : (features : Features) (type : SubType ℕ) → has features Gc ≡ false → is_allowed_sub features type ≡ true → length type.supertypes ≡ 0
no_supertypes features type off e =
    let parts = and_parts ((type.is_final && nat_eq (length type.supertypes) 0) || has features Gc) (is_allowed_composite features type.composite_type) e in
    let alone : (type.is_final && nat_eq (length type.supertypes) 0) ≡ true = go (type.is_final && nat_eq (length type.supertypes) 0) (rw off at parts.0) in
    none (length type.supertypes) (and_parts type.is_final (nat_eq (length type.supertypes) 0) alone).1
  where
    go : (b : Bool) → (b || false) ≡ true → b ≡ true
    go true e = refl
    go false e = e

    none : (n : ℕ) → nat_eq n 0 ≡ true → n ≡ 0
    none n e = elim (eqb_tells n 0) [ inl (t, is) ↦ is | inr (t, other) ↦ let both : false ≡ true = sym t ∙ e in absurd cc ]

none_below : (P : ℕ → Type 0) (xs : List ℕ) → length xs ≡ 0 → AllByRecursion P xs
none_below P [] h = tt
none_below P (x ∷ xs) h = absurd (omega (arith, h))

module _ (features : Features) (purpose : ShapeUse) (ts : List (SubType ℕ)) (start named : ℕ) (within : start ≤ length ts) (few : length ts < 2 ^ 32)
    (one : (index : ℕ) (type : SubType ℕ) → slice_get ts index ≡ Some type → length type.supertypes ≤ 1)
    (bound : named ≡ (if has features Gc then length ts else start)) where
  abbrev front : List (SubType ℕ)
  front = take start ts

  abbrev own : List (SubType ℕ)
  own = drop start ts

  abbrev Good : Type 0
  Good = IsValidGroup features front (entry own) × (list_all (may_have_type purpose) own ≡ true)

  at_own : (place : ℕ) (type : SubType ℕ) → slice_get own place ≡ Some type → slice_get ts (start + place) ≡ Some type
  at_own place type is = sym (get_dropped start ts place) ∙ is

  own_at : (index : ℕ) (type : SubType ℕ) → start ≤ index → slice_get ts index ≡ Some type → (place : ℕ) × (index ≡ start + place) × (slice_get own place ≡ Some type)
  own_at index type le is =
      let (place, e) = from start index le in
      (place, e, get_dropped start ts place ∙ subst (λ k. slice_get ts k ≡ Some type) e is)

  -- types of both parts are linked
  pub linked : AllKeepTypeRules front → AllFrom (HasLinks ts) ts start → AreLinked ts
  linked rules links index type is = elim (get_cases front own index type (subst (λ xs. slice_get xs index ≡ Some type) (sym (parted start ts)) is)) [
    | inl at ↦ subst (λ xs. IsLinked xs index type) (parted start ts)
        (linked_of_rule (front ++ own) index type (rules_with_more front own index type (rules index type at)))
    | inr at ↦ (links index type (omega (arith, at.1, length_take start ts within)) is).linked
  ]

  long : length front + length (members (entry own)) ≡ length ts
  long = omega (arith, length_take start ts within, ap length (entry_members own), length-drop start ts)

  refs_bound : reference_bound features (length front) (entry own) ≡ named
  refs_bound = bounded (has features Gc) (length front + length (members (entry own))) (length front) long (length_take start ts within) ∙ sym bound
    where
      bounded : (b : Bool) (x y : ℕ) → x ≡ length ts → y ≡ start → (if b then x else y) ≡ (if b then length ts else start)
      bounded true x y e f = e
      bounded false x y e f = f

  named_few : named ≤ 2 ^ 32
  named_few = subst (λ k. k ≤ 2 ^ 32) (sym bound) (least (has features Gc))
    where
      least : (b : Bool) → (if b then length ts else start) ≤ 2 ^ 32
      least true = omega (arith, few)
      least false = omega (arith, few, within)

  named_on : has features Gc ≡ true → named ≡ length ts
  named_on on = bound ∙ ap (λ b. if b then length ts else start) on

  -- ---- from the checks to the rules

  module _ (allowed : is_allowed_group features (entry own) ≡ true) (forms : list_all (may_have_named_type purpose named) own ≡ true)
      (links : AllFrom (HasLinks ts) ts start) (match : AllFrom (MatchesAbove ts) ts start) where
    refs_of : (place : ℕ) (type : SubType ℕ) → slice_get own place ≡ Some type → AllByRecursion (λ r. r < named) (sub_refs type)
    refs_of place type is =
        append_all (λ r. r < named) type.supertypes (composite_refs type.composite_type) (go (has features Gc) refl)
        (composite_below named type.composite_type (made_of purpose named type (all_at (may_have_named_type purpose named) own place type forms is)))
      where
        go : (b : Bool) → has features Gc ≡ b → AllByRecursion (λ r. r < named) type.supertypes
        go true on =
            let e = named_on on in
            let lt = slice_get_within ts (start + place) type (at_own place type is) in
            imply (λ r. r < start + place) (λ r. r < named) (λ r h. omega (arith, h, lt, e)) type.supertypes (links (start + place) type (omega arith) (at_own place type is)).earlier
        go false off =
            none_below (λ r. r < named) type.supertypes (no_supertypes features type off (all_at (is_allowed_sub features) own place type (each_allowed features own allowed) is))

    rule : (place : ℕ) (type : SubType ℕ) → slice_get own place ≡ Some type → KeepsTypeRules ts (start + place) type
    rule place type is =
        let here = at_own place type is in
        let link = links (start + place) type (omega arith) here in
        record {
          earlier = link.earlier;
          extends = record { at_most_one = one (start + place) type here; each = match (start + place) type (omega arith) here };
          continues = continues (slice_get ts) named type.composite_type (made_of purpose named type (all_at (may_have_named_type purpose named) own place type forms is));
          depth = link.linked.depth;
        }

    pub together : Good
    together = (
      record {
        allowed = allowed;
        in_range = rw refs_bound (entry_refs (λ r. r < named) own (all_by_place (λ t. AllByRecursion (λ r. r < named) (sub_refs t)) own refs_of));
        rules = λ place type is.
            let here : slice_get own place ≡ Some type = rw (entry_members own) at is in
            rw (entry_members own, parted start ts, length_take start ts within) (rule place type here);
      },
      all_wider (may_have_named_type purpose named) (may_have_type purpose) (λ t h. wider purpose named (2 ^ 32) named_few t h) own forms,
    )

  -- ---- and back

  module _ (good : Good) where
    pub allowed_back : is_allowed_group features (entry own) ≡ true
    allowed_back = good.0.allowed

    range_back : AllByRecursion (λ t. AllByRecursion (λ r. r < named) (sub_refs t)) own
    range_back = refs_entry (λ r. r < named) own (rw refs_bound at good.0.in_range)

    pub forms_back : list_all (may_have_named_type purpose named) own ≡ true
    forms_back = pass_at (may_have_named_type purpose named) own (λ place type is.
        back purpose named (2 ^ 32) type (all_at (may_have_type purpose) own place type good.1 is)
        (last_all (λ r. r < named) type.supertypes (composite_refs type.composite_type) (at_place (λ t. AllByRecursion (λ r. r < named) (sub_refs t)) own place type range_back is)))

    rule_back : (index : ℕ) (type : SubType ℕ) → start ≤ index → slice_get ts index ≡ Some type → KeepsTypeRules ts index type
    rule_back index type le is =
        let (place, e, here) = own_at index type le is in
        let rule = good.0.rules place type (rw (entry_members own) here) in
        subst (λ i. KeepsTypeRules ts i type) (sym e) (rw (entry_members own, parted start ts, length_take start ts within) at rule)

    pub links_back : AllFrom (HasLinks ts) ts start
    links_back index type le is =
        let rule = rule_back index type le is in
        record { earlier = rule.earlier; linked = linked_of_rule ts index type rule }

    pub match_back : AllFrom (MatchesAbove ts) ts start
    match_back index type le is = (rule_back index type le is).extends.each

-- a type of the code has one supertype at most
pub one_above : (types : List code.SubType) (index : ℕ) (type : SubType ℕ) → slice_get (map sub_type types) index ≡ Some type → length type.supertypes ≤ 1
one_above [] index type is = absurd cc
one_above (t ∷ types) zero type is = let same : sub_type t ≡ type = cc in rw (sym same) (few t.supertype_idx)
  where
    few : (o : Option ℕ) → length (option_to_list o) ≤ 1
    few None = omega arith
    few (Some x) = omega arith
one_above (t ∷ types) (suc index) type is = one_above types index type is

pub map_drop : {X Y : Type 0} (f : X → Y) (n : ℕ) (xs : List X) → map f (drop n xs) ≡ drop n (map f xs)
map_drop f zero xs = refl
map_drop f (suc n) [] = refl
map_drop f (suc n) (x ∷ xs) = map_drop f n xs

pub map_take : {X Y : Type 0} (f : X → Y) (n : ℕ) (xs : List X) → map f (take n xs) ≡ take n (map f xs)
map_take f zero xs = refl
map_take f (suc n) [] = refl
map_take f (suc n) (x ∷ xs) = ap (λ ys. f x ∷ ys) (map_take f n xs)

take_rest : {X : Type 0} (n : ℕ) (xs : List X) → length xs ≤ n → take n xs ≡ xs
take_rest zero [] h = refl
take_rest zero (x ∷ xs) h = absurd (omega (arith, h))
take_rest (suc n) [] h = refl
take_rest (suc n) (x ∷ xs) h = ap (λ ys. x ∷ ys) (take_rest n xs (omega (arith, h)))

-- a slice up to the end
pub seen_slice : {X Y : Type 0} (f : X → Y) (n : ℕ) (xs : List X) → map f (take (length xs - n) (drop n xs)) ≡ drop n (map f xs)
seen_slice f n xs = ap (map f) (take_rest (length xs - n) (drop n xs) (omega (arith, length-drop n xs))) ∙ map_drop f n xs
