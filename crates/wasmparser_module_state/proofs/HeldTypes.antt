-- A list of types holds no type twice, where types are canonicalized.
use Rattle.std.proofs.Common.{◌≡◌, ℕ, zero, suc, ◌+◌, ◌≤◌, true, List, [], ◌∷◌, ◌++◌, length, Option, Some, None, inl, inr, refl, sym, ap, subst, ◌∙◌, arith}
use Rattle.std.specs.Prelude.{IsSomeAnd}
use Rattle.std.proofs.lemmas.List.{append-nil, append_assoc, length-append}
use Rattle.std.specs.List.{AllByRecursion, slice_get}
use Rattle.wasm_spec.proofs.GroupTrees.{length-places_of, length-types_after}
use Rattle.wasm_spec.proofs.Places.{all_get, get_cases}
use Rattle.wasm_spec.specs.Features.{Features, needs_type_canonicalization}
use Rattle.wasm_spec.specs.Limits.{total_of_types}
use Rattle.wasm_spec.specs.Syntax.{members}
use Rattle.wasm_spec.specs.Trees.{AreDistinct, DefType, GroupTree, places_of, tree_of, types_of_group}
use Rattle.wasm_spec.specs.Types.{RecGroup}
use Rattle.wasm_validity.specs.Context.{Context, after, after_all}
use Rattle.wasm_validity.specs.Entries.{Entry}
use Rattle.wasmparser_module_state.proofs.TypeCounts.{types_after_entry, types_with}
use Rattle.wasmparser_module_state.specs.History.{EnterAll, EntersGroup, OneFindsNoRoom, group_in}
use Rattle.wasmparser_module_types.specs.History.{HasNoRoom, IsHeld, is_held, is_new}

-- the types of a group differ by their places in it
place_is : {X : Type 0} (tree : GroupTree) (first : ℕ) (xs : List X) (j : ℕ) (type : DefType) → slice_get (places_of tree first xs) j ≡ Some type → type.place ≡ first + j
place_is tree first [] j type at = absurd cc
place_is tree first (x ∷ xs) zero type at =
    let one : record { tree = tree; place = first } ≡ type = cc in
    omega (arith, ap (λ (t : DefType). t.place) one)
place_is tree first (x ∷ xs) (suc j) type at = omega (arith, place_is tree (suc first) xs j type at)

own_distinct : (before : List DefType) (group : RecGroup ℕ) → AreDistinct (types_of_group before group)
own_distinct before group i j type at at' =
    omega (arith, place_is (tree_of before group) 0 (members group) i type at, place_is (tree_of before group) 0 (members group) j type at')

both_distinct : (held own : List DefType) → AreDistinct held → AreDistinct own → ((j : ℕ) (type : DefType) → slice_get own j ≡ Some type → ¬ (IsHeld held type)) → AreDistinct (held ++ own)
both_distinct held own first second apart i j type at at' = elim (get_cases held own i type at) [
  | inl h ↦ elim (get_cases held own j type at') [
    | inl h' ↦ first i j type h h'
    | inr h' ↦ absurd (apart h'.0 type h'.2 (i, h))
  ]
  | inr h ↦ elim (get_cases held own j type at') [
    | inl h' ↦ absurd (apart h.0 type h.2 (j, h'))
    | inr h' ↦ omega (arith, h.1, h'.1, second h.0 h'.0 type h.2 h'.2)
  ]
]

module _ (features : Features) (needs : needs_type_canonicalization features ≡ true) where
  after_group : (before held new : List DefType) (found : Option (RecGroup ℕ)) → AreDistinct held → EntersGroup features before held found new → AreDistinct new
  after_group before held _ (Some group) distinct (is_held room asked all) = distinct
  after_group before held _ (Some group) distinct (is_new room apart) =
      both_distinct held (types_of_group before group) distinct (own_distinct before group)
      (λ j type at. all_get (λ type. ¬ (IsHeld held type)) (types_of_group before group) (apart needs) j type at)
  after_group before held new None distinct same = subst AreDistinct (sym same) distinct

  pub still_distinct : (cx : Context) (held new : List DefType) (entries : List Entry) → AreDistinct held → EnterAll features cx held entries new → AreDistinct new
  still_distinct cx held new [] distinct same = subst AreDistinct (sym same) distinct
  still_distinct cx held new (entry ∷ entries) distinct (mid, enters, rest) =
      still_distinct (after cx entry) mid new entries (after_group cx.types held mid (group_in entry) distinct enters) rest

-- ---- what is held only grows, and in one way

-- these types, and others after them
abbrev Grows : List DefType → List DefType → Type 0
Grows old new = (more : List DefType) × (new ≡ old ++ more)

group_grows : (features : Features) (before held new : List DefType) (found : Option (RecGroup ℕ)) → EntersGroup features before held found new → Grows held new
group_grows features before held _ (Some group) (is_held room asked all) = ([], sym (append-nil held))
group_grows features before held _ (Some group) (is_new room apart) = (types_of_group before group, refl)
group_grows features before held new None same = ([], same ∙ sym (append-nil held))

pub all_grow : (features : Features) (cx : Context) (held new : List DefType) (entries : List Entry) → EnterAll features cx held entries new → Grows held new
all_grow features cx held new [] same = ([], same ∙ sym (append-nil held))
all_grow features cx held new (entry ∷ entries) (mid, enters, rest) =
    let (first, is_first) = group_grows features cx.types held mid (group_in entry) enters in
    let (more, is_more) = all_grow features (after cx entry) mid new entries rest in
    (first ++ more, is_more ∙ ap (λ q. q ++ more) is_first ∙ append_assoc held first more)

-- a group of which some types are held and none is has none
nothing_new : (held types : List DefType) → AllByRecursion (IsHeld held) types → AllByRecursion (λ type. ¬ (IsHeld held type)) types → held ≡ held ++ types
nothing_new held [] all none = sym (append-nil held)
nothing_new held (type ∷ types) all none = absurd (none.0 all.0)

group_one : (features : Features) (before held a b : List DefType) (found : Option (RecGroup ℕ)) → EntersGroup features before held found a → EntersGroup features before held found b → a ≡ b
group_one features before held _ _ (Some group) (is_held room asked all) (is_held room' asked' all') = refl
group_one features before held _ _ (Some group) (is_held room asked all) (is_new room' apart) = nothing_new held (types_of_group before group) all (apart asked)
group_one features before held _ _ (Some group) (is_new room apart) (is_held room' asked all) = sym (nothing_new held (types_of_group before group) all (apart asked))
group_one features before held _ _ (Some group) (is_new room apart) (is_new room' apart') = refl
group_one features before held a b None same other = same ∙ sym other

pub all_one : (features : Features) (cx : Context) (held a b : List DefType) (entries : List Entry) → EnterAll features cx held entries a → EnterAll features cx held entries b → a ≡ b
all_one features cx held a b [] same other = same ∙ sym other
all_one features cx held a b (entry ∷ entries) (mid, enters, rest) (mid', enters', rest') =
    let same : mid' ≡ mid = group_one features cx.types held mid' mid (group_in entry) enters' enters in
    all_one features (after cx entry) mid a b entries rest (subst (λ q. EnterAll features (after cx entry) q entries b) same rest')

-- ---- room below the total

-- what a module knows of types only grows
types_grow : (before : List DefType) (found : Option (RecGroup ℕ)) → length before ≤ length (types_with before found)
types_grow before (Some group) = omega (arith, length-types_after before group)
types_grow before None = omega arith

all_types_grow : (cx : Context) (entries : List Entry) → length cx.types ≤ length (after_all cx entries).types
all_types_grow cx [] = omega arith
all_types_grow cx (entry ∷ entries) = omega (arith, types_grow cx.types (group_in entry), ap length (types_after_entry cx entry), all_types_grow (after cx entry) entries)

module _ (features : Features) (count : ℕ) where
  count_after : (before held new : List DefType) (found : Option (RecGroup ℕ)) → EntersGroup features before held found new → length held ≤ count + length before → length new ≤ count + length (types_with before found)
  count_after before held _ (Some group) (is_held room asked all) few = omega (arith, few, length-types_after before group)
  count_after before held _ (Some group) (is_new room apart) few =
      omega (arith, few, length-types_after before group, length-append held (types_of_group before group), length-places_of (tree_of before group) 0 (members group))
  count_after before held new None same few = omega (arith, few, ap length same)

  has_room_below : (before held : List DefType) (found : Option (RecGroup ℕ)) → length held ≤ count + length before → count + length (types_with before found) ≤ total_of_types → IsSomeAnd found (λ group. HasNoRoom held before group) → ⊥
  has_room_below before held None few all none = none
  has_room_below before held (Some group) few all none = absurd (omega (arith, few, all, none.past_total, length-types_after before group))

  -- so many types were held before the module
  pub room_below : (cx : Context) (held : List DefType) (entries : List Entry) → length held ≤ count + length cx.types → count + length (after_all cx entries).types ≤ total_of_types → ¬ (OneFindsNoRoom features cx held entries)
  room_below cx held [] few all none = none
  room_below cx held (entry ∷ entries) few all (inl none) =
      let next : count + length (types_with cx.types (group_in entry)) ≤ total_of_types = omega (arith, all, ap length (types_after_entry cx entry), all_types_grow (after cx entry) entries) in
      has_room_below cx.types held (group_in entry) few next none
  room_below cx held (entry ∷ entries) few all (inr (keeps, within, mid, enters, none)) =
      room_below (after cx entry) mid entries
      (subst (λ ts. length mid ≤ count + length ts) (sym (types_after_entry cx entry)) (count_after cx.types held mid (group_in entry) enters few)) all none

-- ---- room for a first module

has_room : (before held : List DefType) (group : RecGroup ℕ) → length held ≤ length before → ¬ (HasNoRoom held before group)
has_room before held group few none = absurd (omega (arith, few, none.within_limit, none.past_total, length-types_after before group))

pub find_room : (features : Features) (cx : Context) (held : List DefType) (entries : List Entry) → length held ≤ length cx.types → ¬ (OneFindsNoRoom features cx held entries)
find_room features cx held [] few none = none
find_room features cx held (entry ∷ entries) few (inl none) = by_group (group_in entry) none
  where
    by_group : (found : Option (RecGroup ℕ)) → IsSomeAnd found (λ group. HasNoRoom held cx.types group) → ⊥
    by_group None none = absurd none
    by_group (Some group) none = has_room cx.types held group few none
find_room features cx held (entry ∷ entries) few (inr (keeps, within, mid, enters, none)) =
    find_room features (after cx entry) mid entries
    (subst (λ ts. length mid ≤ length ts) (sym (types_after_entry cx entry)) (omega (arith, count_after features 0 cx.types held mid (group_in entry) enters (omega (arith, few))))) none
