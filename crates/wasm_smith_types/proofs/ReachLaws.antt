-- From each spelling of a list of groups that list is drawn.
use Rattle.std.proofs.Common.{◌≡◌, ℕ, zero, suc, ◌+◌, ◌-◌, ◌≤◌, ◌<◌, Bool, true, false, not, ◌&&◌, ltb, List, [], ◌∷◌, ◌++◌, length, map, Option, Some, IfSome, refl, sym, ap, ◌∙◌, append_assoc, inl, inr, arith, subst}
use Rattle.std.specs.Prelude.{nat_lt}
use Rattle.std.specs.List.{list_any}
use Rattle.std.proofs.lemmas.List.{append-nil, take_at, drop_at}
use Rattle.std.proofs.lemmas.Bool.{lt-ltb, le-ltb}
use Rattle.std.proofs.lemmas.Bool.Decides.{eqb_tells}
use Rattle.std.proofs.lemmas.Option.{slice_get_within}
use Rattle.wasm_spec.specs.Types.{HeapType, Abstract, Concrete, ValType, I32, I64, F32, F64, V128, Ref, StorageType, I8, I16, Val, CompositeType, FuncComposite, StructComposite, ArrayComposite, ContComposite, SubType, RecGroup}
use Rattle.wasm_smith_unstructured.specs.Draws.{bool_at, width, int_at, choose_at}
use Rattle.wasm_smith_types.specs.Growing.{grows_from, grow_from, grow_at, with_front}
use Rattle.wasm_smith_types.specs.Drawing.{NumberOrVector, Reference, Offers, Front, front_then, bool_if, heap_at, reference_at, value_at, values_at, storage_at, field_at, fields_at, function_at, structure_at, array_at, composite_at, plain_type_at, type_at, asks_then, with_first, members_at, fits, total, group_at, groups_at, no_groups}
use Rattle.wasm_smith_validity.specs.ValidGroups.{entry}
use Rattle.wasm_smith_types.proofs.GroupedLaws.{sum_more}
use Rattle.wasm_smith_types.specs.Spelling.{SpellsBool, SpellsNo, SpellsInt, SpellsChoice, SpellsEach, SpellsEnd, SpellsList, SpellsHeap, SpellsValue, SpellsStorage, SpellsField, SpellsComposite, SpellsType, SpellsMembers, SpellsGroup, SpellsGroups}

-- ---- draws

bool_true : (s rest : List ℕ) → SpellsBool true s → bool_at (s ++ rest) ≡ (true, rest)
unfolding bool_at
bool_true s rest h = rw (h.1, h.2) refl

pub bool_false : (s rest : List ℕ) → SpellsBool false s → bool_at (s ++ rest) ≡ (false, rest)
unfolding bool_at
bool_false s rest h = rw (h.1, h.2) refl

pub more_room : (room : ℕ) (s : List ℕ) → grows_from 0 (suc room) s ≡ bool_at s
unfolding grows_from
more_room room s = let t : ltb 0 (suc room) ≡ true = lt-ltb 0 (suc room) (omega arith) in rw t refl

int_reach : (a b n : ℕ) (s rest : List ℕ) → SpellsInt a b n s → int_at a b (s ++ rest) ≡ (n, rest)
unfolding int_at
int_reach a b n s rest h = rw (take_at s rest (width (b - a)) (h.0), drop_at s rest (width (b - a)) (h.0), h.1) refl

pub choice_reach : {A : Type 0} (xs : List A) (x : A) (s rest : List ℕ) → SpellsChoice xs x s → choose_at xs (s ++ rest) ≡ (Some x, rest)
unfolding choose_at
choice_reach xs x s rest h =
    let lt : h.0 < length xs = slice_get_within xs h.0 x h.1 in
    elim (eqb_tells (length xs) 0) [
      | inl (t, e) ↦ absurd (omega (arith, lt))
      | inr (t, ne) ↦ rw (t, int_reach 0 (length xs - 1) h.0 s rest h.2, h.1) refl
    ]

-- ---- one after the other

-- from each spelling of a thing the step draws it
abbrev pub Reaches : {A : Type 0} → (A → List ℕ → Type 0) → (List ℕ → A × List ℕ) → Type 0
Reaches {A} SpellsA step = (x : A) (s rest : List ℕ) → SpellsA x s → step (s ++ rest) ≡ (x, rest)

grow_more : {A : Type 0} (step : List ℕ → A × List ℕ) (room : ℕ) (s t after : List ℕ) (x : A) → grows_from 0 (suc room) s ≡ (true, t) → step t ≡ (x, after)
    → grow_from step 0 (suc room) s ≡ with_front (x ∷ []) (grow_from step 0 room after)
unfolding grow_from with_front
grow_more step room s t after x more first = rw (more, first) refl

pub grow_stop : {A : Type 0} (step : List ℕ → A × List ℕ) (room : ℕ) (s t : List ℕ) → grows_from 0 (suc room) s ≡ (false, t)
    → grow_from step 0 (suc room) s ≡ ([], t)
unfolding grow_from
grow_stop step room s t stop = rw stop refl

front_front : {A : Type 0} (xs ys : List A) (d : List A × List ℕ) → with_front xs (with_front ys d) ≡ with_front (xs ++ ys) d
unfolding with_front
front_front xs ys d = ap (λ zs. (zs, d.1)) (sym (append_assoc xs ys d.0))

front_none : {A : Type 0} (d : List A × List ℕ) → d ≡ with_front [] d
unfolding with_front
front_none d = refl

pub front_last : {A : Type 0} (xs : List A) (rest : List ℕ) → with_front xs ([], rest) ≡ (xs, rest)
unfolding with_front
front_last xs rest = ap (λ ys. (ys, rest)) (append-nil xs)

pub each_reach : {A : Type 0} (SpellsA : A → List ℕ → Type 0) (step : List ℕ → A × List ℕ) → Reaches SpellsA step → (xs : List A) (room : ℕ) (s rest : List ℕ)
    → length xs ≤ room → SpellsEach SpellsA xs s
    → grow_from step 0 room (s ++ rest) ≡ with_front xs (grow_from step 0 (room - length xs) rest)
each_reach SpellsA step law [] room s rest le h =
    let k : room - 0 ≡ room = omega arith in
    rw (h, k) (front_none (grow_from step 0 room rest))
each_reach SpellsA step law (x ∷ xs) zero s rest le h = absurd (omega arith)
each_reach SpellsA step law (x ∷ xs) (suc room) s rest le h =
    let split : s ++ rest ≡ h.0 ++ (h.1 ++ (h.2 ++ rest)) = rw h.3 (simp append_assoc) in
    let more : grows_from 0 (suc room) (h.0 ++ (h.1 ++ (h.2 ++ rest))) ≡ (true, h.1 ++ (h.2 ++ rest)) =
    more_room room (h.0 ++ (h.1 ++ (h.2 ++ rest))) ∙ bool_true h.0 (h.1 ++ (h.2 ++ rest)) h.4 in
    let one = grow_more step room (h.0 ++ (h.1 ++ (h.2 ++ rest))) (h.1 ++ (h.2 ++ rest)) (h.2 ++ rest) x more (law x h.1 (h.2 ++ rest) h.5) in
    let others = each_reach SpellsA step law xs room h.2 rest (omega arith) h.6 in
    let k : suc room - suc (length xs) ≡ room - length xs = omega arith in
    rw (split, one, others, k) (front_front (x ∷ []) xs (grow_from step 0 (room - length xs) rest))

end_reach : {A : Type 0} (step : List ℕ → A × List ℕ) (room : ℕ) (s rest : List ℕ) → SpellsEnd room s → grow_from step 0 room (s ++ rest) ≡ ([], rest)
unfolding grow_from
end_reach step zero s rest h = rw h refl
end_reach step (suc room) s rest h = grow_stop step room (s ++ rest) rest (more_room room (s ++ rest) ∙ bool_false s rest h)

pub from_start : {A : Type 0} (step : List ℕ → A × List ℕ) (max : ℕ) (s : List ℕ) → grow_at step 0 max 0 s ≡ grow_from step 0 max s
unfolding grow_at
from_start step max s = let k : max - 0 ≡ max = omega arith in rw k refl

-- a whole list, and false where room is left
pub list_reach : {A : Type 0} (SpellsA : A → List ℕ → Type 0) (step : List ℕ → A × List ℕ) → Reaches SpellsA step → (max : ℕ)
    → Reaches (SpellsList SpellsA max) (grow_from step 0 max)
list_reach SpellsA step law max xs s rest h =
    let split : s ++ rest ≡ h.0 ++ (h.1 ++ rest) = rw h.2 (append_assoc h.0 h.1 rest) in
    rw (split, each_reach SpellsA step law xs max h.0 (h.1 ++ rest) h.5 h.3, end_reach step (max - length xs) h.1 rest h.4) (front_last xs rest)

-- ---- types

no_reach : (asked : Bool) (s rest : List ℕ) → SpellsNo asked s → bool_if asked (s ++ rest) ≡ (false, rest)
unfolding bool_if
no_reach true s rest h = bool_false s rest h
no_reach false s rest h = rw h refl

asked_reach : (asked : Bool) (s rest : List ℕ) → asked ≡ true → SpellsBool true s → bool_if asked (s ++ rest) ≡ (true, rest)
unfolding bool_if
asked_reach asked s rest on h = rw on (bool_true s rest h)

heap_reach : (o : Offers) (bound : ℕ) (heap : HeapType ℕ) (s rest : List ℕ) → SpellsHeap o bound heap s → heap_at o bound (s ++ rest) ≡ (heap, rest)
unfolding heap_at
heap_reach o bound (Abstract heap) s rest (a, b, e, asked, choice) =
    let split : s ++ rest ≡ a ++ (b ++ rest) = rw e (append_assoc a b rest) in
    rw (split, no_reach (o.gc && nat_lt 0 bound) a (b ++ rest) asked, choice_reach o.heaps heap b rest choice) refl
heap_reach o bound (Concrete index) s rest (a, b, e, gc, lt, more, int) =
    let split : s ++ rest ≡ a ++ (b ++ rest) = rw e (append_assoc a b rest) in
    let on : (o.gc && nat_lt 0 bound) ≡ true = rw gc (lt-ltb 0 bound (omega (arith, lt))) in
    rw (split, asked_reach (o.gc && nat_lt 0 bound) a (b ++ rest) on more, int_reach 0 (bound - 1) index b rest int) refl

value_reach : (o : Offers) (bound : ℕ) (type : ValType ℕ) (s rest : List ℕ) → SpellsValue o bound type s → value_at o bound (s ++ rest) ≡ (type, rest)
unfolding value_at reference_at
value_reach o bound (Ref nullable heap) s rest (a, b, c, e, null, kind, asked, to) =
    let split : s ++ rest ≡ a ++ (b ++ (c ++ rest)) = rw e (simp append_assoc) in
    rw (split, choice_reach o.kinds Reference a (b ++ (c ++ rest)) kind, no_reach o.gc b (c ++ rest) asked, heap_reach o bound heap c rest to, null) refl
value_reach o bound I32 s rest h = rw (choice_reach o.kinds (NumberOrVector I32) s rest h) refl
value_reach o bound I64 s rest h = rw (choice_reach o.kinds (NumberOrVector I64) s rest h) refl
value_reach o bound F32 s rest h = rw (choice_reach o.kinds (NumberOrVector F32) s rest h) refl
value_reach o bound F64 s rest h = rw (choice_reach o.kinds (NumberOrVector F64) s rest h) refl
value_reach o bound V128 s rest h = rw (choice_reach o.kinds (NumberOrVector V128) s rest h) refl

pub values_reach : (o : Offers) (bound max : ℕ) → Reaches (SpellsList (SpellsValue o bound) max) (values_at o bound max)
unfolding values_at
values_reach o bound max types s rest h =
    from_start (value_at o bound) max (s ++ rest) ∙ list_reach (SpellsValue o bound) (value_at o bound) (value_reach o bound) max types s rest h

storage_reach : (o : Offers) (bound : ℕ) (type : StorageType ℕ) (s rest : List ℕ) → SpellsStorage o bound type s → storage_at o bound (s ++ rest) ≡ (type, rest)
unfolding storage_at
storage_reach o bound (Val type) s rest (a, b, e, form, value) =
    let split : s ++ rest ≡ a ++ (b ++ rest) = rw e (append_assoc a b rest) in
    rw (split, int_reach 0 2 0 a (b ++ rest) form, value_reach o bound type b rest value) refl
storage_reach o bound I8 s rest h = rw (int_reach 0 2 1 s rest h) refl
storage_reach o bound I16 s rest h = rw (int_reach 0 2 2 s rest h) refl

bool_reach : (b : Bool) (s rest : List ℕ) → SpellsBool b s → bool_at (s ++ rest) ≡ (b, rest)
bool_reach true s rest h = bool_true s rest h
bool_reach false s rest h = bool_false s rest h

field_reach : (o : Offers) (bound : ℕ) → Reaches (SpellsField o bound) (field_at o bound)
unfolding field_at
field_reach o bound field s rest (a, b, e, storage, mutable) =
    let split : s ++ rest ≡ a ++ (b ++ rest) = rw e (append_assoc a b rest) in
    rw (split, storage_reach o bound field.element_type a (b ++ rest) storage, bool_reach field.mutable b rest mutable) refl

fields_reach : (o : Offers) (bound : ℕ) → Reaches (SpellsList (SpellsField o bound) 20) (fields_at o bound 0)
unfolding fields_at
fields_reach o bound fields s rest h =
    from_start (field_at o bound) 20 (s ++ rest) ∙ list_reach (SpellsField o bound) (field_at o bound) (field_reach o bound) 20 fields s rest h

composite_reach : (o : Offers) (bound : ℕ) (c : CompositeType ℕ) (s rest : List ℕ) → SpellsComposite o bound c s → composite_at o bound (s ++ rest) ≡ (c, rest)
unfolding composite_at function_at structure_at array_at
composite_reach o bound (FuncComposite type) s rest (a, b, c, e, form, params, results) =
    let split : s ++ rest ≡ a ++ (b ++ (c ++ rest)) = rw e (simp append_assoc) in
    rw
    (split, int_reach 0 2 0 a (b ++ (c ++ rest)) form, values_reach o bound 20 type.params b (c ++ rest) params, values_reach o bound o.most_results type.results c rest results) refl
composite_reach o bound (StructComposite fields) s rest (a, b, e, form, each) =
    let split : s ++ rest ≡ a ++ (b ++ rest) = rw e (append_assoc a b rest) in
    rw (split, int_reach 0 2 1 a (b ++ rest) form, fields_reach o bound fields b rest each) refl
composite_reach o bound (ArrayComposite field) s rest (a, b, e, form, one) =
    let split : s ++ rest ≡ a ++ (b ++ rest) = rw e (append_assoc a b rest) in
    rw (split, int_reach 0 2 2 a (b ++ rest) form, field_reach o bound field b rest one) refl
composite_reach o bound (ContComposite function) s rest h = absurd h

not_not : (b : Bool) → not (not b) ≡ b
not_not true = refl
not_not false = refl

type_reach : (o : Offers) (bound : ℕ) (asked : Bool) (type : SubType ℕ) (s rest : List ℕ) → SpellsType o bound asked type s
    → type_at o bound asked (s ++ rest) ≡ Some (type, rest)
unfolding type_at plain_type_at
type_reach o bound asked type s rest (a, b, c, e, none, under, open_, made_of) =
    let split : s ++ rest ≡ a ++ (b ++ (c ++ rest)) = rw e (simp append_assoc) in
    rw
    (split, no_reach asked a (b ++ (c ++ rest)) under, bool_reach (not type.is_final) b (c ++ rest) open_, composite_reach o bound type.composite_type c rest made_of, not_not type.is_final)
    (ap (λ (above : List ℕ). Some (record { is_final = type.is_final; supertypes = above; composite_type = type.composite_type }, rest)) (sym none))

one_more : {A : Type 0} (x : Option (A × List ℕ)) (next : A × List ℕ → Option (List A × List ℕ)) (first : A × List ℕ) (others : List A) (rest : List ℕ)
    → x ≡ Some first → next first ≡ Some (others, rest) → with_first x next ≡ Some (first.0 ∷ others, rest)
one_more x next first others rest e f = rw (e, f) refl

members_reach : (o : Offers) (bound : ℕ) (asked : Bool) (types : List (SubType ℕ)) (s rest : List ℕ) → SpellsMembers o bound asked types s
    → members_at o bound asked (length types) (s ++ rest) ≡ Some (types, rest)
unfolding members_at
members_reach o bound asked [] s rest h = rw h refl
members_reach o bound asked (type ∷ types) s rest (a, b, e, one, others) =
    let split : s ++ rest ≡ a ++ (b ++ rest) = rw e (append_assoc a b rest) in
    ap (members_at o bound asked (suc (length types))) split
    ∙ one_more (type_at o bound asked (a ++ (b ++ rest))) (λ first. members_at o bound (asks_then asked first.0) (length types) first.1)
    (type, b ++ rest) types rest (type_reach o bound asked type a (b ++ rest) one) (members_reach o bound (asks_then asked type) types b rest others)

-- ---- groups

group_reach : (o : Offers) (left : ℕ) (front : Front) (group : List (SubType ℕ)) (s rest : List ℕ) → SpellsGroup o left front group s
    → group_at o left front (s ++ rest) ≡ Some (group, rest)
unfolding group_at
group_reach o left front group s rest (a, b, c, e, clone, size, types) =
    let split : s ++ rest ≡ a ++ (b ++ (c ++ rest)) = rw e (simp append_assoc) in
    rw (split, no_reach (list_any (fits left) front.sizes) a (b ++ (c ++ rest)) clone, int_reach 1 left (length group) b (c ++ rest) size)
    (members_reach o (total front.sizes + length group) front.asked group c rest types)

pub groups_reach : (o : Offers) (max fuel : ℕ) (front : Front) (groups : List (List (SubType ℕ))) (s rest : List ℕ) → max < total front.sizes + fuel
    → SpellsGroups o max front groups s → groups_at o max fuel front (s ++ rest) ≡ Some (groups, rest)
unfolding groups_at
groups_reach o max zero front [] s rest enough h =
    let off : nat_lt (total front.sizes) max ≡ false = le-ltb (total front.sizes) max (omega (arith, enough)) in
    let nothing : s ≡ [] = subst (λ b. SpellsNo b s) off h in
    rw nothing refl
groups_reach o max (suc fuel) front [] s rest enough h = rw (no_reach (nat_lt (total front.sizes) max) s rest h) refl
groups_reach o max zero front (group ∷ groups) s rest enough (a, b, c, e, room, more, one, others) = absurd (omega (arith, enough, room))
groups_reach o max (suc fuel) front (group ∷ groups) s rest enough (a, b, c, e, room, more, one, others) =
    let split : s ++ rest ≡ a ++ (b ++ (c ++ rest)) = rw e (simp append_assoc) in
    let left = max - total front.sizes in
    let size = one.5.1 in
    let some : 0 < length group = omega (arith, size) in
    let on : nat_lt (total front.sizes) max ≡ true = lt-ltb (total front.sizes) max room in
    let enough' : max < total (front_then front group).sizes + fuel = omega (arith, enough, some, sum_more front.sizes (length group)) in
    ap (groups_at o max (suc fuel) front) split
    ∙ rw (asked_reach (nat_lt (total front.sizes) max) a (b ++ (c ++ rest)) on more)
    (one_more (group_at o left front (b ++ (c ++ rest))) (λ first. groups_at o max fuel (front_then front first.0) first.1) (group, c ++ rest) groups rest (group_reach o left front group b (c ++ rest) one) (groups_reach o max fuel (front_then front group) groups c rest enough' others))

-- what is drawn is what is spelled
pub wanted_drawn : (o : Offers) (max : ℕ) (wanted : List (List (SubType ℕ))) (s rest old new : List ℕ) (made_groups : List (RecGroup ℕ))
    → IfSome (groups_at o max (max + 1) no_groups old) (λ drawn. (made_groups ≡ map entry drawn.0) × (new ≡ drawn.1))
    → SpellsGroups o max no_groups wanted s → old ≡ s ++ rest → (made_groups ≡ map entry wanted) × (new ≡ rest)
wanted_drawn o max wanted s rest old new made_groups drawn spells is =
    let e : groups_at o max (max + 1) no_groups old ≡ Some (wanted, rest) =
    ap (groups_at o max (max + 1) no_groups) is ∙ groups_reach o max (max + 1) no_groups wanted s rest (omega arith) spells in
    subst (λ (d : Option (List (List (SubType ℕ)) × List ℕ)). IfSome d (λ drawn. (made_groups ≡ map entry drawn.0) × (new ≡ drawn.1))) e drawn
