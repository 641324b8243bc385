-- More types are asked for than there may be; and what is drawn, with garbage collection and without.
use Rattle.std.proofs.Common.{◌≡◌, ℕ, zero, suc, ◌+◌, ◌-◌, ◌≤◌, ◌<◌, Bool, true, false, List, [], ◌∷◌, ◌++◌, map, length, take, drop, Option, Some, None, IfSome, refl, sym, ap, ◌∙◌, subst, arith, inl, inr, length-append}
use Rattle.std.specs.List.{AllByRecursion}
use Rattle.std.specs.Prelude.{nat_lt, option_map, ◌==◌, if◌then◌else◌}
use Rattle.std.proofs.lemmas.Bool.Decides.{eqb_tells}
use Rattle.std.proofs.lemmas.Grind.{flat_map-append}
use Rattle.std.proofs.lemmas.List.{length-drop, length-take-le}
use Rattle.wasm_spec.specs.Syntax.{members}
use Rattle.wasm_spec.specs.Types.{SubType, RecGroup, Single}
use Rattle.wasm_smith_config.specs.declared.config.Config.{Config}
use Rattle.wasm_smith_types.specs.Drawing.{Offers, front_then, asks_then, bool_if, total, type_at, members_at, group_at, groups_at}
use Rattle.wasm_smith_types.specs.DrawnGroups.{AreSome, drawn_groups_at}
use Rattle.wasm_smith_types.specs.Grouped.{grouped, front_of, AreWhole, AreLeft}
use Rattle.wasm_smith_types.specs.Growing.{grow_at, grows_at, with_front}
use Rattle.wasm_smith_types.specs.Making.{made}
use Rattle.wasm_smith_types.specs.Offering.{function_types_at, gc_groups_at}
use Rattle.wasm_smith_validity.specs.ValidGroups.{types_of, entry}
use Rattle.wasm_smith_types.specs.declared.types.Types.{Types}
use Rattle.wasm_smith_types.proofs.GroupDraws.{first_of, more_groups, grows_free}
use Rattle.wasm_smith_types.proofs.GroupedLaws.{types_of_grouped}
use Rattle.wasm_smith_validity.proofs.GroupLaws.{entry_members}
use Rattle.wasm_smith_types.proofs.GrowLaws.{grow_goes_on}
use Rattle.wasm_smith_types.proofs.ListLaws.{all_append}

-- ---- a group is too large

-- as many types are drawn as are asked for
members_many : (o : Offers) (bound n : ℕ) (asked : Bool) (s : List ℕ) (types : List (SubType ℕ)) (t : List ℕ) → members_at o bound asked n s ≡ Some (types, t)
    → length types ≡ n
unfolding members_at
members_many o bound zero asked s types t e =
    let one : ([], s) ≡ (types, t) = cc in
    let none : [] ≡ types = ap (λ (p : List (SubType ℕ) × List ℕ). p.0) one in
    ap length (sym none)
members_many o bound (suc n) asked s types t e =
    let p = first_of (type_at o bound asked s) (λ first. members_at o bound (asks_then asked first.0) n first.1) types t e in
    ap length p.all ∙ ap suc (members_many o bound n (asks_then asked p.first.0) p.first.1 p.others t p.are)

pub members_past : (o : Offers) (bound size room : ℕ) (asked : Bool) (s : List ℕ) → room < size
    → IfSome (members_at o bound asked size s) (λ drawn. room < length drawn.0)
members_past o bound size room asked s past = go (members_at o bound asked size s) refl
  where
    go : (d : Option (List (SubType ℕ) × List ℕ)) → members_at o bound asked size s ≡ d → IfSome d (λ drawn. room < length drawn.0)
    go None e = tt
    go (Some drawn) e = omega (arith, past, members_many o bound size asked s drawn.0 drawn.1 e)

types_of_entries : (front : List (RecGroup ℕ)) (group : List (SubType ℕ)) (groups : List (List (SubType ℕ)))
    → length (types_of front) + length group ≤ length (types_of (front ++ map entry (group ∷ groups)))
types_of_entries front group groups =
    let all = flat_map-append members front (map entry (group ∷ groups)) in
    omega
    (arith, ap length all, length-append (types_of front) (types_of (map entry (group ∷ groups))), length-append (members (entry group)) (types_of (map entry groups)), ap length (entry_members group))

-- the groups so far and the next one are all that is drawn, or less
past_by_one : (o : Offers) (max room : ℕ) (drawn : List (List (SubType ℕ)) × List ℕ) (now : Types) (s t : List ℕ) → AreLeft o max drawn now s → AreWhole now
    → total now.sizes.items < max → bool_if (nat_lt (total now.sizes.items) max) s ≡ (true, t)
    → IfSome (group_at o (max - total now.sizes.items) (front_of now) t) (λ d. room < length d.0) → length (made now) + room < length (types_of (map entry drawn.0))
past_by_one o max room drawn now s t it whole below more group = go it.fuel refl
  where
    go : (fuel : ℕ) → it.fuel ≡ fuel → length (made now) + room < length (types_of (map entry drawn.0))
    go zero e = let h = it.enough in absurd (omega (arith, h, e, below))
    go (suc fuel) e =
        let front = front_of now in
        let draws : groups_at o max (suc fuel) front s ≡ Some (it.rest, drawn.1) = rw e at it.draws in
        let p =
        first_of (group_at o (max - total now.sizes.items) front t) (λ first. groups_at o max fuel (front_then front first.0) first.1) it.rest drawn.1
        (sym (more_groups o max fuel front s t more) ∙ draws) in
        let large : room < length p.first.0 = subst (λ (x : Option (List (SubType ℕ) × List ℕ)). IfSome x (λ d. room < length d.0)) p.is group in
        let so_far = types_of_entries (grouped now.sizes.items (made now)) p.first.0 p.others in
        let all : grouped now.sizes.items (made now) ++ map entry (p.first.0 ∷ p.others) ≡ map entry drawn.0 =
        ap (λ gs. grouped now.sizes.items (made now) ++ map entry gs) (sym p.all) ∙ it.parts in
        omega
        (arith, large, so_far, ap (λ gs. length (types_of gs)) all, ap length (types_of_grouped now.sizes.items (made now) whole))

pub groups_past : (o : Offers) (max count room most : ℕ) (total_ : Option (List (List (SubType ℕ)) × List ℕ)) (now : Types) (s t : List ℕ)
    → count ≡ length (made now) → count + room ≡ most → AreWhole now → count < max → grows_at 0 max count s ≡ (true, t)
    → IfSome (group_at o (max - count) (front_of now) t) (λ d. room < length d.0) → IfSome total_ (λ drawn. AreLeft o max drawn now s)
    → IfSome total_ (λ drawn. most < length (types_of (map entry drawn.0)))
groups_past o max count room most None now s t same is whole below more group it = tt
groups_past o max count room most (Some drawn) now s t same is whole below more group it =
    let e : count ≡ total now.sizes.items = same ∙ sym whole in
    let more' : bool_if (nat_lt (total now.sizes.items) max) s ≡ (true, t) = rw e at (sym (grows_free max count s) ∙ more) in
    omega (arith, same, is, past_by_one o max room drawn now s t it whole (omega (arith, e, below)) more' (rw e at group))

-- ---- one more thing

pub grow_past : {A : Type 0} (step : List ℕ → A × List ℕ) (front : List A) (min max n most : ℕ) (s t : List ℕ) (total_ : List A × List ℕ) → grows_at min max n s ≡ (true, t)
    → length front ≡ n → most ≤ n → with_front front (grow_at step min max n s) ≡ total_ → most < length total_.0
unfolding with_front
grow_past step front min max n most s t total_ more len le so_far =
    let v = (step t).0 in
    let one = grow_goes_on step front min max n s t (step t).1 v total_ more refl so_far in
    let parts : (front ++ v ∷ []) ++ (grow_at step min max (n + 1) (step t).1).0 ≡ total_.0 = ap (λ d. d.0) one in
    omega (arith, len, le, ap length parts, length-append (front ++ v ∷ []) (grow_at step min max (n + 1) (step t).1).0, length-append front (v ∷ []))

-- ---- no group is empty

pub some_more : (old new : List ℕ) (size : ℕ) → new ≡ old ++ size ∷ [] → 0 < size → AllByRecursion (λ n. 0 < n) old → AllByRecursion (λ n. 0 < n) new
some_more old new size is some all =
    subst (λ ns. AllByRecursion (λ n. 0 < n) ns) (sym is) (all_append (λ n. 0 < n) old (size ∷ []) all (some, tt))

pub some_groups : (sizes : List ℕ) (ts : List (SubType ℕ)) → total sizes ≡ length ts → AllByRecursion (λ size. 0 < size) sizes → AreSome (grouped sizes ts)
some_groups [] ts h some = tt
some_groups (n ∷ ns) ts h some =
    (omega (arith, some.0, ap length (entry_members (take n ts)), length-take-le n ts (omega (arith, h))), some_groups ns (drop n ts) (omega (arith, h, length-drop n ts)) some.1)

-- ---- what is drawn

if_true : {A : Type 0} (P : A → Type 0) (b : Bool) (x y : Option A) → b ≡ true → IfSome x P → IfSome (if b then x else y) P
if_true P true x y e h = h
if_true P false x y e h = absurd cc

if_false : {A : Type 0} (P : A → Type 0) (b : Bool) (x y : Option A) → b ≡ false → IfSome y P → IfSome (if b then x else y) P
if_false P true x y e h = absurd cc
if_false P false x y e h = h

if_some : {A : Type 0} (P : A → Type 0) (b : Bool) (x : Option A) → (b ≡ true → IfSome x P) → IfSome (if b then x else None) P
if_some P true x h = h refl
if_some P false x h = tt

is_zero : (n : ℕ) → (n == 0) ≡ true → n ≡ 0
is_zero n e = elim (eqb_tells n 0) [ inl (t, same) ↦ same | inr (t, differ) ↦ let both : false ≡ true = sym t ∙ e in absurd cc ]

-- with garbage collection, what holds of the groups and the bytes that are left holds of what is drawn
with_gc : (P : List (RecGroup ℕ) × List ℕ → Type 0) (c : Config) (s : List ℕ) → c.gc_enabled ≡ true
    → (c.min_types ≡ 0 → IfSome (gc_groups_at c s) (λ drawn. P (map entry drawn.0, drawn.1))) → IfSome (drawn_groups_at c s) P
unfolding drawn_groups_at
with_gc P c s on h =
    if_true P c.gc_enabled _ _ on (if_some P (c.min_types == 0) _ (λ none. go (gc_groups_at c s) (h (is_zero c.min_types none))))
  where
    go : (d : Option (List (List (SubType ℕ)) × List ℕ)) → IfSome d (λ drawn. P (map entry drawn.0, drawn.1))
        → IfSome (option_map (λ (drawn : List (List (SubType ℕ)) × List ℕ). (map entry drawn.0, drawn.1)) d) P
    go None h = tt
    go (Some drawn) h = h

without_gc : (P : List (RecGroup ℕ) × List ℕ → Type 0) (c : Config) (s : List ℕ) → c.gc_enabled ≡ false
    → P (map Single (function_types_at c s).0, (function_types_at c s).1) → IfSome (drawn_groups_at c s) P
unfolding drawn_groups_at
without_gc P c s off h = if_false P c.gc_enabled _ (Some (map Single (function_types_at c s).0, (function_types_at c s).1)) off h

pub drawn_with_gc : (c : Config) (old new : List ℕ) (groups : List (RecGroup ℕ)) → c.gc_enabled ≡ true
    → (c.min_types ≡ 0 → IfSome (gc_groups_at c old) (λ drawn. (groups ≡ map entry drawn.0) × (new ≡ drawn.1))) → IfSome (drawn_groups_at c old) (λ drawn. drawn ≡ (groups, new))
drawn_with_gc c old new groups on h = with_gc (λ drawn. drawn ≡ (groups, new)) c old on (λ none. go (gc_groups_at c old) (h none))
  where
    go : (d : Option (List (List (SubType ℕ)) × List ℕ)) → IfSome d (λ drawn. (groups ≡ map entry drawn.0) × (new ≡ drawn.1))
        → IfSome d (λ drawn. ◌≡◌ {A = List (RecGroup ℕ) × List ℕ} (map entry drawn.0, drawn.1) (groups, new))
    go None h = tt
    go (Some drawn) h = rw (h.0, h.1) refl

pub past_with_gc : (c : Config) (s : List ℕ) (most : ℕ) → c.gc_enabled ≡ true
    → (c.min_types ≡ 0 → IfSome (gc_groups_at c s) (λ drawn. most < length (types_of (map entry drawn.0)))) → IfSome (drawn_groups_at c s) (λ drawn. most < length (types_of drawn.0))
past_with_gc c s most on h = with_gc (λ drawn. most < length (types_of drawn.0)) c s on h

pub drawn_without_gc : (c : Config) (old new : List ℕ) (groups : List (RecGroup ℕ)) (types : List (SubType ℕ)) → c.gc_enabled ≡ false → groups ≡ map Single types
    → function_types_at c old ≡ (types, new) → IfSome (drawn_groups_at c old) (λ drawn. drawn ≡ (groups, new))
drawn_without_gc c old new groups types off singles e = without_gc (λ drawn. drawn ≡ (groups, new)) c old off (rw (e, singles) refl)

single_types : (types : List (SubType ℕ)) → types_of (map Single types) ≡ types
single_types [] = refl
single_types (type ∷ types) = ap (λ ts. type ∷ ts) (single_types types)

pub past_without_gc : (c : Config) (s : List ℕ) (most : ℕ) → c.gc_enabled ≡ false → most < length (function_types_at c s).0
    → IfSome (drawn_groups_at c s) (λ drawn. most < length (types_of drawn.0))
past_without_gc c s most off past =
    without_gc (λ drawn. most < length (types_of drawn.0)) c s off (omega (arith, past, ap length (single_types (function_types_at c s).0)))
