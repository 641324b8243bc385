-- The groups that are drawn.
use Rattle.std.proofs.Common.{◌≡◌, ℕ, zero, suc, ◌+◌, ◌-◌, ◌≤◌, ◌<◌, Bool, true, false, not, ◌||◌, List, [], ◌∷◌, ◌++◌, map, length, Option, Some, None, IfSome, append_assoc, refl, sym, ap, ◌∙◌, arith, inl, inr, subst, length-append}
use Rattle.std.proofs.lemmas.Bool.{cases_lt, lt-ltb, le-ltb, ne_eqb}
use Rattle.std.proofs.lemmas.List.{append-nil}
use Rattle.std.specs.List.{list_any}
use Rattle.std.specs.Prelude.{nat_lt, ◌==◌}
use Rattle.wasm_spec.specs.Types.{SubType}
use Rattle.wasm_smith_unstructured.specs.Draws.{int_at}
use Rattle.wasm_smith_types.specs.Drawing.{Offers, Front, front_then, bool_if, with_first, fits, total, members_at, group_at, groups_at, no_groups}
use Rattle.wasm_smith_validity.specs.ValidGroups.{entry}
use Rattle.wasm_smith_types.specs.Grouped.{grouped, front_of, AreWhole, AddsGroupDrawn, AreLeft}
use Rattle.wasm_smith_types.specs.Growing.{grows_from, grows_at}
use Rattle.wasm_smith_types.specs.Making.{made}
use Rattle.wasm_smith_types.specs.declared.candidates.Candidate.{Candidate}
use Rattle.wasm_smith_types.specs.declared.types.Types.{Types}
use Rattle.wasm_smith_types.proofs.GroupedLaws.{grouped_more, sum_more}

-- ---- whether some group fits

pub any_more : {X : Type 0} (p : X → Bool) (xs : List X) (x : X) → list_any p (xs ++ x ∷ []) ≡ (list_any p xs || p x)
any_more p [] x = or_last (p x)
  where
    or_last : (b : Bool) → (b || false) ≡ (false || b)
    or_last true = refl
    or_last false = refl
any_more p (y ∷ xs) x = go (p y) (list_any p xs) (p x) (any_more p xs x)
  where
    go : (b c d : Bool) {e : Bool} → e ≡ (c || d) → (b || e) ≡ ((b || c) || d)
    go true c d h = refl
    go false c d h = h

not_none : (n : ℕ) → not (n == 0) ≡ nat_lt 0 n
not_none zero = refl
not_none (suc n) = ap not (ne_eqb (suc n) 0 (λ e. absurd (omega (arith, e)))) ∙ sym (lt-ltb 0 (suc n) (omega arith))

pub asked_is : (empty : Bool) (n m left : ℕ) (sizes : List ℕ) → empty ≡ (n == 0) → n ≡ m → nat_lt 0 m ≡ list_any (fits left) sizes
    → not empty ≡ list_any (fits left) sizes
asked_is empty n m left sizes test same asks = ap not test ∙ not_none n ∙ ap (nat_lt 0) same ∙ asks

-- ---- one group

pub group_is_clone : (o : Offers) (left : ℕ) (front : Front) (s t : List ℕ) → bool_if (list_any (fits left) front.sizes) s ≡ (true, t)
    → group_at o left front s ≡ None
unfolding group_at
group_is_clone o left front s t e = rw e refl

pub group_is_new : (o : Offers) (left : ℕ) (front : Front) (s t u : List ℕ) (size : ℕ) → bool_if (list_any (fits left) front.sizes) s ≡ (false, t)
    → int_at 1 left t ≡ (size, u) → group_at o left front s ≡ members_at o (total front.sizes + size) front.asked size u
unfolding group_at
group_is_new o left front s t u size e f = rw (e, f) refl

-- ---- one group after the other

pub record FirstOf {A : Type 0} (x : Option (A × List ℕ)) (next : A × List ℕ → Option (List A × List ℕ)) (rest : List A) (t : List ℕ) : Type 0 where
  pub first : A × List ℕ
  pub is : x ≡ Some first
  pub others : List A
  pub are : next first ≡ Some (others, t)
  pub all : rest ≡ first.0 ∷ others

pub first_of : {A : Type 0} (x : Option (A × List ℕ)) (next : A × List ℕ → Option (List A × List ℕ)) (rest : List A) (t : List ℕ)
    → with_first x next ≡ Some (rest, t) → FirstOf x next rest t
first_of None next rest t e = absurd cc
first_of {A} (Some first) next rest t e = go (next first) refl e
  where
    go : (d : Option (List A × List ℕ)) → next first ≡ d → with_first (Some first) (λ _. d) ≡ Some (rest, t) → FirstOf (Some first) next rest t
    go None are e = absurd cc
    go (Some others) are e =
        let one : (first.0 ∷ others.0, others.1) ≡ (rest, t) = cc in
        let all : first.0 ∷ others.0 ≡ rest = ap (λ (p : List A × List ℕ). p.0) one in
        let end : others.1 ≡ t = ap (λ (p : List A × List ℕ). p.1) one in
        record { first = first; is = refl; others = others.0; are = are ∙ ap (λ u. Some (others.0, u)) end; all = sym all }

pub grows_free : (max count : ℕ) (s : List ℕ) → grows_at 0 max count s ≡ bool_if (nat_lt count max) s
unfolding grows_at grows_from bool_if
grows_free max count s =
    let z : 0 - count ≡ 0 = omega arith in
    elim (cases_lt count max) [
      | inl lt ↦ let some : 0 < max - count = omega (arith, lt) in rw (z, lt-ltb 0 (max - count) some, lt-ltb count max lt) refl
      | inr ge ↦ let none : max - count ≡ 0 = omega (arith, ge) in rw (z, none, le-ltb count max ge) refl
    ]

nothing_made : (sizes : List ℕ) (candidates : List Candidate) → sizes ≡ [] → candidates ≡ []
    → record { sizes = sizes; asked = nat_lt 0 (length candidates) } ≡ no_groups
nothing_made sizes candidates e f = rw (e, f) refl

pub groups_begin : (o : Offers) (max : ℕ) (t : Types) (s : List ℕ) → t.sizes.items ≡ [] → t.candidates.items ≡ []
    → IfSome (groups_at o max (max + 1) no_groups s) (λ drawn. AreLeft o max drawn t s)
groups_begin o max t s sizes candidates = go (groups_at o max (max + 1) no_groups s) refl
  where
    go : (d : Option (List (List (SubType ℕ)) × List ℕ)) → groups_at o max (max + 1) no_groups s ≡ d → IfSome d (λ drawn. AreLeft o max drawn t s)
    go None e = tt
    go (Some drawn) e = record {
      fuel = max + 1;
      rest = drawn.0;
      draws = ap (λ front. groups_at o max (max + 1) front s) (nothing_made t.sizes.items t.candidates.items sizes candidates) ∙ e;
      enough = omega (arith, ap total sizes);
      parts = ap (λ ns. grouped ns (made t) ++ map entry drawn.0) sizes;
    }

pub more_groups : (o : Offers) (max fuel : ℕ) (front : Front) (s t : List ℕ) → bool_if (nat_lt (total front.sizes) max) s ≡ (true, t)
    → groups_at o max (suc fuel) front s ≡ with_first (group_at o (max - total front.sizes) front t) (λ first. groups_at o max fuel (front_then front first.0) first.1)
unfolding groups_at
more_groups o max fuel front s t e = rw e refl

no_more_groups : (o : Offers) (max fuel : ℕ) (front : Front) (s t : List ℕ) → bool_if (nat_lt (total front.sizes) max) s ≡ (false, t)
    → groups_at o max (suc fuel) front s ≡ Some ([], t)
unfolding groups_at
no_more_groups o max fuel front s t e = rw e refl

one_group : (o : Offers) (max : ℕ) (drawn : List (List (SubType ℕ)) × List ℕ) (now next : Types) (s t u : List ℕ) → AreLeft o max drawn now s → AreWhole now
    → total now.sizes.items < max → length (made now) < length (made next) → bool_if (nat_lt (total now.sizes.items) max) s ≡ (true, t)
    → IfSome (group_at o (max - total now.sizes.items) (front_of now) t) (λ d. AddsGroupDrawn d now next u) → AreLeft o max drawn next u
one_group o max drawn now next s t u it whole room longer more group = go it.fuel refl
  where
    go : (fuel : ℕ) → it.fuel ≡ fuel → AreLeft o max drawn next u
    go zero e = let h = it.enough in absurd (omega (arith, h, e, room))
    go (suc fuel) e =
        let front = front_of now in
        let draws : groups_at o max (suc fuel) front s ≡ Some (it.rest, drawn.1) = rw e at it.draws in
        let p =
        first_of (group_at o (max - total now.sizes.items) front t) (λ first. groups_at o max fuel (front_then front first.0) first.1) it.rest drawn.1
        (sym (more_groups o max fuel front s t more) ∙ draws) in
        let here : AddsGroupDrawn p.first now next u =
        subst (λ (x : Option (List (SubType ℕ) × List ℕ)). IfSome x (λ d. AddsGroupDrawn d now next u)) p.is group in
        let sizes : next.sizes.items ≡ now.sizes.items ++ length p.first.0 ∷ [] = ap (λ (f : Front). f.sizes) here.front in
        let some : length (made next) ≡ length (made now) + length p.first.0 = omega (arith, ap length here.added, length-append (made now) p.first.0) in
        let h = it.enough in
        record {
          fuel = fuel;
          rest = p.others;
          draws = rw (here.front, here.at) p.are;
          enough = omega (arith, h, e, ap total sizes, sum_more now.sizes.items (length p.first.0), some, longer);
          parts =
              ap (λ ns. grouped ns (made next) ++ map entry p.others) sizes
              ∙ ap (λ ts. grouped (now.sizes.items ++ length p.first.0 ∷ []) ts ++ map entry p.others) here.added
              ∙ ap (λ gs. gs ++ map entry p.others) (grouped_more now.sizes.items (made now) p.first.0 whole)
              ∙ append_assoc (grouped now.sizes.items (made now)) (entry p.first.0 ∷ []) (map entry p.others)
              ∙ ap (λ gs. grouped now.sizes.items (made now) ++ map entry gs) (sym p.all) ∙ it.parts;
        }

pub groups_go_on : (o : Offers) (max count : ℕ) (total_ : Option (List (List (SubType ℕ)) × List ℕ)) (now next : Types) (s t u : List ℕ)
    → count ≡ length (made now) → AreWhole now → count < max → length (made now) < length (made next) → grows_at 0 max count s ≡ (true, t)
    → IfSome (group_at o (max - count) (front_of now) t) (λ d. AddsGroupDrawn d now next u) → IfSome total_ (λ drawn. AreLeft o max drawn now s)
    → IfSome total_ (λ drawn. AreLeft o max drawn next u)
groups_go_on o max count None now next s t u same whole room longer more group it = tt
groups_go_on o max count (Some drawn) now next s t u same whole room longer more group it =
    let e : count ≡ total now.sizes.items = same ∙ sym whole in
    let more' : bool_if (nat_lt (total now.sizes.items) max) s ≡ (true, t) = rw e at (sym (grows_free max count s) ∙ more) in
    one_group o max drawn now next s t u it whole (omega (arith, e, room)) longer more' (rw e at group)

pub groups_end : (o : Offers) (max count : ℕ) (total_ : Option (List (List (SubType ℕ)) × List ℕ)) (now : Types) (s t : List ℕ) → count ≡ length (made now)
    → AreWhole now → count ≤ max → grows_at 0 max count s ≡ (false, t)
    → IfSome total_ (λ drawn. AreLeft o max drawn now s) → IfSome total_ (λ drawn. (grouped now.sizes.items (made now) ≡ map entry drawn.0) × (t ≡ drawn.1))
groups_end o max count None now s t same whole few more it = tt
groups_end o max count (Some drawn) now s t same whole few more it = go it.fuel refl
  where
    go : (fuel : ℕ) → it.fuel ≡ fuel → (grouped now.sizes.items (made now) ≡ map entry drawn.0) × (t ≡ drawn.1)
    go zero e = let h = it.enough in absurd (omega (arith, h, e, same, whole, few))
    go (suc fuel) e =
        let e' : count ≡ total now.sizes.items = same ∙ sym whole in
        let stop : bool_if (nat_lt (total now.sizes.items) max) s ≡ (false, t) = rw e' at (sym (grows_free max count s) ∙ more) in
        let draws : groups_at o max (suc fuel) (front_of now) s ≡ Some (it.rest, drawn.1) = rw e at it.draws in
        let both : Some ([], t) ≡ Some (it.rest, drawn.1) = sym (no_more_groups o max fuel (front_of now) s t stop) ∙ draws in
        let one : ([], t) ≡ (it.rest, drawn.1) = cc in
        let none : [] ≡ it.rest = ap (λ (p : List (List (SubType ℕ)) × List ℕ). p.0) one in
        let at : t ≡ drawn.1 = ap (λ (p : List (List (SubType ℕ)) × List ℕ). p.1) one in
        (sym (append-nil (grouped now.sizes.items (made now))) ∙ ap (λ gs. grouped now.sizes.items (made now) ++ map entry gs) none ∙ it.parts, at)
