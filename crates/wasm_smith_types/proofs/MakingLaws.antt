-- One more type.
use Rattle.std.proofs.Common.{◌≡◌, ℕ, zero, suc, ◌+◌, ◌-◌, ◌≤◌, ◌<◌, Bool, true, false, List, [], ◌∷◌, ◌++◌, map, length, Option, Some, None, IfSome, append_assoc, refl, sym, ap, ◌∙◌, arith, inl, inr, subst, length-append, get_or, not}
use Rattle.std.proofs.lemmas.List.{length-map, append-nil}
use Rattle.std.proofs.lemmas.Bool.{not-true, eqb-false, cases_lt}
use Rattle.std.proofs.lemmas.Option.{slice_get_within}
use Rattle.std.specs.List.{slice_get}
use Rattle.wasm_spec.specs.Features.{Features}
use Rattle.wasm_spec.specs.Groups.{no_link, one_more, ContinuesFunc}
use Rattle.wasm_spec.specs.Types.{SubType, CompositeType}
use Rattle.wasm_spec.specs.Subtyping.{SubTypes}
use Rattle.wasm_spec.specs.TypeReferences.{sub_map}
use Rattle.wasm_spec.proofs.Carried.{carried}
use Rattle.wasm_spec.proofs.Elements.{contains_first}
use Rattle.wasm_spec.proofs.Places.{get_left, get_right, get_cases}
use Rattle.wasm_smith_types.specs.Drawing.{Offers, function_at, structure_at, array_at, composite_at, with_first, asks_then, asked_after, type_at, members_at, bool_if}
use Rattle.wasm_smith_types.specs.Permitted.{IsPermittedComposite, IsPermittedCopy}
use Rattle.wasm_smith_types.specs.Making.{made, has_candidates, IsCandidate, AreCandidates, IsMember, AreMembers, Adds, AddsDrawn, AddsAll, AddsAllDrawn, IsLeft}
use Rattle.wasm_smith_validity.specs.ValidGroups.{HasHeight}
use Rattle.wasm_smith_types.specs.declared.types.Types.{Types}
use Rattle.wasm_smith_types.specs.declared.candidates.Candidate.{Candidate}
use Rattle.wasm_smith_types.proofs.PermittedLaws.{all_imply'}
use Rattle.wasm_smith_validity.proofs.GroupLaws.{more_keep, rules_with_more}
use Rattle.wasm_smith_types.proofs.OfferLaws.{was_asked}
use Rattle.wasm_smith_types.proofs.ListLaws.{all_append}
use Rattle.wasm_smith_unstructured.specs.Draws.{int_at}
use Rattle.std.specs.Prelude.{◌==◌}
use Rattle.std.proofs.Common.{cond}

-- ---- what was known stays known

pub height_with_more : (ts us : List (SubType ℕ)) (height index : ℕ) → HasHeight (slice_get ts) height index → HasHeight (slice_get (ts ++ us)) height index
height_with_more ts us height index high = record {
  top = high.top;
  links = (carried (λ r. r) (slice_get ts) (slice_get (ts ++ us)) (more_keep ts us)).depth height index high.top high.links;
  type = sub_map (λ r. r) high.type;
  is = more_keep ts us high.top high.type high.is;
  none = ap (map (λ r. r)) high.none;
}

pub candidate_with_more : (ts us : List (SubType ℕ)) (c : Candidate) → IsCandidate ts c → IsCandidate (ts ++ us) c
candidate_with_more ts us c h = record {
  type = h.type;
  is = get_left ts us c.index (slice_get_within ts c.index h.type h.is) ∙ h.is;
  is_open = h.is_open;
  height = height_with_more ts us c.height c.index h.height;
  low = h.low;
}

pub candidates_with_more : (ts us : List (SubType ℕ)) (cs : List Candidate) → AreCandidates ts cs → AreCandidates (ts ++ us) cs
candidates_with_more ts us cs h = all_imply' (IsCandidate ts) (IsCandidate (ts ++ us)) (candidate_with_more ts us) cs h

pub last_is : (ts : List (SubType ℕ)) (t : SubType ℕ) → slice_get (ts ++ t ∷ []) (length ts) ≡ Some t
last_is ts t = let z : length ts + 0 ≡ length ts = omega arith in subst (λ i. slice_get (ts ++ t ∷ []) i ≡ Some t) z (get_right ts (t ∷ []) 0)

-- what stands in a list stands in what is seen of it
pub seen_at : {X Y : Type 0} (f : X → Y) (xs : List X) (i : ℕ) (x : X) (y : Y) → x ≡ get_or xs i x → slice_get (map f xs) i ≡ Some y → f x ≡ y
seen_at f [] i x y e at = absurd cc
seen_at f (z ∷ xs) zero x y e at = let one : f z ≡ y = cc in rw e one
seen_at f (z ∷ xs) (suc i) x y e at = seen_at f xs i x y e at

pub get_within : {X Y : Type 0} (f : X → Y) (xs : List X) (i : ℕ) (y : Y) → slice_get (map f xs) i ≡ Some y → i < length xs
get_within f xs i y at = let h = slice_get_within (map f xs) i y at in omega (arith, h, length-map xs f)

pub one_more_candidate : (ts : List (SubType ℕ)) (t : SubType ℕ) (cs : List Candidate) (c : Candidate) → AreCandidates ts cs
    → HasHeight (slice_get (ts ++ t ∷ [])) c.height c.index → c.index ≡ length ts → t.is_final ≡ false → c.height < 63 → AreCandidates (ts ++ t ∷ []) (cs ++ c ∷ [])
one_more_candidate ts t cs c old high place is_open low =
    all_append (IsCandidate (ts ++ t ∷ [])) cs (c ∷ []) (candidates_with_more ts (t ∷ []) cs old)
    (record { type = t; is = ap (slice_get (ts ++ t ∷ [])) place ∙ last_is ts t; is_open = is_open; height = high; low = omega (arith, low) }, tt)

-- ---- the added type

pub members_with_one : (features : Features) (end : ℕ) (ts : List (SubType ℕ)) (t : SubType ℕ) → AreMembers features end ts
    → IsMember features end (ts ++ t ∷ []) (length ts) t → AreMembers features end (ts ++ t ∷ [])
members_with_one features end ts t old here index type is = elim (get_cases ts (t ∷ []) index type is) [
  | inl at ↦ let m = old index type at in record { rules = rules_with_more ts (t ∷ []) index type m.rules; permitted = m.permitted }
  | inr at ↦ the_last at.0 at.1 at.2
]
  where
    the_last : (j : ℕ) → index ≡ length ts + j → slice_get (t ∷ []) j ≡ Some type → IsMember features end (ts ++ t ∷ []) index type
    the_last zero place at =
        let e : index ≡ length ts = omega arith in
        let one : t ≡ type = cc in
        rw (e, sym one) here
    the_last (suc j) place at = absurd cc

pub plain_height : (ts : List (SubType ℕ)) (is_final : Bool) (c : CompositeType ℕ)
    → HasHeight (slice_get (ts ++ record { is_final = is_final; supertypes = []; composite_type = c } ∷ [])) 0 (length ts)
plain_height ts is_final c =
    let t : SubType ℕ = record { is_final = is_final; supertypes = []; composite_type = c } in
    record { top = length ts; links = no_link; type = t; is = last_is ts t; none = refl }

pub plain_member : (features : Features) (o : Offers) (end : ℕ) (ts : List (SubType ℕ)) (is_final : Bool) (c : CompositeType ℕ)
    → ((sub_at : SubTypes ℕ) → ContinuesFunc sub_at c) → IsPermittedComposite features end c
    → IsMember features end (ts ++ record { is_final = is_final; supertypes = []; composite_type = c } ∷ []) (length ts) (record { is_final = is_final; supertypes = []; composite_type = c })
plain_member features o end ts is_final c continues permitted = record {
  rules = record {
    earlier = tt;
    extends = record { at_most_one = omega arith; each = tt };
    continues = continues (slice_get (ts ++ record { is_final = is_final; supertypes = []; composite_type = c } ∷ []));
    depth = (0, plain_height ts is_final c, omega arith);
  };
  permitted = permitted;
}

-- what is drawn without supertype is no continuation
continues_taken : (b : Bool) (x y : CompositeType ℕ × List ℕ) (sub_at : SubTypes ℕ) → ContinuesFunc sub_at x.0 → ContinuesFunc sub_at y.0
    → ContinuesFunc sub_at (cond b x y).0
continues_taken true x y sub_at p q = p
continues_taken false x y sub_at p q = q

pub composite_continues : (o : Offers) (bound : ℕ) (s : List ℕ) (sub_at : SubTypes ℕ) → ContinuesFunc sub_at (composite_at o bound s).0
unfolding composite_at function_at structure_at array_at
composite_continues o bound s sub_at =
    let form = int_at 0 2 s in
    continues_taken (form.0 == 0) (function_at o bound form.1) (cond (form.0 == 1) (structure_at o bound form.1) (array_at o bound form.1)) sub_at tt
    (continues_taken (form.0 == 1) (structure_at o bound form.1) (array_at o bound form.1) sub_at tt tt)

pub function_continues : (o : Offers) (bound : ℕ) (s : List ℕ) (sub_at : SubTypes ℕ) → ContinuesFunc sub_at (function_at o bound s).0
unfolding function_at
function_continues o bound s sub_at = tt

-- ---- a type under a candidate

module _ (ts : List (SubType ℕ)) (candidate : Candidate) (super : IsCandidate ts candidate) (is_final : Bool) (c : CompositeType ℕ) where
  abbrev below : SubType ℕ
  below = record { is_final = is_final; supertypes = candidate.index ∷ []; composite_type = c }

  abbrev types : List (SubType ℕ)
  types = ts ++ below ∷ []

  pub under_height : HasHeight (slice_get types) (candidate.height + 1) (length ts)
  under_height =
      let high = height_with_more ts (below ∷ []) candidate.height candidate.index super.height in
      let more : candidate.height + 1 ≡ suc candidate.height = omega arith in
      rw more (record {
        top = high.top;
        links = one_more (record { type = below; is = last_is ts below; among = contains_first candidate.index [] }) high.links;
        type = high.type;
        is = high.is;
        none = high.none;
      })

  pub under_member : (features : Features) (end : ℕ) → AreMembers features end ts → IsPermittedCopy features end c super.type.composite_type
      → IsMember features end types (length ts) below
  unfolding candidate_with_more
  under_member features end members copy =
      let there = candidate_with_more ts (below ∷ []) candidate super in
      let old = members candidate.index super.type super.is in
      let low = super.low in
      record {
        rules = record {
          earlier = (slice_get_within ts candidate.index super.type super.is, tt);
          extends = record {
            at_most_one = omega arith;
            each = (record { supertype = super.type; is = there.is; is_open = super.is_open; matches = copy.matches (slice_get types) }, tt);
          };
          continues = copy.continues (slice_get types) (rules_with_more ts (below ∷ []) candidate.index super.type old.rules).continues;
          depth = (candidate.height + 1, under_height, omega (arith, low));
        };
        permitted = copy.permitted;
      }

-- ---- several types

pub adds_none : (o : Offers) (end : ℕ) (t : Types) → AreCandidates (made t) t.candidates.items → AddsAll o end 0 t t
adds_none o end t h = record { types = []; many = refl; added = sym (append-nil (made t)); sizes = refl; candidates = h; members = λ features suits old. old }

pub adds_one_more : (o : Offers) (end n : ℕ) (a b c : Types) → AddsAll o end n a b → Adds o end b c → AddsAll o end (n + 1) a c
adds_one_more o end n a b c all one = record {
  types = all.types ++ one.type ∷ [];
  many = omega (arith, length-append all.types (one.type ∷ []), all.many);
  added = one.added ∙ ap (λ ts. ts ++ one.type ∷ []) all.added ∙ append_assoc (made a) all.types (one.type ∷ []);
  sizes = one.sizes ∙ all.sizes;
  candidates = one.candidates;
  members = λ features suits old. one.members features suits (all.members features suits old);
}

pub some_left : (o : Offers) (end count : ℕ) (t : Types) (s : List ℕ)
    → IfSome (members_at o end (has_candidates t) count s) (λ drawn. IsLeft o end (count - 0) drawn t t s)
some_left o end count t s = go (members_at o end (has_candidates t) count s) refl
  where
    go : (d : Option (List (SubType ℕ) × List ℕ)) → members_at o end (has_candidates t) count s ≡ d → IfSome d (λ drawn. IsLeft o end (count - 0) drawn t t s)
    go None e = tt
    go (Some drawn) e = let z : count - 0 ≡ count = omega arith in rw z (record { rest = drawn.0; draws = e; parts = refl; asks = refl })

-- the first, and what follows it
record Parts (o : Offers) (end : ℕ) (asked : Bool) (n : ℕ) (s : List ℕ) (rest : List (SubType ℕ)) (t : List ℕ) : Type 0 where
  first : SubType ℕ × List ℕ
  is : type_at o end asked s ≡ Some first
  others : List (SubType ℕ)
  are : members_at o end (asks_then asked first.0) n first.1 ≡ Some (others, t)
  all : rest ≡ first.0 ∷ others

parts_of : (o : Offers) (end : ℕ) (asked : Bool) (n : ℕ) (s : List ℕ) (rest : List (SubType ℕ)) (t : List ℕ)
    → members_at o end asked (suc n) s ≡ Some (rest, t) → Parts o end asked n s rest t
unfolding members_at
parts_of o end asked n s rest t e = go (type_at o end asked s) refl e
  where
    follows : (first : SubType ℕ × List ℕ) → type_at o end asked s ≡ Some first → (d : Option (List (SubType ℕ) × List ℕ))
        → members_at o end (asks_then asked first.0) n first.1 ≡ d
        → with_first (Some first) (λ _. d) ≡ Some (rest, t) → Parts o end asked n s rest t
    follows first is None are e = absurd cc
    follows first is (Some others) are e =
        let one : (first.0 ∷ others.0, others.1) ≡ (rest, t) = cc in
        let all : first.0 ∷ others.0 ≡ rest = ap (λ (p : List (SubType ℕ) × List ℕ). p.0) one in
        let end_ : others.1 ≡ t = ap (λ (p : List (SubType ℕ) × List ℕ). p.1) one in
        record { first = first; is = is; others = others.0; are = are ∙ ap (λ u. Some (others.0, u)) end_; all = sym all }

    go : (x : Option (SubType ℕ × List ℕ)) → type_at o end asked s ≡ x
        → with_first x (λ first. members_at o end (asks_then asked first.0) n first.1) ≡ Some (rest, t) → Parts o end asked n s rest t
    go None is e = absurd cc
    go (Some first) is e = follows first is (members_at o end (asks_then asked first.0) n first.1) refl e

one_less : (o : Offers) (end left : ℕ) (drawn : List (SubType ℕ) × List ℕ) (a b c : Types) (s u : List ℕ) → IsLeft o end (suc left) drawn a b s
    → IfSome (type_at o end (has_candidates b) s) (λ d. AddsDrawn d b c u) → IsLeft o end left drawn a c u
one_less o end left drawn a b c s u it one =
    let p = parts_of o end (has_candidates b) left s it.rest drawn.1 it.draws in
    let here : AddsDrawn p.first b c u = subst (λ (x : Option (SubType ℕ × List ℕ)). IfSome x (λ d. AddsDrawn d b c u)) p.is one in
    record {
      rest = p.others;
      draws = rw (here.asks, here.at) p.are;
      parts = it.parts ∙ ap (λ r. made b ++ r) p.all ∙ sym (append_assoc (made b) (p.first.0 ∷ []) p.others) ∙ ap (λ ts. ts ++ p.others) (sym here.added);
      asks = ap (λ x. asked_after x p.others) here.asks ∙ ap (asked_after (has_candidates b)) (sym p.all) ∙ it.asks;
    }

pub less_left : (o : Offers) (end count i : ℕ) (total : Option (List (SubType ℕ) × List ℕ)) (a b c : Types) (s u : List ℕ) → i < count
    → IfSome total (λ drawn. IsLeft o end (count - i) drawn a b s) → IfSome (type_at o end (has_candidates b) s) (λ d. AddsDrawn d b c u)
    → IfSome total (λ drawn. IsLeft o end (count - (i + 1)) drawn a c u)
less_left o end count i None a b c s u lt h one = tt
less_left o end count i (Some drawn) a b c s u lt h one =
    let k : count - i ≡ suc (count - (i + 1)) = omega arith in
    one_less o end (count - (i + 1)) drawn a b c s u (subst (λ n. IsLeft o end n drawn a b s) k h) one

pub none_left : (o : Offers) (end count i : ℕ) (total : Option (List (SubType ℕ) × List ℕ)) (a b : Types) (s : List ℕ) → count ≤ i
    → IfSome total (λ drawn. IsLeft o end (count - i) drawn a b s) → IfSome total (λ drawn. AddsAllDrawn drawn a b s)
unfolding members_at
none_left o end count i None a b s le h = tt
none_left o end count i (Some drawn) a b s le h =
    let z : count - i ≡ 0 = omega arith in
    let it : IsLeft o end 0 drawn a b s = subst (λ n. IsLeft o end n drawn a b s) z h in
    let one : ([], s) ≡ (it.rest, drawn.1) = cc in
    let nothing : [] ≡ it.rest = ap (λ (p : List (SubType ℕ) × List ℕ). p.0) one in
    let at : s ≡ drawn.1 = ap (λ (p : List (SubType ℕ) × List ℕ). p.1) one in
    record {
      added = sym (append-nil (made b)) ∙ ap (λ r. made b ++ r) nothing ∙ sym it.parts;
      at = at;
      asks = ap (asked_after (has_candidates b)) nothing ∙ it.asks;
    }

-- something is asked of a list that is not empty
pub some_asked : (empty : Bool) (n m : ℕ) (s t : List ℕ) → empty ≡ (n == 0) → n ≡ m → bool_if (not empty) s ≡ (true, t) → 0 < m
some_asked empty n m s t test same asked =
    let off : empty ≡ false = not-true empty (was_asked (not empty) s t asked) in
    let none : n ≡ 0 → ⊥ = eqb-false n 0 (sym test ∙ off) in
    elim (cases_lt 0 m) [ inl some ↦ some | inr ge ↦ absurd (none (omega (arith, ge, same))) ]
