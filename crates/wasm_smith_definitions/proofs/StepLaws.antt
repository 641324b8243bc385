-- Items that are made one after the other.
use Rattle.std.proofs.Common.{◌≡◌, ℕ, ◌+◌, ◌-◌, ◌<◌, ◌≤◌, Bool, true, false, List, [], ◌∷◌, ◌++◌, map, refl, ap, sym, ◌∙◌, inl, inr, ◌⊎◌, subst, arith, max, nat_lt}
use Rattle.std.specs.List.{AllByRecursion}
use Rattle.std.proofs.lemmas.Bool.{cases_lt, lt-ltb}
use Rattle.std.proofs.lemmas.List.{map_push}
use Rattle.wasm_spec.specs.Features.{Features}
use Rattle.wasm_validity.specs.Entries.{Entry}
use Rattle.wasm_smith_config.specs.declared.config.Config.{Config}
use Rattle.wasm_smith_validity.specs.Spaces.{Spaces, spaces_after, spaces_after_all}
use Rattle.wasm_smith_validity.specs.Rules.{KeepAll}
use Rattle.wasm_smith_types.specs.Growing.{grows_from, grows_at}
use Rattle.wasm_smith_definitions.specs.Steps.{Allows, IsStep, Wanted, asked, IsGrown}

pub keep_append : (features : Features) (k : Spaces) (xs ys : List Entry) → KeepAll features k xs → KeepAll features (spaces_after_all k xs) ys → KeepAll features k (xs ++ ys)
keep_append features k [] ys h g = g
keep_append features k (x ∷ xs) ys h g = (h.0, keep_append features (spaces_after k x) xs ys h.1 g)

pub known_append : (k : Spaces) (xs ys : List Entry) → spaces_after_all k (xs ++ ys) ≡ spaces_after_all (spaces_after_all k xs) ys
known_append k [] ys = refl
known_append k (x ∷ xs) ys = known_append (spaces_after k x) xs ys

pub no_step : {A : Type 0} (c : Config) (entry : A → Entry) (k : Spaces) → IsStep c entry k k []
no_step c entry k = record { keep = λ features f. tt; known = refl }

pub one_more : {A : Type 0} (c : Config) (entry : A → Entry) (old k : Spaces) (xs : List A) (x : A) → IsStep c entry old k xs → Allows c k (entry x) → IsStep c entry old (spaces_after k (entry x)) (xs ++ x ∷ [])
one_more c entry old k xs x h allowed = record {
  keep = λ features f. subst (KeepAll features old) (sym (map_push entry xs x))
      (keep_append features old (map entry xs) (entry x ∷ []) (h.keep features f) (subst (λ known. KeepAll features known (entry x ∷ [])) h.known (allowed features f, tt)));
  known = ap (λ known. spaces_after known (entry x)) h.known ∙ sym (ap (spaces_after_all old) (map_push entry xs x) ∙ known_append old (map entry xs) (entry x ∷ []));
}

all_more : {A : Type 0} (P : A → Type 0) (xs : List A) (x : A) → AllByRecursion P xs → P x → AllByRecursion P (xs ++ x ∷ [])
all_more P [] x h p = (p, tt)
all_more P (y ∷ ys) x h p = (h.0, all_more P ys x h.1 p)

-- ---- growing

-- what holds in a loop that grows items: either nothing was asked yet, or the first answer was yes
pub record IsGrowing {A : Type 0} (c : Config) (wanted : Wanted) (entry : A → Entry) (Bound : A → Type 0) (old : Spaces) (s : List ℕ) (now : Spaces) (left : List ℕ) (items : List A) : Type 0 where
  pub step : IsStep c entry old now items
  pub few : wanted.count now ≤ max wanted.most (wanted.count old)
  pub bounded : AllByRecursion Bound items
  pub begun : ((items ≡ []) × (now ≡ old) × (left ≡ s)) ⊎ ((asked wanted old s).0 ≡ true)

pub grow_begins : {A : Type 0} (c : Config) (wanted : Wanted) (entry : A → Entry) (Bound : A → Type 0) (k : Spaces) (s : List ℕ) → IsGrowing c wanted entry Bound k s k s []
grow_begins c wanted entry Bound k s = record { step = no_step c entry k; few = omega arith; bounded = tt; begun = inl (refl, refl, refl) }

first_yes : {A : Type 0} (c : Config) (wanted : Wanted) (entry : A → Entry) (Bound : A → Type 0) (old : Spaces) (s : List ℕ) (k : Spaces) (left t : List ℕ) (xs : List A) → IsGrowing c wanted entry Bound old s k left xs → asked wanted k left ≡ (true, t) → (asked wanted old s).0 ≡ true
first_yes c wanted entry Bound old s k left t xs h more = elim h.begun [
  | inl none ↦ let same : asked wanted old s ≡ (true, t) = rw (sym none.1, sym none.2) more in ap (λ p. p.0) same
  | inr begun ↦ begun
]

pub grow_goes_on : {A : Type 0} (c : Config) (wanted : Wanted) (entry : A → Entry) (Bound : A → Type 0) (old : Spaces) (s : List ℕ) (k : Spaces) (left t : List ℕ) (xs : List A) (x : A) (new : Spaces) (after : List ℕ) (items : List A)
    → IsGrowing c wanted entry Bound old s k left xs → asked wanted k left ≡ (true, t) → wanted.count k < wanted.most
    → Allows c k (entry x) → Bound x → new ≡ spaces_after k (entry x) → wanted.count (spaces_after k (entry x)) ≡ wanted.count k + 1 → items ≡ xs ++ x ∷ []
    → IsGrowing c wanted entry Bound old s new after items
grow_goes_on c wanted entry Bound old s k left t xs x new after items h more room allowed within e one pushed =
    rw (e, pushed) (record {
      step = one_more c entry old k xs x h.step allowed;
      few = omega (arith, one, room);
      bounded = all_more Bound xs x h.bounded within;
      begun = inr (first_yes c wanted entry Bound old s k left t xs h more);
    })

true_is_not_false : true ≡ false → ⊥
true_is_not_false e = cc

no_more : (least most count : ℕ) (s t : List ℕ) → least ≤ most → grows_at least most count s ≡ (false, t) → least ≤ count
unfolding grows_at grows_from
no_more least most count s t le last = elim (cases_lt count least) [
  | inl lt ↦
      let room : nat_lt 0 (most - count) ≡ true = lt-ltb 0 (most - count) (omega (arith, lt, le)) in
      let owed : nat_lt 0 (least - count) ≡ true = lt-ltb 0 (least - count) (omega (arith, lt)) in
      let both : (true, s) ≡ (false, t) = rw (room, owed) at last in
      let fst : Bool × List ℕ → Bool = λ p. p.0 in let e : true ≡ false = ap fst both in absurd (true_is_not_false e)
  | inr ge ↦ ge
]

pub grow_stops : {A : Type 0} (c : Config) (wanted : Wanted) (entry : A → Entry) (Bound : A → Type 0) (old : Spaces) (s : List ℕ) (k : Spaces) (left t : List ℕ) (xs : List A)
    → wanted.least ≤ wanted.count k → IsGrowing c wanted entry Bound old s k left xs → asked wanted k left ≡ (false, t) → IsGrown c wanted entry Bound old s k t xs
grow_stops c wanted entry Bound old s k left t xs enough h last = record {
  step = h.step;
  enough = enough;
  few = h.few;
  bounded = h.bounded;
  nothing = λ none. elim h.begun [
    | inl begun ↦ let same : asked wanted old s ≡ (false, t) = rw (sym begun.1, sym begun.2) last in (begun.0, sym (ap (λ p. p.1) same))
    | inr begun ↦ absurd (true_is_not_false (sym begun ∙ none))
  ];
}

-- where one can always be made
pub grow_ends : {A : Type 0} (c : Config) (wanted : Wanted) (entry : A → Entry) (Bound : A → Type 0) (old : Spaces) (s : List ℕ) (k : Spaces) (left t : List ℕ) (xs : List A)
    → wanted.least ≤ wanted.most → wanted.can k ≡ true → IsGrowing c wanted entry Bound old s k left xs → grows_at wanted.least wanted.most (wanted.count k) left ≡ (false, t) → IsGrown c wanted entry Bound old s k t xs
grow_ends c wanted entry Bound old s k left t xs le can h last =
    grow_stops c wanted entry Bound old s k left t xs (no_more wanted.least wanted.most (wanted.count k) left t le last) h (rw can last)
