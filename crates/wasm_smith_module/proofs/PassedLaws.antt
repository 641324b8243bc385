-- Numbers that are tested one after the other, and those that stand for others.
use Rattle.std.specs.Prelude.{⊤, IfNone, IfSome, MatchOption, Option, Some, None}
use Rattle.std.proofs.Common.{◌≡◌, ◌<◌, ◌≤◌, ◌+◌, ◌^◌, ℕ, true, not, ◌&&◌, List, [], ◌∷◌, ◌++◌, length, map, drop, get_or, nat_lt, refl, ap, sym, ◌∙◌, subst, arith, inl, inr}
use Rattle.std.specs.List.{flat_map}
use Rattle.std.proofs.lemmas.List.{drop_more, drop_all}
use Rattle.std.proofs.lemmas.Bool.{and_parts, lt-ltb, le-ltb}
use Rattle.std.proofs.lemmas.Bool.Decides.{leb_tells}
use Rattle.wasm_spec.specs.Limits.{Limit, Types, most}
use Rattle.wasm_validity.specs.Rules.{Passes, are_within, is_past}
use Rattle.wasm_smith_module.specs.Measured.{saturated}
use Rattle.wasm_smith_module.proofs.EntryNumbers.{passes_left, passes_right, within_append, within_one}

-- ---- one after the other

-- none of the first numbers passes its limit
pub record IsSoFar {A : Type 0} (f : A → Limit × ℕ) (xs : List A) (i : ℕ) : Type 0 where
  pub passed : (limit : Limit) → Passes limit (map f (drop i xs)) → Passes limit (map f xs)
  pub within : are_within (map f (drop i xs)) ≡ true → are_within (map f xs) ≡ true

pub at_start : {A : Type 0} (f : A → Limit × ℕ) (xs : List A) → IsSoFar f xs 0
at_start f xs = record { passed = λ limit p. p; within = λ h. h }

here : {A : Type 0} (xs : List A) (i : ℕ) (x d : A) → i < length xs → x ≡ get_or xs i d → drop i xs ≡ x ∷ drop (i + 1) xs
here xs i x d within is = drop_more xs i d within ∙ ap (λ y. y ∷ drop (i + 1) xs) (sym is)

pub next_number : {A : Type 0} (f : A → Limit × ℕ) (xs : List A) (i : ℕ) (x d : A) → i < length xs → x ≡ get_or xs i d → (f x).1 ≤ most (f x).0 → IsSoFar f xs i
    → IsSoFar f xs (i + 1)
next_number f xs i x d below is few so_far =
    let split : map f (drop i xs) ≡ f x ∷ map f (drop (i + 1) xs) = ap (map f) (here xs i x d below is) in
    record {
      passed = λ limit p. so_far.passed limit (subst (Passes limit) (sym split) (inr p));
      within = λ h. so_far.within (ap are_within split ∙ within_one (f x).0 (f x).1 (map f (drop (i + 1) xs)) few h);
    }

pub this_number : {A : Type 0} (f : A → Limit × ℕ) (xs : List A) (i : ℕ) (x d : A) → i < length xs → x ≡ get_or xs i d → most (f x).0 < (f x).1 → IsSoFar f xs i
    → Passes (f x).0 (map f xs)
this_number f xs i x d below is many so_far =
    let split : map f (drop i xs) ≡ f x ∷ map f (drop (i + 1) xs) = ap (map f) (here xs i x d below is) in
    so_far.passed (f x).0 (subst (Passes (f x).0) (sym split) (inl (refl, lt-ltb (most (f x).0) (f x).1 many)))

pub no_number : {A : Type 0} (f : A → Limit × ℕ) (xs : List A) (i : ℕ) → length xs ≤ i → IsSoFar f xs i → are_within (map f xs) ≡ true
no_number f xs i past so_far = so_far.within (ap (λ l. are_within (map f l)) (drop_all i xs past))

pub map_twice : {A B C : Type 0} (g : B → C) (h : A → B) (xs : List A) → map g (map h xs) ≡ map (λ x. g (h x)) xs
map_twice g h [] = refl
map_twice g h (x ∷ xs) = ap (λ l. g (h x) ∷ l) (map_twice g h xs)

-- ---- several numbers of each

-- no number of the first ones passes its limit
pub record AreSoFar {A : Type 0} (f : A → List (Limit × ℕ)) (xs : List A) (i : ℕ) : Type 0 where
  pub passed : (limit : Limit) → Passes limit (flat_map f (drop i xs)) → Passes limit (flat_map f xs)
  pub within : are_within (flat_map f (drop i xs)) ≡ true → are_within (flat_map f xs) ≡ true

pub next_numbers : {A : Type 0} (f : A → List (Limit × ℕ)) (xs : List A) (i : ℕ) (x d : A) → i < length xs → x ≡ get_or xs i d → are_within (f x) ≡ true → AreSoFar f xs i
    → AreSoFar f xs (i + 1)
next_numbers f xs i x d below is few so_far =
    let others = flat_map f (drop (i + 1) xs) in
    let split : flat_map f (drop i xs) ≡ f x ++ others = ap (flat_map f) (here xs i x d below is) in
    record {
      passed = λ limit p. so_far.passed limit (subst (Passes limit) (sym split) (passes_right limit (f x) others p));
      within = λ h. so_far.within (ap are_within split ∙ within_append (f x) others few h);
    }

pub these_numbers : {A : Type 0} (f : A → List (Limit × ℕ)) (xs : List A) (i : ℕ) (x d : A) (limit : Limit) → i < length xs → x ≡ get_or xs i d → Passes limit (f x)
    → AreSoFar f xs i → Passes limit (flat_map f xs)
these_numbers f xs i x d limit below is many so_far =
    let others = flat_map f (drop (i + 1) xs) in
    let split : flat_map f (drop i xs) ≡ f x ++ others = ap (flat_map f) (here xs i x d below is) in
    so_far.passed limit (subst (Passes limit) (sym split) (passes_left limit (f x) others many))

pub no_numbers : {A : Type 0} (f : A → List (Limit × ℕ)) (xs : List A) (i : ℕ) → length xs ≤ i → AreSoFar f xs i → are_within (flat_map f xs) ≡ true
no_numbers f xs i past so_far = so_far.within (ap (λ l. are_within (flat_map f l)) (drop_all i xs past))

-- ---- numbers that stand for others

-- of the same limit, which they both pass or don't
abbrev pub IsAlike : Limit × ℕ → Limit × ℕ → Type 0
IsAlike m n = (m.0 ≡ n.0) × (is_past m.0 m.1 ≡ is_past n.0 n.1)

abbrev pub AreAlike : List (Limit × ℕ) → List (Limit × ℕ) → Type 0
AreAlike [] [] = ⊤
AreAlike (m ∷ ms) (n ∷ ns) = IsAlike m n × AreAlike ms ns
AreAlike _ _ = ⊥

pub passes_alike : (limit : Limit) (ms ns : List (Limit × ℕ)) → AreAlike ms ns → Passes limit ms → Passes limit ns
passes_alike limit [] [] h p = absurd p
passes_alike limit (m ∷ ms) [] h p = absurd h
passes_alike limit [] (n ∷ ns) h p = absurd h
passes_alike limit (m ∷ ms) (n ∷ ns) h (inl at) = inl (sym h.0.0 ∙ at.0, sym h.0.1 ∙ at.1)
passes_alike limit (m ∷ ms) (n ∷ ns) h (inr later) = inr (passes_alike limit ms ns h.1 later)

pub within_alike : (ms ns : List (Limit × ℕ)) → AreAlike ms ns → are_within ms ≡ true → are_within ns ≡ true
within_alike [] [] h e = refl
within_alike (m ∷ ms) [] h e = absurd h
within_alike [] (n ∷ ns) h e = absurd h
within_alike (m ∷ ms) (n ∷ ns) h e =
    let parts = and_parts (not (is_past m.0 m.1)) (are_within ms) e in
    ap (λ b. not b && are_within ns) (sym h.0.1) ∙ (ap (λ b. b && are_within ns) parts.0 ∙ within_alike ms ns h.1 parts.1)

-- no limit is as great as the greatest number
pub saturated_alike : (limit : Limit) (n k : ℕ) → k ≡ saturated n → IsAlike (limit, k) (limit, n)
saturated_alike limit n k is = (refl, past)
  where
    small : (limit : Limit) → most limit ≤ 2 ^ 63
    small limit = small_at limit
      where
        small_at : (limit : Limit) → most limit ≤ 2 ^ 63
        small_at Types = omega arith
        small_at _ = omega arith

    past : nat_lt (most limit) k ≡ nat_lt (most limit) n
    past =
        let few = small limit in
        elim (leb_tells n (most limit)) [
          | inl fits ↦ let h = fits.1 in le-ltb (most limit) k (omega (arith, h, is)) ∙ sym (le-ltb (most limit) n h)
          | inr many ↦ let h = many.1 in lt-ltb (most limit) k (omega (arith, h, is, few)) ∙ sym (lt-ltb (most limit) n h)
        ]

pub same_alike : (limit : Limit) (n k : ℕ) → k ≡ n → IsAlike (limit, k) (limit, n)
same_alike limit n k is = (refl, ap (λ n. nat_lt (most limit) n) is)

-- what follows where nothing is found
pub none_then : {A : Type 0} (o : Option A) {P Q : Type 0} → IfNone o P → (P → Q) → IfNone o Q
none_then None h f = f h
none_then (Some x) h f = tt

-- what follows of what is found, and where nothing is
pub found_then : {A : Type 0} (o : Option A) {P Q : A → Type 0} {R S : Type 0} → IfSome o P → IfNone o R → ((x : A) → P x → Q x) → (R → S) → MatchOption o S Q
found_then None h k f g = g k
found_then (Some x) h k f g = f x h
