-- The locals that were assigned, by the places that are kept for them.
use Rattle.std.proofs.Common.{◌≡◌, ◌≢◌, ℕ, zero, suc, ◌<◌, ◌≤◌, ◌⊎◌, ⊎_elim, inl, inr, Bool, true, false, List, [], ◌∷◌, ◌++◌, length, get_or, take, refl, sym, ap, ◌∙◌, subst, arith}
use Rattle.std.proofs.Math.ListN.{set}
use Rattle.std.proofs.Math.Seq.{get_or-append_seam}
use Rattle.std.proofs.lemmas.Bool.{eq-eqb}
use Rattle.std.proofs.lemmas.Bool.Decides.{nat_tests}
use Rattle.std.proofs.lemmas.List.{get_or-set_same, get_or-set_other, get_or-take, get_or_append_left, length-append, length-take}
use Rattle.std.proofs.lemmas.List.Folds.{list_any_at}
use Rattle.std.specs.List.{list_any}
use Rattle.std.specs.Prelude.{◌||◌, nat_eq}
use Rattle.wasm_bodies.specs.BodyContext.{is_among}
use Rattle.wasmparser_bodies.specs.StackViews.{ArePlaced}

-- the first ones are where they were
pub placed_before : (xs places : List ℕ) (n : ℕ) → ArePlaced xs places → ArePlaced (take n xs) places
placed_before xs places n h = λ j lt.
    let below : j < n = omega (arith, length-take n xs) in
    let within : j < length xs = omega (arith, length-take n xs) in
    ap (λ k. get_or places k 0) (get_or-take n xs j 0 below) ∙ h j within

by_head : (p : ℕ → Bool) (x : ℕ) (xs : List ℕ) (b : Bool) → p x ≡ b → (b || list_any p xs) ≡ true → (list_any p xs ≡ true → (j : ℕ) × (j < length xs) × (p (get_or xs j 0) ≡ true)) → (j : ℕ) × (j < length (x ∷ xs)) × (p (get_or (x ∷ xs) j 0) ≡ true)
by_head p x xs true h e rec = (0, omega arith, h)
by_head p x xs false h e rec = let r = rec e in (suc r.0, omega (arith, r.1), r.2)

-- where a test holds of some element
where_true : (p : ℕ → Bool) (xs : List ℕ) → list_any p xs ≡ true → (j : ℕ) × (j < length xs) × (p (get_or xs j 0) ≡ true)
where_true p [] e = absurd (cc e)
where_true p (x ∷ xs) e = by_head p x xs (p x) refl e (where_true p xs)

same_number : (a b : ℕ) → nat_eq a b ≡ true → a ≡ b
same_number a b h = grind (arith, nat_tests)

-- an assigned local stands at its place
stands : (xs places : List ℕ) (x : ℕ) → ArePlaced xs places → is_among xs x ≡ true → (get_or places x 0 < length xs) × (get_or xs (get_or places x 0) 0 ≡ x)
stands xs places x h e =
    let r = where_true (λ y. nat_eq y x) xs e in
    let is = same_number (get_or xs r.0 0) x r.2 in
    let at : get_or places x 0 ≡ r.0 = subst (λ z. get_or places z 0 ≡ r.0) is (h r.0 r.1) in
    (subst (λ k. k < length xs) (sym at) r.1, ap (λ k. get_or xs k 0) at ∙ is)

by_answer : (xs : List ℕ) (x v p : ℕ) (b c : Bool) → (is_among xs x ≡ true → v ≡ x) → p < length xs → v ≡ get_or xs p 0 → nat_eq v x ≡ b → is_among xs x ≡ c → b ≡ c
by_answer xs x v p true true f lt e hb hc = refl
by_answer xs x v p false false f lt e hb hc = refl
by_answer xs x v p true false f lt e hb hc = cc (hc, list_any_at (λ y. nat_eq y x) xs p 0 lt (subst (λ z. nat_eq z x ≡ true) e hb))
by_answer xs x v p false true f lt e hb hc = cc (hb, eq-eqb v x (f hc))

pub found : (xs places : List ℕ) (x v p : ℕ) → ArePlaced xs places → p ≡ get_or places x 0 → p < length xs → v ≡ get_or xs p 0 → nat_eq v x ≡ is_among xs x
found xs places x v p h at lt e = by_answer xs x v p (nat_eq v x) (is_among xs x) (λ a. e ∙ ap (λ k. get_or xs k 0) at ∙ (stands xs places x h a).1) lt e refl refl

none_of : (xs places : List ℕ) (x : ℕ) (c : Bool) → ArePlaced xs places → length xs ≤ get_or places x 0 → is_among xs x ≡ c → false ≡ c
none_of xs places x true h le e = let s = stands xs places x h e in absurd (omega (arith, s.0))
none_of xs places x false h le e = refl

pub not_found : (xs places : List ℕ) (x p : ℕ) → ArePlaced xs places → p ≡ get_or places x 0 → length xs ≤ p → false ≡ is_among xs x
not_found xs places x p h at le = none_of xs places x (is_among xs x) h (subst (λ k. length xs ≤ k) at le) refl

put_at : (xs places : List ℕ) (x j : ℕ) → ArePlaced xs places → is_among xs x ≡ false → x < length places → (j < length xs) ⊎ (j ≡ length xs) → get_or (set places x (length xs)) (get_or (xs ++ x ∷ []) j 0) 0 ≡ j
put_at xs places x j h n lt (inl below) =
    let e = get_or_append_left xs (x ∷ []) 0 j below in
    let other : get_or xs j 0 ≢ x = λ is. cc (n, list_any_at (λ y. nat_eq y x) xs j 0 below (eq-eqb (get_or xs j 0) x is)) in
    ap (λ k. get_or (set places x (length xs)) k 0) e ∙ get_or-set_other places x (get_or xs j 0) (length xs) 0 other ∙ h j below
put_at xs places x j h n lt (inr last) =
    let e : get_or (xs ++ x ∷ []) j 0 ≡ x = subst (λ k. get_or (xs ++ x ∷ []) k 0 ≡ x) (sym last) (get_or-append_seam xs x [] 0) in
    ap (λ k. get_or (set places x (length xs)) k 0) e ∙ get_or-set_same places x (length xs) 0 lt ∙ sym last

below_or_at : (j n : ℕ) → j < suc n → (j < n) ⊎ (j ≡ n)
below_or_at zero zero h = inr refl
below_or_at zero (suc n) h = inl (omega arith)
below_or_at (suc j) zero h = absurd (omega (arith, h))
below_or_at (suc j) (suc n) h = ⊎_elim (λ b. inl (omega (arith, b))) (λ e. inr (ap suc e)) (below_or_at j n (omega (arith, h)))

in_or_last : (xs : List ℕ) (x j : ℕ) → j < length (xs ++ x ∷ []) → (j < length xs) ⊎ (j ≡ length xs)
in_or_last xs x j h = below_or_at j (length xs) (omega (arith, h, length-append xs (x ∷ [])))

pub placed : (xs places before : List ℕ) (x : ℕ) → ArePlaced xs before → ((k : ℕ) → get_or places k 0 ≡ get_or before k 0) → is_among xs x ≡ false → x < length places → ArePlaced (xs ++ x ∷ []) (set places x (length xs))
placed xs places before x h same n lt =
    λ j below. put_at xs places x j (λ k b. same (get_or xs k 0) ∙ h k b) n lt (in_or_last xs x j below)
