-- Lists of lists, as far as a loop has come.
use Rattle.std.proofs.Common.{◌≡◌, ℕ, zero, suc, ◌+◌, ◌-◌, ◌≤◌, ◌<◌, List, [], ◌∷◌, ◌++◌, drop, length, map, get_or, append_assoc, refl, sym, ap, ◌∙◌, arith, length-append}
use Rattle.std.proofs.lemmas.List.{append-nil, drop_more}
use Rattle.std.specs.List.{flat_map}

pub next_left : {X : Type 0} (xs : List X) (i : ℕ) (x : X) → i < length xs → x ≡ get_or xs i x → drop i xs ≡ x ∷ drop (i + 1) xs
next_left xs i x lt is = drop_more xs i x lt ∙ ap (λ y. y ∷ drop (i + 1) xs) (sym is)

pub done : {X : Type 0} (xs : List X) (i : ℕ) → length xs ≤ i → drop i xs ≡ []
done [] zero h = refl
done [] (suc i) h = refl
done (x ∷ xs) zero h = absurd (omega (arith, h))
done (x ∷ xs) (suc i) h = done xs i (omega (arith, h))

module _ {X Y Z : Type 0} (view : X → Y) (parts : Y → List Z) (xs : List X) where
  -- what is left of all parts
  abbrev pub rest : ℕ → List Z
  rest i = flat_map parts (map view (drop i xs))

  pub next_rest : (i : ℕ) (x : X) → i < length xs → x ≡ get_or xs i x → rest i ≡ parts (view x) ++ rest (i + 1)
  next_rest i x lt is = ap (λ ys. flat_map parts (map view ys)) (next_left xs i x lt is)

  pub no_rest : (i : ℕ) → length xs ≤ i → rest i ≡ []
  no_rest i past = ap (λ ys. flat_map parts (map view ys)) (done xs i past)

  -- one more part is added to what is kept
  pub adds : (i : ℕ) (x : X) (kept more whole : List Z) → i < length xs → x ≡ get_or xs i x → more ≡ kept ++ parts (view x)
      → kept ++ rest i ≡ whole → more ++ rest (i + 1) ≡ whole
  adds i x kept more whole lt is added h =
      ap (λ ys. ys ++ rest (i + 1)) added ∙ append_assoc kept (parts (view x)) (rest (i + 1)) ∙ ap (λ ys. kept ++ ys) (sym (next_rest i x lt is)) ∙ h

  pub added_all : (i : ℕ) (kept whole : List Z) → length xs ≤ i → kept ++ rest i ≡ whole → kept ≡ whole
  added_all i kept whole past h = sym (append-nil kept) ∙ ap (λ ys. kept ++ ys) (sym (no_rest i past)) ∙ h

  -- so many are left of those that there may be, after so many parts
  pub record AreLeft (most left i : ℕ) : Type 0 where
    pub counted : length (rest i) + most ≡ left + length (rest 0)

  pub leaves : (most left i n : ℕ) (x : X) → i < length xs → x ≡ get_or xs i x → n ≡ length (parts (view x)) → n ≤ left → AreLeft most left i → AreLeft most (left - n) (i + 1)
  leaves most left i n x lt is count few h =
      let sum : length (rest i) ≡ length (parts (view x)) + length (rest (i + 1)) = ap length (next_rest i x lt is) ∙ length-append (parts (view x)) (rest (i + 1)) in
      record { counted = omega (arith, sum, count, few, h.counted) }

  pub too_many : (most left i n : ℕ) (x : X) → i < length xs → x ≡ get_or xs i x → n ≡ length (parts (view x)) → left < n → AreLeft most left i → most < length (rest 0)
  too_many most left i n x lt is count many h =
      let sum : length (rest i) ≡ length (parts (view x)) + length (rest (i + 1)) = ap length (next_rest i x lt is) ∙ length-append (parts (view x)) (rest (i + 1)) in
      omega (arith, sum, count, many, h.counted)

  pub not_too_many : (most left i : ℕ) → length xs ≤ i → AreLeft most left i → length (rest 0) ≤ most
  not_too_many most left i past h = let none = ap length (no_rest i past) in omega (arith, none, h.counted)
