-- Lists of groups, as far as a loop has come.
use Rattle.std.proofs.Common.{◌≡◌, ℕ, zero, suc, ◌+◌, ◌≤◌, ◌<◌, List, [], ◌∷◌, drop, length, map, get_or, refl, sym, ap, ◌∙◌, arith, length-append}
use Rattle.std.proofs.lemmas.List.{drop_more}
use Rattle.std.specs.List.{flat_map}

pub next_left : {X : Type 0} (xs : List X) (i : ℕ) (x : X) → i < length xs → x ≡ get_or xs i x → drop i xs ≡ x ∷ drop (i + 1) xs
next_left xs i x lt is = drop_more xs i x lt ∙ ap (λ y. y ∷ drop (i + 1) xs) (sym is)

done : {X : Type 0} (xs : List X) (i : ℕ) → length xs ≤ i → drop i xs ≡ []
done [] zero h = refl
done [] (suc i) h = refl
done (x ∷ xs) zero h = absurd (omega (arith, h))
done (x ∷ xs) (suc i) h = done xs i (omega (arith, h))

module _ {X Y Z : Type 0} (view : X → Y) (parts : Y → List Z) (xs : List X) where
  -- the number of parts that are left
  abbrev pub left : ℕ → ℕ
  left i = length (flat_map parts (map view (drop i xs)))

  pub next_left_count : (i : ℕ) (x : X) → i < length xs → x ≡ get_or xs i x → left i ≡ length (parts (view x)) + left (i + 1)
  next_left_count i x lt is =
      ap (λ ys. length (flat_map parts (map view ys))) (next_left xs i x lt is) ∙ length-append (parts (view x)) (flat_map parts (map view (drop (i + 1) xs)))

  pub none_left : (i : ℕ) → length xs ≤ i → left i ≡ 0
  none_left i past = ap (λ ys. length (flat_map parts (map view ys))) (done xs i past)
