-- Loops over the places of a list that append an item for each.
use Rattle.std.proofs.Common.{◌≡◌, ℕ, zero, suc, ◌+◌, ◌≤◌, List, [], ◌∷◌, ◌++◌, map, drop, length, slice_get, Option, Some, option_map, refl, sym, ap, ◌∙◌, arith, append_assoc}
use Rattle.std.proofs.lemmas.List.{append-nil, drop_all, map-append}
use Rattle.std.proofs.lemmas.Option.{slice_get-map}

drop_one : {A : Type 0} (xs : List A) (i : ℕ) (x : A) → slice_get xs i ≡ Some x → drop i xs ≡ x ∷ drop (i + 1) xs
drop_one [] i x at = absurd cc
drop_one (y ∷ ys) zero x at = let one : y ≡ x = cc in ap (λ z. z ∷ ys) one
drop_one (y ∷ ys) (suc i) x at = let next : suc i + 1 ≡ suc (i + 1) = omega arith in drop_one ys i x at ∙ ap (λ n. x ∷ drop n (y ∷ ys)) (sym next)

pub mapped_at : {A B : Type 0} (f : A → B) (xs : List A) (i : ℕ) (x : A) → slice_get xs i ≡ Some x → slice_get (map f xs) i ≡ Some (f x)
mapped_at f xs i x at = slice_get-map f xs i ∙ ap (option_map f) at

-- an item more is kept
pub one_kept : {A B : Type 0} (view : A → B) (kept : List A) (all : List B) (i : ℕ) (item : A) → slice_get all i ≡ Some (view item) → map view kept ++ drop i all ≡ all
    → map view (kept ++ item ∷ []) ++ drop (i + 1) all ≡ all
one_kept view kept all i item at e =
    ap (λ xs. xs ++ drop (i + 1) all) (map-append view kept (item ∷ [])) ∙ append_assoc (map view kept) (view item ∷ []) (drop (i + 1) all)
    ∙ ap (λ xs. map view kept ++ xs) (sym (drop_one all i (view item) at)) ∙ e

-- all items are kept
pub all_kept : {A B : Type 0} (view : A → B) (kept : List A) (all : List B) (i : ℕ) → length all ≤ i → map view kept ++ drop i all ≡ all → map view kept ≡ all
all_kept view kept all i past e = sym (append-nil (map view kept)) ∙ ap (λ xs. map view kept ++ xs) (sym (drop_all i all past)) ∙ e
