-- What a loop keeps of what it is lent.
use Rattle.std.proofs.Common.{◌≡◌, ℕ, zero, suc, ◌+◌, ◌<◌, ◌≤◌, List, [], ◌∷◌, ◌++◌, length, map, get_or, drop, refl, sym, ap, ◌∙◌, arith, add-one}
use Rattle.std.proofs.lemmas.List.{append-nil}
use Rattle.std.proofs.Math.Seq.{drop-cons}

one_more : {A C : Type 0} (view : A → C) (kept : List A) (item : A) (rest : List C) → map view (kept ++ item ∷ []) ++ rest ≡ map view kept ++ view item ∷ rest
one_more view [] item rest = refl
one_more view (k ∷ ks) item rest = ap (λ l. view k ∷ l) (one_more view ks item rest)

next_seen : {B C : Type 0} (seen : B → C) (lent : List B) (i : ℕ) (x : B) → i < length lent → x ≡ get_or lent i x → map seen (drop i lent) ≡ seen x ∷ map seen (drop (i + 1) lent)
next_seen seen lent i x p e = rw (drop-cons lent i x p, ← e, add-one) refl

-- an item has been kept
pub keeps_item : {A B C : Type 0} (view : A → C) (seen : B → C) (kept : List A) (item : A) (lent : List B) (i : ℕ) (x : B) → i < length lent → x ≡ get_or lent i x → view item ≡ seen x
    → map view (kept ++ item ∷ []) ++ map seen (drop (i + 1) lent) ≡ map view kept ++ map seen (drop i lent)
keeps_item view seen kept item lent i x p e same =
    one_more view kept item (map seen (drop (i + 1) lent))
    ∙ ap (λ l. map view kept ++ l) (ap (λ c. c ∷ map seen (drop (i + 1) lent)) same ∙ sym (next_seen seen lent i x p e))

nothing_left : {B C : Type 0} (seen : B → C) (lent : List B) (i : ℕ) → length lent ≤ i → map seen (drop i lent) ≡ []
nothing_left seen [] zero p = refl
nothing_left seen [] (suc i) p = refl
nothing_left seen (x ∷ xs) zero p = absurd (omega arith)
nothing_left seen (x ∷ xs) (suc i) p = nothing_left seen xs i (omega arith)

-- all items are kept
pub all_kept : {A B C : Type 0} (view : A → C) (seen : B → C) (kept : List A) (lent : List B) (i : ℕ) → length lent ≤ i → map view kept ++ map seen (drop i lent) ≡ map view kept
all_kept view seen kept lent i p = rw (nothing_left seen lent i p) (append-nil (map view kept))

pub ruleset kept_steps = (keeps_item, all_kept)
