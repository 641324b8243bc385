-- One of a list.
use Rattle.std.proofs.Common.{◌≡◌, ℕ, ◌-◌, ◌<◌, List, length, get_or, Some, None, refl, ap, inl, inr, arith}
use Rattle.std.proofs.lemmas.Bool.Decides.{eqb_tells}
use Rattle.std.proofs.lemmas.Option.{slice_get_read}
use Rattle.wasm_smith_unstructured.specs.Draws.{int_at, choose_at}

pub choose_none : {A : Type 0} (xs : List A) (s : List ℕ) → length xs ≡ 0 → choose_at xs s ≡ (None, s)
unfolding choose_at
choose_none xs s e = rw e refl

pub choose_some : {A : Type 0} (xs : List A) (s : List ℕ) (i : ℕ) (t : List ℕ) (x : A) → int_at 0 (length xs - 1) s ≡ (i, t) → i < length xs → x ≡ get_or xs i x → choose_at xs s ≡ (Some x, t)
unfolding choose_at
choose_some xs s i t x e lt h =
    elim (eqb_tells (length xs) 0) [
      | inl (test, none) ↦ absurd (omega arith)
      | inr (test, some) ↦ rw (test, e) (ap (λ o. (o, t)) (slice_get_read xs (length xs) i x refl lt h))
    ]
