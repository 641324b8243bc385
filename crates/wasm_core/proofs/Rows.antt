-- Whether bytes have a value is computed by the reading functions.
use Rattle.std.proofs.Common.{◌≡◌, ℕ, Bool, true, false, List, [], ◌∷◌, ◌&&◌, ltb, Option, None, Some, is_some, refl, sym, ap, ◌∙◌, inl, inr}
use Rattle.std.specs.List.{list_all}
use Rattle.wasm_spec.specs.Bytes.{AreBytes}
use Rattle.wasm_core_read.specs.Laws.{ReadsExactly, HasValue, HasNone}
use Rattle.wasm_core_read.specs.Reading.{filled}
use Rattle.wasm_core_read.proofs.Forms.{fills_filled, ltb_tells}

one_more : (b : ℕ) (bs : List ℕ) → (list_all (λ b. ltb b 256) bs ≡ true → AreBytes bs) → (ltb b 256 && list_all (λ b. ltb b 256) bs) ≡ true → AreBytes (b ∷ bs)
one_more b bs others e = elim (ltb_tells b 256) [
  | inl t ↦ (t.1, others (sym (ap (λ x. x && list_all (λ b. ltb b 256) bs) t.0) ∙ e))
  | inr t ↦ let no = sym (ap (λ x. x && list_all (λ b. ltb b 256) bs) t.0) ∙ e in absurd cc
]

pub are_bytes : (bytes : List ℕ) → list_all (λ b. ltb b 256) bytes ≡ true → AreBytes bytes
are_bytes [] e = tt
are_bytes (b ∷ bs) e = one_more b bs (are_bytes bs) e

pub has_value : {A : Type 0} (IsA : List ℕ → A → Type 0) (a_at : List ℕ → Option (A × List ℕ)) → ReadsExactly IsA a_at → (bytes : List ℕ)
    → list_all (λ b. ltb b 256) bytes ≡ true → is_some (filled (a_at bytes)) ≡ true → HasValue IsA bytes
has_value {A} IsA a_at law bytes are some = by_read (filled (a_at bytes)) refl some
  where
    by_read : (read : Option A) → filled (a_at bytes) ≡ read → is_some read ≡ true → HasValue IsA bytes
    by_read None is some = absurd cc
    by_read (Some v) is some = (v, (fills_filled IsA a_at law).found bytes v (are_bytes bytes are) is)

pub has_none : {A : Type 0} (IsA : List ℕ → A → Type 0) (a_at : List ℕ → Option (A × List ℕ)) → ReadsExactly IsA a_at → (bytes : List ℕ)
    → is_some (filled (a_at bytes)) ≡ false → HasNone IsA bytes
has_none IsA a_at law bytes none v h = let some = (fills_filled IsA a_at law).again bytes v h in absurd cc

pub either : (P : Bool → Type 0) → P true → P false → (b : Bool) → P b
either P t f true = t
either P t f false = f
