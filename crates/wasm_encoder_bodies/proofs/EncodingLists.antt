-- The encodings of items, one after the other, and what was taken of an iterator.
use Rattle.std.proofs.Common.{◌≡◌, ℕ, ◌<◌, ◌^◌, List, [], ◌∷◌, ◌++◌, length, Option, refl, sym, ap, ◌∙◌, subst}
use Rattle.std.specs.Prelude.{Some}
use Rattle.std.specs.Iterator.{Yields}
use Rattle.std.specs.List.{flat_map}
use Rattle.std.proofs.lemmas.Grind.{flat_map-append}
use Rattle.std.proofs.lemmas.List.{append-nil}
use Rattle.wasm_encoder_bodies.specs.Expressions.{AreShort}

-- one item more is written
pub one_written : {A : Type 0} (encoding : A → List ℕ) (items : List A) (item : A) (old new : List ℕ) → old ≡ flat_map encoding items → new ≡ old ++ encoding item
    → new ≡ flat_map encoding (items ++ item ∷ [])
one_written encoding items item old new before added =
    added ∙ ap (λ l. l ++ encoding item) before ∙ ap (λ l. flat_map encoding items ++ l) (sym (append-nil (encoding item))) ∙ sym (flat_map-append encoding items (item ∷ []))

pub one_short : {A : Type 0} (encoding : A → List ℕ) (items : List A) (item : A) → AreShort encoding items → length (encoding item) < 2 ^ 32 → AreShort encoding (items ++ item ∷ [])
one_short encoding [] item are short = (short, tt)
one_short encoding (x ∷ xs) item are short = (are.0, one_short encoding xs item are.1 short)

-- one item more is taken
pub one_taken : {S A : Type 0} (steps : S → Option A → S → Type 0) (items : List A) (item : A) (s t u : S) → Yields steps s items t → steps t (Some item) u → Yields steps s (items ++ item ∷ []) u
one_taken steps [] item s t u a b = (u, subst (λ k. steps k (Some item) u) (sym a) b, refl)
one_taken steps (x ∷ xs) item s t u a b = (a.0, a.1, one_taken steps xs item a.0 t u a.2 b)

pub ruleset steps = (one_written, one_short)
