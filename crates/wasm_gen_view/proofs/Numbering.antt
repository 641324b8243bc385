-- Texts with numbers one after the other, as a loop writes them.
use Rattle.std.proofs.Common.{◌≡◌, ℕ, zero, suc, ◌+◌, ◌<◌, ◌≤◌, List, [], ◌∷◌, ◌++◌, length, get_or, drop, refl, arith, append_assoc, add-one}
use Rattle.std.proofs.lemmas.List.{append-nil}
use Rattle.std.proofs.Math.Seq.{drop-cons}
use Rattle.wasm_gen_view.specs.Text.{numbered}

-- an item has been written
pub writes_number : {A : Type 0} (text : ℕ → A → List ℕ) (xs : List A) (i : ℕ) (x : A) (front : List ℕ) → i < length xs → x ≡ get_or xs i x
    → (front ++ text i x) ++ numbered text (i + 1) (drop (i + 1) xs) ≡ front ++ numbered text i (drop i xs)
writes_number text xs i x front p e = rw (drop-cons xs i x p, ← e, add-one, append_assoc) refl

none_left : {A : Type 0} (text : ℕ → A → List ℕ) (xs : List A) (i number : ℕ) → length xs ≤ i → numbered text number (drop i xs) ≡ []
none_left text [] zero number p = refl
none_left text [] (suc i) number p = refl
none_left text (x ∷ xs) zero number p = absurd (omega arith)
none_left text (x ∷ xs) (suc i) number p = none_left text xs i number (omega arith)

-- all items have been written
pub all_numbered : {A : Type 0} (text : ℕ → A → List ℕ) (xs : List A) (i : ℕ) (front : List ℕ) → length xs ≤ i → front ++ numbered text i (drop i xs) ≡ front
all_numbered text xs i front p = rw (none_left text xs i i p) (append-nil front)

pub ruleset number_steps = (writes_number, all_numbered, append_assoc)
