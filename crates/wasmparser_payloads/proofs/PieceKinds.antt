-- No section's piece is the end.
use Rattle.std.proofs.Common.{◌≡◌, ℕ, Bool, true, false, cond, eqb, Option, Some, refl, sym, ap, ◌∙◌}
use Rattle.wasm_core_read.specs.Input.{Input}
use Rattle.wasm_core_read.specs.Reading.{◌>>=◌}
use Rattle.wasm_core_read.proofs.Forms.{bind_some, some_is}
use Rattle.wasmparser_payloads.specs.Pieces.{Piece, Types, Imports, Functions, Tables, Memories, Tags, Globals, Exports, Start, Elements, DataCount, CodeStart, Segments, Custom, End, piece_of}

abbrev is_last : Piece → Bool
is_last (End place) = true
is_last _ = false

abbrev NoneIsLast : Option Piece → Type 0
NoneIsLast read = (p : Piece) → read ≡ Some p → is_last p ≡ false

-- one id, and the others
step : (t : Bool) (a b : Option Piece) → NoneIsLast a → NoneIsLast b → NoneIsLast (cond t a b)
step true a b h k = h
step false a b h k = k

plain : {A : Type 0} (read : Option A) (piece : A → Piece) → ((x : A) → is_last (piece x) ≡ false) → NoneIsLast (read >>= λ x. Some (piece x))
plain read piece h p e = let x = bind_some read (λ x. Some (piece x)) p e in sym (ap is_last (some_is (piece x.0) p x.2)) ∙ h x.0

none_last : (id : ℕ) (content : Input) → NoneIsLast (piece_of id content)
unfolding piece_of
none_last id content =
    step (eqb id 0) _ _ (plain _ (λ x. Custom x) (λ x. refl)) (
    step (eqb id 1) _ _ (plain _ (λ x. Types x) (λ x. refl)) (
    step (eqb id 2) _ _ (plain _ (λ x. Imports x) (λ x. refl)) (
    step (eqb id 3) _ _ (plain _ (λ x. Functions x) (λ x. refl)) (
    step (eqb id 4) _ _ (plain _ (λ x. Tables x) (λ x. refl)) (
    step (eqb id 5) _ _ (plain _ (λ x. Memories x) (λ x. refl)) (
    step (eqb id 6) _ _ (plain _ (λ x. Globals x) (λ x. refl)) (
    step (eqb id 7) _ _ (plain _ (λ x. Exports x) (λ x. refl)) (
    step (eqb id 8) _ _ (plain _ (λ n. Start n _) (λ x. refl)) (
    step (eqb id 9) _ _ (plain _ (λ x. Elements x) (λ x. refl)) (
    step (eqb id 10) _ _ (plain _ (λ x. CodeStart _ _ _) (λ x. refl)) (
    step (eqb id 11) _ _ (plain _ (λ x. Segments x) (λ x. refl)) (
    step (eqb id 12) _ _ (plain _ (λ n. DataCount n _) (λ x. refl)) (
    step (eqb id 13) _ _ (plain _ (λ x. Tags x) (λ x. refl)) (
    λ p e. sym (ap is_last (some_is _ p e))))))))))))))))

pub no_end : (id : ℕ) (content : Input) (place : ℕ) → ¬ (piece_of id content ≡ Some (End place))
no_end id content place e = let w = none_last id content (End place) e in absurd cc
