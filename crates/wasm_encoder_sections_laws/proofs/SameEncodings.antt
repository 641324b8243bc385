-- The bytes of a section tell the encodings of its items, of which none begins another.
use Rattle.std.proofs.Common.{◌≡◌, ℕ, suc, List, [], ◌∷◌, ◌++◌, length, Option, Some, None, refl, sym, ap, ◌∙◌, arith}
use Rattle.std.specs.List.{AllByRecursion, flat_map}
use Rattle.wasm_core_read.specs.Laws.{ReadsExactly, HasValue}
use Rattle.wasm_core_read.proofs.Forms.{prefix_free}
use Rattle.wasm_encoder_sections_laws.proofs.SameSections.{same_content}
use Rattle.wasm_encoder_sections_laws.specs.Told.{TellsEncodings}
use Rattle.wasm_spec.specs.Shortest.{unsigned_encoding, list_encoding}
use Rattle.wasm_spec.proofs.Decoding.{apart, unsigned_at, unsigned_decodes}

abbrev rest_of : {A : Type 0} → List ℕ → Option (A × List ℕ) → List ℕ
rest_of other None = other
rest_of other (Some p) = p.1

items : {A : Type 0} (IsA : List ℕ → A → Type 0) (a_at : List ℕ → Option (A × List ℕ)) → ReadsExactly IsA a_at → (xs ys : List (List ℕ)) → AllByRecursion (HasValue IsA) xs
    → AllByRecursion (HasValue IsA) ys → length xs ≡ length ys → flat_map (λ item. item) xs ≡ flat_map (λ item. item) ys → xs ≡ ys
items IsA a_at law [] [] h k n e = refl
items IsA a_at law [] (y ∷ ys) h k n e = absurd (omega (arith, n))
items IsA a_at law (x ∷ xs) [] h k n e = absurd (omega (arith, n))
items IsA a_at law (x ∷ xs) (y ∷ ys) h k n e =
    let r = flat_map (λ (item : List ℕ). item) xs in let s = flat_map (λ (item : List ℕ). item) ys in
    let first : x ≡ y = (prefix_free IsA a_at law x y r s h.0.0 k.0.0 h.0.1 k.0.1 e).0 in
    let others : r ≡ s = ap (rest_of r) (sym (law.again x h.0.0 r h.0.1) ∙ ap a_at e ∙ law.again y k.0.0 s k.0.1) in
    ap (λ l. l ∷ xs) first ∙ ap (λ l. y ∷ l) (items IsA a_at law xs ys h.1 k.1 (omega (arith, n)) others)

pub encodings : {A : Type 0} (IsA : List ℕ → A → Type 0) (a_at : List ℕ → Option (A × List ℕ)) → ReadsExactly IsA a_at → TellsEncodings IsA
unfolding list_encoding
encodings IsA a_at law xs ys h k e =
    let both = apart unsigned_encoding unsigned_at unsigned_decodes (length xs) (length ys) (flat_map (λ item. item) xs) (flat_map (λ item. item) ys)
    (same_content (list_encoding (λ item. item) xs) (list_encoding (λ item. item) ys) e) in
    items IsA a_at law xs ys h k both.0 both.1
