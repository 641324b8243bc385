-- What the sections are that bytes begin with, read off their ids and sizes.
use Rattle.std.proofs.Common.{◌≡◌, ◌<◌, ◌^◌, ℕ, Bool, List, [], ◌∷◌, ◌++◌, length, refl, sym, subst, ap, ◌∙◌, arith, length-append}
use Rattle.wasm_spec.specs.Bytes.{IsU32, IsItems}
use Rattle.wasm_spec.specs.Grammar.{IsContent, IsSection, section_id}
use Rattle.wasm_spec.specs.Syntax.{Section}
use Rattle.wasm_spec.proofs.WrongEncodings.{heads, tails, number_is, joined}

-- parts of one length at the front of the same bytes
pub same_front : (a b c d : List ℕ) → length a ≡ length b → a ++ c ≡ b ++ d → (a ≡ b) × (c ≡ d)
same_front [] [] c d l e = (refl, e)
same_front [] (y ∷ b) c d l e = absurd (omega (arith, l))
same_front (x ∷ a) [] c d l e = absurd (omega (arith, l))
same_front (x ∷ a) (y ∷ b) c d l e =
    let others = same_front a b c d (omega (arith, l)) (tails x y (a ++ c) (b ++ d) e) in
    (ap (λ (l : List ℕ). x ∷ l) others.0 ∙ ap (λ n. n ∷ b) (heads x y (a ++ c) (b ++ d) e), others.1)

-- the bytes begin with an encoding of one number
abbrev pub Splits : List ℕ → ℕ → List ℕ → Type 0
Splits whole n rest = (encoding others : List ℕ) (m : ℕ) → IsU32 encoding m → whole ≡ encoding ++ others → (m ≡ n) × (others ≡ rest)

pub one_byte : (n : ℕ) (rest : List ℕ) → n < 2 ^ 7 → Splits (n ∷ rest) n rest
one_byte n rest small encoding others m h e = number_is encoding others rest n m h small e

-- What the first section is, and what is left after it.
pub record Begun (compact : Bool) (id : ℕ) (content bytes after : List ℕ) (section : Section) (sections : List Section) : Type 0 where
  pub rest : List ℕ
  pub has_id : section_id section ≡ id
  pub is : IsContent compact content section
  pub left : rest ++ after ≡ bytes
  pub holds : IsItems (IsSection compact) rest sections

pub first_section : (compact : Bool) (id size : ℕ) (whole content bytes front after : List ℕ) (section : Section) (sections : List Section) → Splits whole size (content ++ bytes) → length content ≡ size
    → id ∷ whole ≡ front ++ after → IsItems (IsSection compact) front (section ∷ sections) → Begun compact id content bytes after section sections
first_section compact id size whole content bytes front after section sections splits sized e h =
    let marked = h.3 in
    let framed = marked.2 in
    let whole_is : id ∷ whole ≡ section_id section ∷ (marked.0 ++ (h.1 ++ after)) = joined front after h.0 h.1 _ e h.2 ∙ ap (λ (l : List ℕ). l ++ (h.1 ++ after)) marked.1 in
    let inner : whole ≡ framed.0 ++ (framed.1 ++ (h.1 ++ after)) = joined marked.0 (h.1 ++ after) framed.0 framed.1 _ (tails id (section_id section) whole (marked.0 ++ (h.1 ++ after)) whole_is) framed.2 in
    let split = splits framed.0 (framed.1 ++ (h.1 ++ after)) _ framed.3 inner in
    let same = same_front framed.1 content (h.1 ++ after) bytes (split.0 ∙ sym sized) split.1 in
    record {
      rest = h.1;
      has_id = sym (heads id (section_id section) whole (marked.0 ++ (h.1 ++ after)) whole_is);
      is = subst (λ l. IsContent compact l section) same.0 framed.4;
      left = same.1;
      holds = h.4;
    }

-- no bytes are no sections
pub no_sections : (compact : Bool) (sections : List Section) → IsItems (IsSection compact) [] sections → sections ≡ []
no_sections compact [] h = refl
no_sections compact (section ∷ sections) h = absurd (omega (arith, ap length h.2, length-append h.0 h.1, ap length h.3.1))
