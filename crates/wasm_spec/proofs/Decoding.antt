-- Reading back the encodings that are written, whatever their size: so that equal encodings are those of equal values.
use Rattle.std.proofs.Common.{◌≡◌, ℕ, zero, suc, ◌+◌, ◌-◌, ◌*◌, ◌/◌, ◌%◌, ◌≤◌, true, false, cond, ltb, List, [], ◌∷◌, ◌++◌, length, Option, Some, None, pos, inl, inr, refl, sym, ap, ◌∙◌, arith, append_assoc}
use Rattle.std.proofs.lemmas.Bool.{le-ltb, lt-ltb, cases_lt}
use Rattle.std.specs.List.{flat_map}
use Rattle.wasm_spec.specs.Shortest.{unsigned_bytes, unsigned_encoding, signed_bytes, magnitude_encoding, signed_encoding, list_encoding}

-- what is read from the front of some bytes, and the rest of them
abbrev pub Reader : Type 0 → Type 0
Reader A = List ℕ → Option (A × List ℕ)

infixl 10 ◌>>=◌
abbrev pub ◌>>=◌ : {A B : Type 0} → Option A → (A → Option B) → Option B
(Some x) >>= f = f x
None >>= f = None

-- each encoding is read back, whatever follows
abbrev pub Decodes : {A : Type 0} → (A → List ℕ) → Reader A → Type 0
Decodes {A} bytes a_at = (x : A) (rest : List ℕ) → a_at (bytes x ++ rest) ≡ Some (x, rest)

abbrev done : {A : Type 0} → A → Option A
done x = Some x

-- so equal encodings are of equal values, and end at one place
pub apart : {A : Type 0} (bytes : A → List ℕ) (a_at : Reader A) → Decodes bytes a_at → (x y : A) (r s : List ℕ) → bytes x ++ r ≡ bytes y ++ s → (x ≡ y) × (r ≡ s)
apart {A = A} bytes a_at law x y r s e =
    let both : done (x, r) ≡ done (y, s) = sym (law x r) ∙ ap a_at e ∙ law y s in
    (ap (λ (o : Option (A × List ℕ)). first x o) both, ap (λ (o : Option (A × List ℕ)). second r o) both)
  where
    first : A → Option (A × List ℕ) → A
    first d None = d
    first d (Some p) = p.0

    second : List ℕ → Option (A × List ℕ) → List ℕ
    second d None = d
    second d (Some p) = p.1

-- ---- numbers

pub unsigned_at : Reader ℕ
unsigned_at [] = None
unsigned_at (b ∷ rest) = cond (ltb b 128) (Some (b, rest)) (unsigned_at rest >>= λ x. Some (b - 128 + 128 * x.0, x.1))

unsigned_from : (f n : ℕ) (rest : List ℕ) → n ≤ f → unsigned_at (unsigned_bytes f n ++ rest) ≡ Some (n, rest)
unfolding unsigned_bytes unsigned_at
unsigned_from zero n rest small = let t : ltb n 128 ≡ true = lt-ltb n 128 (omega arith) in rw t refl
unsigned_from (suc f) n rest small =
    elim (cases_lt n 128) [
      | inl lt ↦ let t : ltb n 128 ≡ true = lt-ltb n 128 lt in rw (t, t) refl
      | inr le ↦
          let t : ltb n 128 ≡ false = le-ltb n 128 le in
          let u : ltb (n % 128 + 128) 128 ≡ false = le-ltb (n % 128 + 128) 128 (omega arith) in
          rw (t, u, unsigned_from f (n / 128) rest (omega arith)) (ap (λ (k : ℕ). Some (k, rest)) (omega arith))
    ]

pub unsigned_decodes : Decodes unsigned_encoding unsigned_at
unfolding unsigned_encoding
unsigned_decodes n rest = unsigned_from n n rest (omega arith)

-- a signed number that is not negative
pub index_at : Reader ℕ
index_at [] = None
index_at (b ∷ rest) = cond (ltb b 128) (Some (b, rest)) (index_at rest >>= λ x. Some (b - 128 + 128 * x.0, x.1))

index_from : (f n : ℕ) (rest : List ℕ) → n ≤ f → index_at (signed_bytes f false n ++ rest) ≡ Some (n, rest)
unfolding signed_bytes index_at
index_from zero n rest small = let z : n ≡ 0 = omega arith in rw z refl
index_from (suc f) n rest small =
    elim (cases_lt n 64) [
      | inl lt ↦
          let t : ltb n 64 ≡ true = lt-ltb n 64 lt in
          let m : n % 128 ≡ n = omega arith in
          let u : ltb n 128 ≡ true = lt-ltb n 128 (omega arith) in
          rw (t, m, u) refl
      | inr le ↦
          let t : ltb n 64 ≡ false = le-ltb n 64 le in
          let u : ltb (n % 128 + 128) 128 ≡ false = le-ltb (n % 128 + 128) 128 (omega arith) in
          rw (t, u, index_from f (n / 128) rest (omega arith)) (ap (λ (k : ℕ). Some (k, rest)) (omega arith))
    ]

abbrev pub index_encoding : ℕ → List ℕ
index_encoding n = signed_encoding (pos n)

pub index_decodes : Decodes index_encoding index_at
unfolding magnitude_encoding
index_decodes n rest = index_from n n rest (omega arith)

-- ---- lists and frames

pub items_at : {A : Type 0} → Reader A → ℕ → Reader (List A)
items_at a_at zero bytes = Some ([], bytes)
items_at a_at (suc n) bytes = a_at bytes >>= λ x. items_at a_at n x.1 >>= λ xs. Some (x.0 ∷ xs.0, xs.1)

unfoldable pub list_at : {A : Type 0} → Reader A → Reader (List A)
list_at a_at bytes = unsigned_at bytes >>= λ n. items_at a_at n.0 n.1

items_decode : {A : Type 0} (bytes : A → List ℕ) (a_at : Reader A) → Decodes bytes a_at → (xs : List A) (rest : List ℕ) → items_at a_at (length xs) (flat_map bytes xs ++ rest) ≡ Some (xs, rest)
unfolding items_at
items_decode bytes a_at law [] rest = refl
items_decode bytes a_at law (x ∷ xs) rest = rw (append_assoc (bytes x) (flat_map bytes xs) rest, law x (flat_map bytes xs ++ rest), items_decode bytes a_at law xs rest) refl

pub list_decodes : {A : Type 0} (bytes : A → List ℕ) (a_at : Reader A) → Decodes bytes a_at → Decodes (list_encoding bytes) (list_at a_at)
unfolding list_encoding list_at
list_decodes bytes a_at law xs rest =
    rw (append_assoc (unsigned_encoding (length xs)) (flat_map bytes xs) rest, unsigned_decodes (length xs) (flat_map bytes xs ++ rest)) (items_decode bytes a_at law xs rest)
