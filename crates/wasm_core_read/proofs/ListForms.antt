-- A list is read as its form says where each item is.
use Rattle.std.proofs.Common.{◌≡◌, ℕ, zero, suc, List, [], ◌∷◌, ◌++◌, length, Option, Some, refl, ap, subst, ◌∙◌, append_assoc}
use Rattle.wasm_spec.specs.Bytes.{AreBytes, IsItems, IsList}
use Rattle.wasm_core_read.specs.Laws.{ReadsExactly}
use Rattle.wasm_core_read.specs.Reading.{◌>>=◌, unsigned_at}
use Rattle.wasm_core_read.specs.TypeReading.{items_at, list_at}
use Rattle.wasm_core_read.proofs.Forms.{bind_some, some_is, joined, rest_bytes, Found, unsigned_found, unsigned_again}

items_found : {A : Type 0} (IsA : List ℕ → A → Type 0) (a_at : List ℕ → Option (A × List ℕ)) → ReadsExactly IsA a_at → (n : ℕ) (bytes : List ℕ) (vs : List A) (rest : List ℕ)
    → AreBytes bytes → items_at a_at n bytes ≡ Some (vs, rest) → Found (IsItems IsA) bytes vs rest × (length vs ≡ n)
unfolding items_at
items_found IsA a_at law zero bytes vs rest are e =
    subst (λ x. Found (IsItems IsA) bytes x.0 x.1 × (length x.0 ≡ 0)) (some_is ([], bytes) (vs, rest) e) (([], refl, refl), refl)
items_found IsA a_at law (suc n) bytes vs rest are e =
    let a = bind_some (a_at bytes) (λ first. items_at a_at n first.1 >>= λ others. Some (first.0 ∷ others.0, others.1)) (vs, rest) e in
    let b = bind_some (items_at a_at n a.0.1) (λ others. Some (a.0.0 ∷ others.0, others.1)) (vs, rest) a.2 in
    let first = law.found bytes a.0.0 a.0.1 are a.1 in
    let others = items_found IsA a_at law n a.0.1 b.0.0 b.0.1 (rest_bytes bytes first.0 a.0.1 are first.1) b.1 in
    subst (λ x. Found (IsItems IsA) bytes x.0 x.1 × (length x.0 ≡ suc n)) (some_is (a.0.0 ∷ b.0.0, b.0.1) (vs, rest) b.2)
    ((first.0 ++ others.0.0, joined bytes first.0 a.0.1 others.0.0 b.0.1 first.1 others.0.1, (first.0, others.0.0, refl, first.2, others.0.2)), ap suc others.1)

items_again : {A : Type 0} (IsA : List ℕ → A → Type 0) (a_at : List ℕ → Option (A × List ℕ)) → ReadsExactly IsA a_at → (bytes : List ℕ) (vs : List A) (rest : List ℕ)
    → IsItems IsA bytes vs → items_at a_at (length vs) (bytes ++ rest) ≡ Some (vs, rest)
unfolding items_at
items_again IsA a_at law bytes [] rest h = rw h refl
items_again IsA a_at law bytes (v ∷ vs) rest h =
    let split : bytes ++ rest ≡ h.0 ++ (h.1 ++ rest) = rw h.2 (append_assoc h.0 h.1 rest) in
    ap (items_at a_at (suc (length vs))) split ∙ rw (law.again h.0 v (h.1 ++ rest) h.3, items_again IsA a_at law h.1 vs rest h.4) refl

pub reads_list : {A : Type 0} (IsA : List ℕ → A → Type 0) (a_at : List ℕ → Option (A × List ℕ)) → ReadsExactly IsA a_at → ReadsExactly (IsList IsA) (list_at a_at)
unfolding list_at
reads_list IsA a_at law = record {
  found = λ bytes vs rest are e.
      let n = bind_some (unsigned_at 32 bytes) (λ n. items_at a_at n.0 n.1) (vs, rest) e in
      let count = unsigned_found 32 bytes n.0.0 n.0.1 are n.1 in
      let items = items_found IsA a_at law n.0.0 n.0.1 vs rest (rest_bytes bytes count.0 n.0.1 are count.1) n.2 in
      (count.0 ++ items.0.0, joined bytes count.0 n.0.1 items.0.0 rest count.1 items.0.1, (count.0, items.0.0, refl, rw items.1 count.2, items.0.2));
  again = λ encoding vs rest h.
      let split : encoding ++ rest ≡ h.0 ++ (h.1 ++ rest) = rw h.2 (append_assoc h.0 h.1 rest) in
      ap (list_at a_at) split ∙ rw (unsigned_again 32 h.0 (length vs) (h.1 ++ rest) h.3) (items_again IsA a_at law h.1 vs rest h.4);
}

items_count : {A : Type 0} (a_at : List ℕ → Option (A × List ℕ)) (n : ℕ) (bytes : List ℕ) (vs : List A) (rest : List ℕ) → items_at a_at n bytes ≡ Some (vs, rest) → n ≡ length vs
unfolding items_at
items_count a_at zero bytes vs rest e = ap (λ x. length x.0) (some_is ([], bytes) (vs, rest) e)
items_count a_at (suc n) bytes vs rest e =
    let a = bind_some (a_at bytes) (λ first. items_at a_at n first.1 >>= λ others. Some (first.0 ∷ others.0, others.1)) (vs, rest) e in
    let b = bind_some (items_at a_at n a.0.1) (λ others. Some (a.0.0 ∷ others.0, others.1)) (vs, rest) a.2 in
    ap suc (items_count a_at n a.0.1 b.0.0 b.0.1 b.1) ∙ ap (λ x. length x.0) (some_is (a.0.0 ∷ b.0.0, b.0.1) (vs, rest) b.2)

-- the number that a list begins with is that of its items
pub list_count : {A : Type 0} (a_at : List ℕ → Option (A × List ℕ)) (bytes : List ℕ) (vs : List A) (rest : List ℕ) → list_at a_at bytes ≡ Some (vs, rest) → (after : List ℕ) × (unsigned_at 32 bytes ≡ Some (length vs, after))
unfolding list_at
list_count a_at bytes vs rest e =
    let n = bind_some (unsigned_at 32 bytes) (λ n. items_at a_at n.0 n.1) (vs, rest) e in
    (n.0.1, n.1 ∙ ap (λ (k : ℕ). Some (k, n.0.1)) (items_count a_at n.0.0 n.0.1 vs rest n.2))
