-- Matching part by part, as far as a loop has come.
use Rattle.std.proofs.Common.{◌≡◌, ◌↔◌, ℕ, zero, suc, ◌+◌, ◌<◌, ◌≤◌, List, [], ◌∷◌, length, map, drop, get_or, refl, sym, ap, ◌∙◌, arith}
use Rattle.std.proofs.lemmas.List.{drop_more}
use Rattle.wasm_spec.specs.Matching.{FrontPairwise, Pairwise}

one_left : {X : Type 0} (xs : List X) (i : ℕ) (x : X) → i < length xs → x ≡ get_or xs i x → drop i xs ≡ x ∷ drop (i + 1) xs
one_left xs i x lt is = drop_more xs i x lt ∙ ap (λ y. y ∷ drop (i + 1) xs) (sym is)

module _ {T X : Type 0} (Rel : X → X → Type 0) (meaning : T → X) where
  -- the first of these match the others, as far as the others go
  abbrev pub Front : List T → List T → Type 0
  Front xs ys = FrontPairwise Rel (map meaning xs) (map meaning ys)

  -- what is left of them after so many matches exactly where the whole does
  pub record IsAsFar (xs ys : List T) (i : ℕ) : Type 0 where
    pub same : Front (drop i xs) (drop i ys) ↔ Front xs ys

  pub too_short : (xs ys : List T) → length xs < length ys → ¬ (Front xs ys)
  too_short xs [] short m = absurd (omega arith)
  too_short [] (y ∷ ys) short m = m
  too_short (x ∷ xs) (y ∷ ys) short m = too_short xs ys (omega arith) m.1

  one_more : (xs ys : List T) (i : ℕ) (x y : T) → i < length xs → i < length ys → x ≡ get_or xs i x → y ≡ get_or ys i y
      → Front (drop i xs) (drop i ys) ↔ (Rel (meaning x) (meaning y) × Front (drop (i + 1) xs) (drop (i + 1) ys))
  one_more xs ys i x y in_xs in_ys at_x at_y = rw (one_left xs i x in_xs at_x, one_left ys i y in_ys at_y) ((λ m. m), (λ m. m))

  pub begins : (xs ys : List T) → IsAsFar xs ys 0
  begins xs ys = record { same = ((λ m. m), (λ m. m)) }

  pub goes_on : (xs ys : List T) (i : ℕ) (x y : T) → IsAsFar xs ys i → i < length ys → length ys ≤ length xs → x ≡ get_or xs i x → y ≡ get_or ys i y
      → Rel (meaning x) (meaning y) → IsAsFar xs ys (i + 1)
  goes_on xs ys i x y far in_ys short at_x at_y holds =
      let step = one_more xs ys i x y (omega (arith, in_ys, short)) in_ys at_x at_y in
      record { same = ((λ m. far.same.0 (step.1 (holds, m))), (λ m. (step.0 (far.same.1 m)).1)) }

  pub stops : (xs ys : List T) (i : ℕ) (x y : T) → IsAsFar xs ys i → i < length ys → length ys ≤ length xs → x ≡ get_or xs i x → y ≡ get_or ys i y
      → ¬ (Rel (meaning x) (meaning y)) → ¬ (Front xs ys)
  stops xs ys i x y far in_ys short at_x at_y fails m =
      fails ((one_more xs ys i x y (omega (arith, in_ys, short)) in_ys at_x at_y).0 (far.same.1 m)).0

  nothing_left : (ys : List T) (i : ℕ) → length ys ≤ i → drop i ys ≡ []
  nothing_left [] zero h = refl
  nothing_left [] (suc i) h = refl
  nothing_left (y ∷ ys) zero h = absurd (omega arith)
  nothing_left (y ∷ ys) (suc i) h = nothing_left ys i (omega arith)

  pub ends : (xs ys : List T) (i : ℕ) → IsAsFar xs ys i → length ys ≤ i → Front xs ys
  ends xs ys i far past = far.same.0 (rw (nothing_left ys i past) tt)

-- with as many on both sides, all match
pub all_by_front : {X : Type 0} (Rel : X → X → Type 0) (xs ys : List X) → length xs ≡ length ys → FrontPairwise Rel xs ys ↔ Pairwise Rel xs ys
all_by_front Rel [] [] same = ((λ m. tt), (λ m. tt))
all_by_front Rel [] (y ∷ ys) same = absurd (omega arith)
all_by_front Rel (x ∷ xs) [] same = absurd (omega arith)
all_by_front Rel (x ∷ xs) (y ∷ ys) same =
    let rest = all_by_front Rel xs ys (omega arith) in
    ((λ m. (m.0, rest.0 m.1)), (λ m. (m.0, rest.1 m.1)))

pub as_many : {X : Type 0} (Rel : X → X → Type 0) (xs ys : List X) → Pairwise Rel xs ys → length xs ≡ length ys
as_many Rel [] [] m = refl
as_many Rel [] (y ∷ ys) m = absurd m
as_many Rel (x ∷ xs) [] m = absurd m
as_many Rel (x ∷ xs) (y ∷ ys) m = let rest = as_many Rel xs ys m.1 in omega (arith, rest)
