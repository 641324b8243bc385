-- What stands where in a chain of supertypes.
use Rattle.std.proofs.lemmas.Bool.Decides.{nat_tests}
use Rattle.std.proofs.Common.{◌≡◌, ◌≢◌, Bool, true, false, not, ◌==◌, ℕ, zero, suc, ◌+◌, ◌<◌, List, [], ◌∷◌, ◌++◌, length, slice_get, Option, Some, refl, sym, ap, ◌∙◌, subst, arith, ◌⊎◌, inl, inr, ◌↔◌}
use Rattle.std.proofs.lemmas.List.{length-append}
use Rattle.wasm_spec.specs.Subtyping.{Closure, same, step, Link, HeapBelow}
use Rattle.wasm_spec.specs.Types.{SubType, Concrete}
use Rattle.wasm_spec.proofs.Closures.{mapped, sound, complete}
use Rattle.wasm_spec.proofs.Places.{get_left, get_cases}
use Rattle.wasmparser_types.specs.Index.{Index, Module, RecGroup, Id}
use Rattle.wasmparser_type_relations.specs.Chains.{by_id, IsLinked, IsChain, greatest, below}

-- ---- ends of lists

alone : {X : Type 0} (i : ℕ) (y x : X) → slice_get (y ∷ []) i ≡ Some x → y ≡ x
alone zero y x e = cc
alone (suc i) y x e = absurd cc

pub at_last : {X : Type 0} (xs : List X) (y : X) → slice_get (xs ++ y ∷ []) (length xs) ≡ Some y
at_last [] y = refl
at_last (x ∷ xs) y = at_last xs y

within : {X : Type 0} (xs : List X) (i : ℕ) (x : X) → slice_get xs i ≡ Some x → i < length xs
within [] i x e = absurd cc
within (y ∷ ys) zero x e = omega arith
within (y ∷ ys) (suc i) x e = let h = within ys i x e in omega (arith, h)

module _ (type_at : ℕ → Option (SubType Index)) where
  -- what stands in a chain is above the type
  pub reached : {chain : List ℕ} {n : ℕ} → IsChain type_at chain n → (i x : ℕ) → slice_get chain i ≡ Some x → Closure (IsLinked type_at) n x
  reached (greatest n none) i x e = subst (λ y. Closure (IsLinked type_at) n y) (alone i n x e) same
  reached (below {chain} {t} higher n link only) i x e = here (reached higher i x) (get_cases chain (n ∷ []) i x e) where
    here : (slice_get chain i ≡ Some x → Closure (IsLinked type_at) t x)
        → (slice_get chain i ≡ Some x) ⊎ ((j : ℕ) × (i ≡ length chain + j) × (slice_get (n ∷ []) j ≡ Some x)) → Closure (IsLinked type_at) n x
    here up (inl left) = step link (up left)
    here up (inr right) = subst (λ y. Closure (IsLinked type_at) n y) (alone right.0 n x right.2) same

  -- a type has one chain, and stands at its end
  pub one_chain : {c d : List ℕ} {n m : ℕ} → IsChain type_at c n → IsChain type_at d m → n ≡ m → c ≡ d
  one_chain (greatest n none) (greatest m last) e = ap (λ x. x ∷ []) e
  one_chain (greatest n none) (below {chain} {t} higher m link only) e = absurd (none t (subst (λ x. IsLinked type_at x t) (sym e) link))
  one_chain (below {chain} {t} higher n link only) (greatest m last) e = absurd (last t (subst (λ x. IsLinked type_at x t) e link))
  one_chain (below {chain = c} {t} higher n link only) (below {chain = d} {t = u} up m other unique) e =
      let fronts = one_chain higher up (unique t (subst (λ x. IsLinked type_at x t) e link)) in
      ap (λ q. q ++ n ∷ []) fronts ∙ ap (λ x. d ++ x ∷ []) e

  pub is_last : {c : List ℕ} {n : ℕ} → IsChain type_at c n → (k : ℕ) → length c ≡ suc k → slice_get c k ≡ Some n
  is_last (greatest n none) zero e = refl
  is_last (greatest n none) (suc k) e = absurd (omega (arith, e))
  is_last (below {chain} {t} higher n link only) k e =
      let k_is : length chain ≡ k = omega (arith, e, length-append chain (n ∷ [])) in
      subst (λ q. slice_get (chain ++ n ∷ []) q ≡ Some n) k_is (at_last chain n)

  -- a type that is above another one stands in its chain, at the place of its own depth
  pub found : {c d : List ℕ} {n m : ℕ} → IsChain type_at c n → IsChain type_at d m → Closure (IsLinked type_at) n m → (k : ℕ) → length d ≡ suc k → slice_get c k ≡ Some m
  found {c} {d} {n} {m} is of same k e = subst (λ q. slice_get q k ≡ Some m) (sym (one_chain is of refl)) (is_last of k e)
  found (greatest n none) of (step {y} link path) k e = absurd (none y link)
  found {m} (below {chain} {t} higher n up only) of (step {y} link path) k e =
      let below_is = found higher of (subst (λ q. Closure (IsLinked type_at) q m) (only y link) path) k e in
      get_left chain (n ∷ []) k (within chain k m below_is) ∙ below_is

  pub no_chain_is_empty : {c : List ℕ} {n : ℕ} → IsChain type_at c n → c ≡ [] → ⊥
  no_chain_is_empty (greatest n none) e = cc
  no_chain_is_empty (below {chain} {t} higher n link only) e = let count = ap length e in absurd (omega (arith, count, length-append chain (n ∷ [])))

  -- ---- subtyping of ids

  -- what links lead to from a type that has an id has an id
  pub up_to_ids : {r t : Index} → Closure (Link (by_id type_at)) r t → (n m : ℕ) → r ≡ Id n → t ≡ Id m → Closure (IsLinked type_at) n m
  up_to_ids same n m e f = let one : n ≡ m = cc in subst (λ q. Closure (IsLinked type_at) n q) one same
  up_to_ids (step {y = Id u} link path) n m e f = step (subst (λ q. Link (by_id type_at) q (Id u)) e link) (up_to_ids path u m refl f)
  up_to_ids (step {y = Module u} link path) n m e f = absurd (let p = link.kind.is in cc)
  up_to_ids (step {y = RecGroup u} link path) n m e f = absurd (let p = link.kind.is in cc)

  pub is_below : {c d : List ℕ} {n m k : ℕ} → IsChain type_at c n → IsChain type_at d m → length d ≡ suc k
      → (slice_get c k ≡ Some m) ↔ HeapBelow (by_id type_at) (Concrete (Id n)) (Concrete (Id m))
  is_below {c} {d} {n} {m} {k} is of e = (
    (λ h. sound (by_id type_at) (Concrete (Id n)) (Concrete (Id m)) (mapped Id (λ x y l. l) (reached is k m h))),
    (λ h. found is of (up_to_ids (complete (by_id type_at) {a = Concrete (Id n)} {b = Concrete (Id m)} h) n m refl refl) k e),
  )

-- what two chains that were read one after the other tell
pub tells : {T T1 T2 : ℕ → Option (SubType Index)} {c d : List ℕ} {n m k : ℕ} {read : Option ℕ} → IsChain T1 d m → T1 ≡ T → length d ≡ suc k → IsChain T2 c n → T2 ≡ T1 → read ≡ slice_get c k
    → (read ≡ Some m) ↔ HeapBelow (by_id T) (Concrete (Id n)) (Concrete (Id m))
tells {T} {c} {d} {n} {m} of of_is depth is is_is read_is =
    let law = is_below T (subst (λ t. IsChain t c n) (is_is ∙ of_is) is) (subst (λ t. IsChain t d m) of_is of) depth in
    (λ h. law.0 (sym read_is ∙ h), λ h. read_is ∙ law.1 h)

-- ---- a test of two numbers

pub told_apart : (r : Bool) (n m : ℕ) → r ≡ not (n == m) → r ≡ true → n ≢ m
told_apart r n m is differs e = absurd (grind (arith, nat_tests, is, differs, e))

pub told_same : (r : Bool) (n m : ℕ) → r ≡ not (n == m) → r ≡ false → n ≡ m
told_same r n m is equal = grind (arith, nat_tests, is, equal)
