-- Where an element stands in the snapshots that a loop has not passed.
use Rattle.std.proofs.Common.{◌≡◌, ℕ, zero, suc, ◌+◌, ◌-◌, ◌<◌, ◌≤◌, List, [], ◌∷◌, ◌++◌, length, drop, get_or, slice_get, None, refl, sym, ap, ◌∙◌, subst, arith}
use Rattle.std.proofs.lemmas.List.{drop_more}
use Rattle.std.specs.List.{AllByRecursion}
use Rattle.wasmparser_type_relations.specs.Snapshots.{IsCounted, elements, snapshot_elements}
use Rattle.wasmparser_type_relations.specs.declared.snapshot_list.Snapshot.{Snapshot}

get_left : {X : Type 0} (xs ys : List X) (i : ℕ) → i < length xs → slice_get (xs ++ ys) i ≡ slice_get xs i
get_left [] ys i h = absurd (omega arith)
get_left (x ∷ xs) ys zero h = refl
get_left (x ∷ xs) ys (suc i) h = get_left xs ys i (omega arith)

get_right : {X : Type 0} (xs ys : List X) (i : ℕ) → length xs ≤ i → slice_get (xs ++ ys) i ≡ slice_get ys (i - length xs)
get_right [] ys i h = let e : i ≡ i - 0 = omega arith in ap (slice_get ys) e
get_right (x ∷ xs) ys zero h = absurd (omega arith)
get_right (x ∷ xs) ys (suc i) h = let e : i - length xs ≡ suc i - suc (length xs) = omega arith in get_right xs ys i (omega arith) ∙ ap (slice_get ys) e

one_left : {X : Type 0} (xs : List X) (i : ℕ) (x : X) → i < length xs → x ≡ get_or xs i x → drop i xs ≡ x ∷ drop (i + 1) xs
one_left xs i x lt is = drop_more xs i x lt ∙ ap (λ y. y ∷ drop (i + 1) xs) (sym is)

module _ {T : Type 0} (snapshots : List (Snapshot T)) (i : ℕ) (s : Snapshot T) (lt : i < length snapshots) (is : s ≡ get_or snapshots i s)
    (counted : AllByRecursion IsCounted (drop i snapshots)) where
  all : AllByRecursion IsCounted (s ∷ drop (i + 1) snapshots)
  all = subst (AllByRecursion IsCounted) (one_left snapshots i s lt is) counted

  pub others_counted : AllByRecursion IsCounted (drop (i + 1) snapshots)
  others_counted = all.1

  is_counted : IsCounted s
  is_counted = all.0

  joined : snapshot_elements (drop i snapshots) ≡ elements s.tree.value ++ snapshot_elements (drop (i + 1) snapshots)
  joined = ap snapshot_elements (one_left snapshots i s lt is)

  pub here : (left : ℕ) → left < s.len → slice_get (elements s.tree.value) left ≡ slice_get (snapshot_elements (drop i snapshots)) left
  here left below = sym (ap (λ l. slice_get l left) joined ∙ get_left (elements s.tree.value) (snapshot_elements (drop (i + 1) snapshots)) left (omega (arith, below, is_counted.len)))

  pub further : (left : ℕ) → s.len ≤ left → slice_get (snapshot_elements (drop (i + 1) snapshots)) (left - s.len) ≡ slice_get (snapshot_elements (drop i snapshots)) left
  further left past =
      let right = get_right (elements s.tree.value) (snapshot_elements (drop (i + 1) snapshots)) left (omega (arith, past, is_counted.len)) in
      sym (ap (λ l. slice_get l left) joined ∙ right ∙ ap (λ n. slice_get (snapshot_elements (drop (i + 1) snapshots)) (left - n)) (sym is_counted.len))

-- past the last snapshot
pub none_left : {T : Type 0} (snapshots : List (Snapshot T)) (i left : ℕ) → length snapshots ≤ i → None ≡ slice_get (snapshot_elements (drop i snapshots)) left
none_left [] zero left h = refl
none_left [] (suc i) left h = refl
none_left (s ∷ snapshots) zero left h = absurd (omega arith)
none_left (s ∷ snapshots) (suc i) left h = none_left snapshots i left (omega arith)

-- what was committed stands before what was pushed since
pub before_current : {T : Type 0} (committed current : List T) (i count : ℕ) → count ≡ length committed → i < count → slice_get committed i ≡ slice_get (committed ++ current) i
before_current committed current i count is below = sym (get_left committed current i (omega (arith, is, below)))

pub in_current : {T : Type 0} (committed current : List T) (i count : ℕ) → count ≡ length committed → count ≤ i → slice_get current (i - count) ≡ slice_get (committed ++ current) i
in_current committed current i count is past = ap (λ n. slice_get current (i - n)) is ∙ sym (get_right committed current i (omega (arith, is, past)))
