-- Numbers of distinct groups.
use Rattle.std.proofs.Common.{◌≡◌, ℕ, ◌+◌, Bool, true, false, inl, inr, List, [], ◌∷◌, map, length, slice_get, Some, zero, suc, refl, sym, ap, ◌∙◌, arith}
use Rattle.std.specs.Bool.{Decides}
use Rattle.std.specs.List.{list_any, position_or_len}
use Rattle.std.specs.Global.{Vec}
use Rattle.std.specs.Cmp.Lexicographic.{pointwise}
use Rattle.std.proofs.lemmas.List.{map-append}
use Rattle.indexmap.specs.IndexSet.{insert_key}
use Rattle.wasm_gen_view.specs.Numbers.{IsNumbered, group_types}
use Rattle.wasm_gen_view.specs.Types.{sub_type}
use Rattle.wasm_gen_view.specs.contracts.types.SubTypePartialEq.TheImpl as sub_types
use Rattle.wasm_gen_view.specs.declared.types.SubType.{SubType}
use Rattle.wasm_gen_view.proofs.EqualityLaws.{lists_decide, subs_decide}

module _ {A B : Type 0} (E : A → A → Bool) (view : A → B) (decides : (a b : A) → Decides (E a b) (view a ≡ view b)) (k : A) where
  -- one of some items has the view of k, at the first place where it equals k
  found : (xs : List A) → list_any (E k) xs ≡ true → slice_get (map view xs) (position_or_len (E k) xs) ≡ Some (view k)
  found [] h = absurd cc
  found (x ∷ xs) h = by (E k x) refl (found xs)
    where
      by : (b : Bool) → E k x ≡ b → (list_any (E k) xs ≡ true → slice_get (map view xs) (position_or_len (E k) xs) ≡ Some (view k)) → slice_get (map view (x ∷ xs)) (position_or_len (E k) (x ∷ xs)) ≡ Some (view k)
      by true e rest = rw e (ap Some (sym ((decides k x).0 e)))
      by false e rest =
          let next : 1 + position_or_len (E k) xs ≡ suc (position_or_len (E k) xs) = omega arith in
          rw e (ap (slice_get (map view (x ∷ xs))) next ∙ rest (rw e at h))

  -- no item has the view of k, and the place is behind all
  absent : (xs : List A) → list_any (E k) xs ≡ false → (other : ℕ) → slice_get (map view xs) other ≡ Some (view k) → ⊥
  absent [] h other at = absurd cc
  absent (x ∷ xs) h zero at = let same : E k x ≡ true = (decides k x).1 (sym cc) in absurd cc
  absent (x ∷ xs) h (suc other) at = by (E k x) refl (absent xs)
    where
      by : (b : Bool) → E k x ≡ b → (list_any (E k) xs ≡ false → (other : ℕ) → slice_get (map view xs) other ≡ Some (view k) → ⊥) → ⊥
      by true e rest = let no : true ≡ false = rw e at h in absurd cc
      by false e rest = rest (rw e at h) other at

  behind : (xs : List A) → list_any (E k) xs ≡ false → position_or_len (E k) xs ≡ length (map view xs)
  behind [] h = refl
  behind (x ∷ xs) h = by (E k x) refl (behind xs)
    where
      by : (b : Bool) → E k x ≡ b → (list_any (E k) xs ≡ false → position_or_len (E k) xs ≡ length (map view xs)) → position_or_len (E k) (x ∷ xs) ≡ length (map view (x ∷ xs))
      by true e rest = let no : true ≡ false = rw e at h in absurd cc
      by false e rest = let last = rest (rw e at h) in rw e (omega (arith, last))

  pub numbered_by : (xs : List A) → IsNumbered (view k) (map view xs) (position_or_len (E k) xs) (map view (insert_key E xs k))
  numbered_by xs = by (list_any (E k) xs) refl
    where
      by : (b : Bool) → list_any (E k) xs ≡ b → IsNumbered (view k) (map view xs) (position_or_len (E k) xs) (map view (insert_key E xs k))
      by true e = inl (found xs e, rw e refl)
      by false e = inr (absent xs e, behind xs e, rw e (map-append view xs (k ∷ [])))

pub numbered : (xs : List (Vec SubType)) (group : Vec SubType)
    → IsNumbered (group_types group) (map group_types xs) (position_or_len (λ other. pointwise sub_types.ghosts.eq group.items other.items) xs)
    (map group_types (insert_key (λ one other. pointwise sub_types.ghosts.eq one.items other.items) xs group))
numbered xs group = numbered_by (λ (one other : Vec SubType). pointwise sub_types.ghosts.eq one.items other.items) group_types (λ a b. lists_decide _ sub_type subs_decide a.items b.items) group xs
