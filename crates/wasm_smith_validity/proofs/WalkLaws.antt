-- Walks from a type up to its supertypes.
use Rattle.std.proofs.Common.{◌≡◌, ℕ, zero, suc, ◌+◌, ◌≤◌, ◌<◌, true, false, List, [], ◌∷◌, map, length, Option, Some, None, refl, sym, ap, arith, subst, get_or, ltb}
use Rattle.std.proofs.lemmas.Bool.{ltb-true, ltb-false}
use Rattle.std.specs.List.{slice_get, Contains}
use Rattle.std.specs.Option.{option_to_list}
use Rattle.wasm_core_types.specs.SubTypes.{sub_type}
use Rattle.wasm_core_types.specs.declared.types.SubType.{SubType}
use Rattle.wasm_spec.specs.Groups.{Links, no_link, one_more}
use Rattle.wasm_spec.specs.Subtyping.{Declared}
use Rattle.wasm_spec.specs.Types as spec
use Rattle.wasm_spec.proofs.Elements.{contains_first}
use Rattle.wasm_smith_validity.specs.ValidGroups.{HasHeight}

-- what is got from a list is got from what is seen of it
pub seen_get : {X Y : Type 0} (f : X → Y) (xs : List X) (i : ℕ) (x : X) → true ≡ ltb i (length xs) → x ≡ get_or xs i x → slice_get (map f xs) i ≡ Some (f x)
seen_get f xs i x within e = go f xs i x (ltb-true i (length xs) (sym within)) e
  where
    go : {X Y : Type 0} (f : X → Y) (xs : List X) (i : ℕ) (x : X) → i < length xs → x ≡ get_or xs i x → slice_get (map f xs) i ≡ Some (f x)
    go f [] i x lt e = absurd (omega (arith, lt))
    go f (y ∷ xs) zero x lt e = ap (λ z. Some (f z)) (sym e)
    go f (y ∷ xs) (suc i) x lt e = go f xs i x (omega (arith, lt)) e

-- what is not got from a list is not got from what is seen of it
pub seen_none : {X Y : Type 0} (f : X → Y) (xs : List X) (i : ℕ) → false ≡ ltb i (length xs) → slice_get (map f xs) i ≡ None
seen_none f xs i outside = go f xs i (ltb-false i (length xs) (sym outside))
  where
    go : {X Y : Type 0} (f : X → Y) (xs : List X) (i : ℕ) → length xs ≤ i → slice_get (map f xs) i ≡ None
    go f [] i le = refl
    go f (y ∷ xs) zero le = absurd (omega (arith, le))
    go f (y ∷ xs) (suc i) le = go f xs i (omega (arith, le))

pub got : {X : Type 0} (xs : List X) (i : ℕ) (x : X) → i < length xs → x ≡ get_or xs i x → slice_get xs i ≡ Some x
got [] i x lt e = absurd (omega (arith, lt))
got (y ∷ xs) zero x lt e = ap (λ z. Some z) (sym e)
got (y ∷ xs) (suc i) x lt e = got xs i x (omega (arith, lt)) e

module _ (types : List SubType) where
  abbrev seen : ℕ → Option (spec.SubType ℕ)
  seen = slice_get (map sub_type types)

  snoc : {n : ℕ} {r s : ℕ} (t : ℕ) → Links seen n r s → Declared seen s t → Links seen (suc n) r t
  snoc t no_link d = one_more d no_link
  snoc t (one_more e more) d = one_more e (snoc t more d)

  pub declared_at : (s t : ℕ) (type : SubType) → seen s ≡ Some (sub_type type) → type.supertype_idx ≡ Some t → Declared seen s t
  declared_at s t type is up = record { type = sub_type type; is = is; among = subst (λ o. Contains (option_to_list o) t) (sym up) (contains_first t []) }

  pub link_up : (n r s t : ℕ) (type : SubType) → Links seen n r s → seen s ≡ Some (sub_type type) → type.supertype_idx ≡ Some t → Links seen (n + 1) r t
  link_up n r s t type links is up =
      let one : n + 1 ≡ suc n = omega arith in
      rw one (snoc t links (declared_at s t type is up))

  pub top_at : (n r s : ℕ) (type : SubType) → Links seen n r s → seen s ≡ Some (sub_type type) → type.supertype_idx ≡ None → HasHeight seen n r
  top_at n r s type links is up = record { top = s; links = links; type = sub_type type; is = is; none = ap option_to_list up }

  pub at_top : (n r s : ℕ) (type : SubType) → n < 63 → Links seen n r s → seen s ≡ Some (sub_type type) → type.supertype_idx ≡ None
      → HasHeight seen n r × (n ≤ 62)
  at_top n r s type few links is up = (top_at n r s type links is up, omega (arith, few))
