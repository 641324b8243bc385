-- Types that are below nothing, or below one earlier type of their own kind, have chains of supertypes.
use Rattle.std.proofs.Common.{◌≡◌, ℕ, zero, suc, ◌<◌, ◌≤◌, List, [], ◌∷◌, ◌++◌, length, slice_get, Option, Some, refl, sym, subst, arith, ◌⊎◌, inl, inr}
use Rattle.std.proofs.lemmas.List.{length-append, length-map}
use Rattle.std.specs.List.{Contains}
use Rattle.wasm_spec.proofs.Elements.{contains_cases, contains_first, contains_none}
use Rattle.wasm_spec.proofs.Places.{get_some}
use Rattle.wasm_spec.specs.Groups.{Links, no_link, one_more}
use Rattle.wasm_spec.specs.Subtyping.{Declared}
use Rattle.wasm_spec.specs.Types.{SubType}
use Rattle.wasmparser_type_relations.specs.Chains.{AreBelowEarlier, HasChain, IsBelowEarlier, IsChain, IsLinked, below, below_none, below_one, by_id, greatest}
use Rattle.wasmparser_type_list.specs.TypeTables.{TypeTables, sub_types, type_by_id}
use Rattle.wasmparser_types.specs.Index.{Index, Id}
use Rattle.wasmparser_types.specs.SubTypes.{sub_type}

-- a type's chain, as long as links lead upward from it and one more
pub record Chained (type_at : ℕ → Option (SubType Index)) (n : ℕ) : Type 0 where
  pub chain : List ℕ
  pub is_chain : IsChain type_at chain n
  pub links : ℕ
  pub top : Index
  pub lead_up : Links (by_id type_at) links (Id n) top
  pub count : length chain ≡ suc links

module _ (types : List (SubType Index)) (earlier : AreBelowEarlier (slice_get types)) where
  among : (n u : ℕ) (type : SubType Index) → slice_get types n ≡ Some type → IsLinked (slice_get types) n u → Contains type.supertypes (Id u)
  among n u type e link =
      let one : link.declared.type ≡ type = let is = link.declared.is in cc in
      subst (λ (s : SubType Index). Contains s.supertypes (Id u)) one link.declared.among

  only_none : (n : ℕ) (type : SubType Index) → slice_get types n ≡ Some type → type.supertypes ≡ [] → (t : ℕ) → ¬ (IsLinked (slice_get types) n t)
  only_none n type e none t link = contains_none (Id t) (subst (λ (s : List Index). Contains s (Id t)) none (among n t type e link))

  only_one : (n t : ℕ) (type : SubType Index) → slice_get types n ≡ Some type → type.supertypes ≡ Id t ∷ [] → (u : ℕ) → IsLinked (slice_get types) n u → u ≡ t
  only_one n t type e one u link = go (contains_cases (Id u) (Id t) [] (subst (λ (s : List Index). Contains s (Id u)) one (among n u type e link))) where
    go : (Id t ≡ Id u) ⊎ Contains [] (Id u) → u ≡ t
    go (inl first) = cc
    go (inr none) = absurd (contains_none (Id u) none)

  chained : (k n : ℕ) → n < k → (type : SubType Index) → slice_get types n ≡ Some type → Chained (slice_get types) n
  chained zero n lt type is = absurd (omega (arith, lt))
  chained (suc k) n lt type is = go (λ t lower above at. chained k t (omega (arith, lower, lt)) above at) (earlier n type is) where
    go : ((t : ℕ) → t < n → (above : SubType Index) → slice_get types t ≡ Some above → Chained (slice_get types) t) → IsBelowEarlier (slice_get types) n type → Chained (slice_get types) n
    go rest (below_none none) = record { chain = n ∷ []; is_chain = greatest n (only_none n type is none); links = 0; top = Id n; lead_up = no_link; count = refl }
    go rest (below_one t one lower kind) =
        let up = rest t lower kind.type kind.is in
        let declared : Declared (by_id (slice_get types)) (Id n) (Id t) = record { type = type; is = is; among = subst (λ (s : List Index). Contains s (Id t)) (sym one) (contains_first (Id t) []) } in
        record {
          chain = up.chain ++ n ∷ [];
          is_chain = below up.is_chain n (record { declared = declared; kind = kind }) (only_one n t type is one);
          links = suc up.links;
          top = up.top;
          lead_up = one_more declared up.lead_up;
          count = omega (arith, up.count, length-append up.chain (n ∷ []));
        }

  has_chain : (n : ℕ) → n < length types → ((links : ℕ) (above : Index) → Links (by_id (slice_get types)) links (Id n) above → links ≤ 63) → HasChain (slice_get types) n
  has_chain n known within =
      let at = get_some types n known in
      let up = chained (suc n) n (omega arith) at.0 at.1 in
      let few = within up.links up.top up.lead_up in
      record { type = at.0; known = at.1; chain = up.chain; is_chain = up.is_chain; within = omega (arith, few, up.count) }

pub known_has_chain : (tables : TypeTables) → AreBelowEarlier (slice_get (sub_types tables)) → (n : ℕ) → n < length tables.types
    → ((links : ℕ) (above : Index) → Links (type_by_id tables) links (Id n) above → links ≤ 63) → HasChain (slice_get (sub_types tables)) n
known_has_chain tables earlier n known within = has_chain (sub_types tables) earlier n (omega (arith, known, length-map tables.types sub_type)) within
