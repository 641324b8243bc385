-- The chains that are kept beside types are their chains of supertypes.
use Rattle.std.proofs.Common.{◌≡◌, ◌≢◌, ℕ, zero, suc, ◌+◌, ◌<◌, ◌≤◌, Bool, true, false, List, [], ◌∷◌, ◌++◌, length, slice_get, Option, Some, None, refl, sym, ap, ◌∙◌, subst, arith, ◌↔◌, nat_lt, ◌⊎◌, inl, inr, if◌then◌else◌, option_and_then}
use Rattle.std.proofs.lemmas.List.{append-nil, append_assoc, length-append}
use Rattle.std.proofs.lemmas.Bool.{lt-ltb}
use Rattle.std.proofs.lemmas.Option.{slice_get_within}
use Rattle.wasm_spec.proofs.Closures.{mapped, sound, complete}
use Rattle.std.specs.List.{Contains}
use Rattle.wasm_spec.proofs.Elements.{contains_cases, contains_first, contains_none}
use Rattle.wasm_spec.proofs.Places.{get_left, get_some}
use Rattle.wasm_spec.specs.Subtyping.{Closure, same, step, HeapBelow, IsOfKind, abstract_of}
use Rattle.wasm_spec.specs.Types.{Concrete, SubType}
use Rattle.wasmparser_types.specs.Index.{Index, Id}
use Rattle.wasmparser_type_relations.specs.Chains.{AreBelowEarlier, HasChain, IsBelowEarlier, StandsIn, IsChain, IsLinked, below, below_none, below_one, by_id, chain_after, chain_below, chain_of, chains_after, greatest, longer, supertype_in}
use Rattle.wasmparser_type_list.specs.TypeTables.{TablesAgree, TypeTables, sub_types, supertype_at}
use Rattle.wasmparser_type_relations.proofs.ChainLaws.{is_below, no_chain_is_empty, up_to_ids}
use Rattle.wasmparser_type_list.proofs.TableLaws.{chains_count}

-- the chains so far stay
begins : (chains : List (Option (List ℕ))) (types : List (SubType Index)) → (more : List (Option (List ℕ))) × (chains_after chains types ≡ chains ++ more)
begins chains [] = ([], sym (append-nil chains))
begins chains (type ∷ types) =
    let next = chain_after chains type in
    let rest = begins (chains ++ next ∷ []) types in
    (next ∷ rest.0, rest.1 ∙ append_assoc chains (next ∷ []) rest.0)

-- the chain of a type, among those before it
pub record IsPlaced (all : List (Option (List ℕ))) (n : ℕ) (type : SubType Index) : Type 0 where
  pub front : List (Option (List ℕ))
  pub back : List (Option (List ℕ))
  pub is : all ≡ front ++ chain_after front type ∷ back
  pub count : length front ≡ n

placed : (chains : List (Option (List ℕ))) (types : List (SubType Index)) (n : ℕ) (type : SubType Index) → slice_get types n ≡ Some type
    → IsPlaced (chains_after chains types) (length chains + n) type
placed chains [] n type e = absurd cc
placed chains (first ∷ types) zero type e =
    let one : first ≡ type = cc in
    let next = chain_after chains first in
    let rest = begins (chains ++ next ∷ []) types in
    record {
      front = chains;
      back = rest.0;
      is = rest.1 ∙ append_assoc chains (next ∷ []) rest.0 ∙ ap (λ q. chains ++ chain_after chains q ∷ rest.0) one;
      count = omega arith;
    }
placed chains (first ∷ types) (suc n) type e =
    let next = chain_after chains first in
    let more = placed (chains ++ next ∷ []) types n type e in
    record {
      front = more.front;
      back = more.back;
      is = more.is;
      count = omega (arith, more.count, length-append chains (next ∷ []));
    }

module _ (types : List (SubType Index)) (earlier : AreBelowEarlier (slice_get types)) where
  abbrev all : List (Option (List ℕ))
  all = chains_after [] types

  abbrev type_at : ℕ → Option (SubType Index)
  type_at = slice_get types

  here : (n : ℕ) (type : SubType Index) (it : IsPlaced all n type) → slice_get all n ≡ Some (chain_after it.front type)
  here n type it = ap (λ q. slice_get q n) it.is ∙ ap (slice_get (it.front ++ chain_after it.front type ∷ it.back)) (sym it.count) ∙ seam it.front (chain_after it.front type) it.back where
    seam : {X : Type 0} (xs : List X) (y : X) (ys : List X) → slice_get (xs ++ y ∷ ys) (length xs) ≡ Some y
    seam [] y ys = refl
    seam (x ∷ xs) y ys = seam xs y ys

  placed_at : (n : ℕ) (type : SubType Index) → type_at n ≡ Some type → IsPlaced all n type
  placed_at n type e = let k : 0 + n ≡ n = omega arith in subst (λ q. IsPlaced all q type) k (placed [] types n type e)

  -- the chain of a type without a supertype, and of one with a supertype
  pub alone : (n : ℕ) (type : SubType Index) → type_at n ≡ Some type → type.supertypes ≡ [] → slice_get all n ≡ Some (Some (n ∷ []))
  alone n type e none =
      let it = placed_at n type e in
      here n type it ∙ ap (λ s. Some (chain_below it.front (supertype_in s))) none ∙ ap (λ k. Some (Some (k ∷ []))) it.count

  pub under : (n t : ℕ) (type : SubType Index) → type_at n ≡ Some type → type.supertypes ≡ Id t ∷ [] → t < n → slice_get all n ≡ Some (longer (chain_of (slice_get all t)) n)
  under n t type e one lower =
      let it = placed_at n type e in
      let before : slice_get it.front t ≡ slice_get all t =
      sym (ap (λ q. slice_get q t) it.is ∙ get_left it.front (chain_after it.front type ∷ it.back) t (omega (arith, lower, it.count))) in
      here n type it ∙ ap (λ s. Some (chain_below it.front (supertype_in s))) one ∙ ap (λ q. Some (longer (chain_of q) (length it.front))) before
      ∙ ap (λ k. Some (longer (chain_of (slice_get all t)) k)) it.count

  -- ---- links

  declares : (n u : ℕ) (type : SubType Index) → type_at n ≡ Some type → IsLinked type_at n u → Contains type.supertypes (Id u)
  declares n u type e link =
      let one : link.declared.type ≡ type = let is = link.declared.is in cc in
      subst (λ (s : SubType Index). Contains s.supertypes (Id u)) one link.declared.among

  only_none : (n : ℕ) (type : SubType Index) → type_at n ≡ Some type → type.supertypes ≡ [] → (t : ℕ) → ¬ (IsLinked type_at n t)
  only_none n type e none t link = contains_none (Id t) (subst (λ (s : List Index). Contains s (Id t)) none (declares n t type e link))

  only_one : (n t : ℕ) (type : SubType Index) → type_at n ≡ Some type → type.supertypes ≡ Id t ∷ [] → (u : ℕ) → IsLinked type_at n u → u ≡ t
  only_one n t type e one u link = go (contains_cases (Id u) (Id t) [] (subst (λ (s : List Index). Contains s (Id u)) one (declares n u type e link))) where
    go : (Id t ≡ Id u) ⊎ Contains [] (Id u) → u ≡ t
    go (inl first) = cc
    go (inr none) = absurd (contains_none (Id u) none)

  linked : (n t : ℕ) (type : SubType Index) → type_at n ≡ Some type → type.supertypes ≡ Id t ∷ [] → IsOfKind (by_id type_at) (Id t) (abstract_of type.composite_type) → IsLinked type_at n t
  linked n t type e one kind = record {
    declared = record { type = type; is = e; among = subst (λ (s : List Index). Contains s (Id t)) (sym one) (contains_first (Id t) []) };
    kind = kind;
  }

  -- what a longer chain was made of
  shorter : (chain : Option (List ℕ)) (n : ℕ) (c : List ℕ) → longer chain n ≡ Some c → (d : List ℕ) × (chain ≡ Some d) × (d ++ n ∷ [] ≡ c)
  shorter None n c e = absurd cc
  shorter (Some d) n c e = go (nat_lt (length d) 64) e where
    go : (b : Bool) → (if b then Some (d ++ n ∷ []) else None) ≡ Some c → (d' : List ℕ) × (Some d ≡ Some d') × (d' ++ n ∷ [] ≡ c)
    go true p = (d, refl, cc)
    go false p = absurd cc

  kept : (o : Option (Option (List ℕ))) (d : List ℕ) → chain_of o ≡ Some d → o ≡ Some (Some d)
  kept None d e = absurd cc
  kept (Some chain) d e = ap Some e

  -- what stands above a type with a chain: nothing, or a type with the chain before
  pub data Above (n : ℕ) (c : List ℕ) : Type 0 where
    nothing_above : ((t : ℕ) → ¬ (IsLinked type_at n t)) → n ∷ [] ≡ c → Above n c
    one_above : (t : ℕ) (d : List ℕ) → t < n → slice_get all t ≡ Some (Some d) → d ++ n ∷ [] ≡ c → IsLinked type_at n t → ((u : ℕ) → IsLinked type_at n u → u ≡ t) → Above n c

  above : (n : ℕ) (c : List ℕ) → slice_get all n ≡ Some (Some c) → Above n c
  above n c e =
      let count = chains_count [] types in
      let known = slice_get_within all n (Some c) e in
      let at = get_some types n (omega (arith, known, count)) in
      go at.0 at.1 (earlier n at.0 at.1) where
        go : (type : SubType Index) → type_at n ≡ Some type → IsBelowEarlier type_at n type → Above n c
        go type is (below_none none) = let one = alone n type is none in nothing_above (only_none n type is none) cc
        go type is (below_one t one lower kind) =
            let long : longer (chain_of (slice_get all t)) n ≡ Some c = let u = under n t type is one lower in cc in
            let made = shorter (chain_of (slice_get all t)) n c long in
            one_above t made.0 lower (kept (slice_get all t) made.0 made.1) made.2 (linked n t type is one kind) (only_one n t type is one)

  pub is_chain : (k n : ℕ) → n < k → (c : List ℕ) → slice_get all n ≡ Some (Some c) → IsChain type_at c n
  is_chain zero n lt c e = absurd (omega (arith, lt))
  is_chain (suc k) n lt c e = go (λ t lower d is. is_chain k t (omega (arith, lower, lt)) d is) (above n c e) where
    go : ((t : ℕ) → t < n → (d : List ℕ) → slice_get all t ≡ Some (Some d) → IsChain type_at d t) → Above n c → IsChain type_at c n
    go rest (nothing_above none is) = subst (λ q. IsChain type_at q n) is (greatest n none)
    go rest (one_above t d lower has is link only) = subst (λ q. IsChain type_at q n) is (below (rest t lower d has) n link only)

  -- the chain of a known type is kept, unless it is too long
  pub is_kept : {c : List ℕ} {n : ℕ} → IsChain type_at c n → (type : SubType Index) → type_at n ≡ Some type → length c ≤ 64 → slice_get all n ≡ Some (Some c)
  is_kept (greatest n none) type is short = go (earlier n type is) where
    go : IsBelowEarlier type_at n type → slice_get all n ≡ Some (Some (n ∷ []))
    go (below_none empty) = alone n type is empty
    go (below_one t one lower kind) = absurd (none t (linked n t type is one kind))
  is_kept (below {chain} {t} higher n link only) type is short = go (is_kept higher link.kind.type link.kind.is (omega (arith, short, count))) (earlier n type is) where
    count : length (chain ++ n ∷ []) ≡ length chain + 1
    count = length-append chain (n ∷ [])

    fits : nat_lt (length chain) 64 ≡ true
    fits = lt-ltb (length chain) 64 (omega (arith, short, count))

    go : slice_get all t ≡ Some (Some chain) → IsBelowEarlier type_at n type → slice_get all n ≡ Some (Some (chain ++ n ∷ []))
    go has (below_none empty) = absurd (only_none n type is empty t link)
    go has (below_one u one lower kind) =
        let same_id : t ≡ u = only_one n u type is one t link in
        under n u type is one lower ∙ ap (λ k. Some (longer (chain_of (slice_get all k)) n)) (sym same_id) ∙ ap (λ q. Some (longer (chain_of q) n)) has
        ∙ ap (λ (b : Bool). Some (if b then Some (chain ++ n ∷ []) else None)) fits

  -- what is above a type with a chain has one
  has_chain : {n b : ℕ} → Closure (IsLinked type_at) n b → (c : List ℕ) → slice_get all n ≡ Some (Some c) → (d : List ℕ) × (slice_get all b ≡ Some (Some d))
  has_chain same c e = (c, e)
  has_chain {n} {b} (step {y} link path) c e = go (λ d is. has_chain path d is) (above n c e) where
    go : ((d : List ℕ) → slice_get all y ≡ Some (Some d) → (d' : List ℕ) × (slice_get all b ≡ Some (Some d'))) → Above n c → (d : List ℕ) × (slice_get all b ≡ Some (Some d))
    go rest (nothing_above none is) = absurd (none y link)
    go rest (one_above t d lower has is up only) = rest d (ap (slice_get all) (only y link) ∙ has)

  -- ---- a walk upward

  -- two types with chains: the upper one stands in the chain of the lower one, at the place of its own depth
  pub in_chain : (n m k : ℕ) (c d : List ℕ) → slice_get all n ≡ Some (Some c) → slice_get all m ≡ Some (Some d) → length d ≡ suc k
      → (slice_get c k ≡ Some m) ↔ HeapBelow (by_id type_at) (Concrete (Id n)) (Concrete (Id m))
  in_chain n m k c d is of depth = is_below type_at (is_chain (suc n) n (omega arith) c is) (is_chain (suc m) m (omega arith) d of) depth

  to_links : (n m : ℕ) → HeapBelow (by_id type_at) (Concrete (Id n)) (Concrete (Id m)) → Closure (IsLinked type_at) n m
  to_links n m h = up_to_ids type_at (complete (by_id type_at) {a = Concrete (Id n)} {b = Concrete (Id m)} h) n m refl refl

  pub not_in_chain : (n m : ℕ) (c : List ℕ) → slice_get all n ≡ Some (Some c) → chain_of (slice_get all m) ≡ None → ¬ (HeapBelow (by_id type_at) (Concrete (Id n)) (Concrete (Id m)))
  not_in_chain n m c is none h =
      let has = has_chain (to_links n m h) c is in
      let some : chain_of (slice_get all m) ≡ Some has.0 = ap chain_of has.1 in absurd cc

  -- what is above a type is the type itself, or above its supertype
  pub past : (n t m : ℕ) (type : SubType Index) → type_at n ≡ Some type → supertype_in type.supertypes ≡ Some t → n ≢ m
      → HeapBelow (by_id type_at) (Concrete (Id n)) (Concrete (Id m)) ↔ HeapBelow (by_id type_at) (Concrete (Id t)) (Concrete (Id m))
  past n t m type is up differs = go (earlier n type is) where
    first : {k : ℕ} → Closure (IsLinked type_at) k m → ((v : ℕ) → IsLinked type_at n v → v ≡ t) → k ≡ n → Closure (IsLinked type_at) t m
    first same only e = absurd (differs (sym e))
    first (step {y} link path) only e = subst (λ q. Closure (IsLinked type_at) q m) (only y (subst (λ q. IsLinked type_at q y) e link)) path

    go : IsBelowEarlier type_at n type → HeapBelow (by_id type_at) (Concrete (Id n)) (Concrete (Id m)) ↔ HeapBelow (by_id type_at) (Concrete (Id t)) (Concrete (Id m))
    go (below_none none) = absurd (let no_id = ap supertype_in none in cc)
    go (below_one u one lower kind) =
        let same_id : u ≡ t = let e = ap supertype_in one in cc in
        let link = subst (λ q. IsLinked type_at n q) same_id (linked n u type is one kind) in (
          (λ h. sound (by_id type_at) (Concrete (Id t)) (Concrete (Id m)) (mapped Id (λ x y l. l) (first (to_links n m h) (λ v l. only_one n u type is one v l ∙ same_id) refl))),
          (λ h. sound (by_id type_at) (Concrete (Id n)) (Concrete (Id m)) (mapped Id (λ x y l. l) (step link (to_links t m h)))),
        )

  pub at_top : (n m : ℕ) (type : SubType Index) → type_at n ≡ Some type → supertype_in type.supertypes ≡ None → n ≢ m → ¬ (HeapBelow (by_id type_at) (Concrete (Id n)) (Concrete (Id m)))
  at_top n m type is none differs h = go (earlier n type is) where
    ends : {k : ℕ} → Closure (IsLinked type_at) k m → k ≡ n → ((v : ℕ) → ¬ (IsLinked type_at n v)) → ⊥
    ends same e no_link = differs (sym e)
    ends (step {y} link path) e no_link = no_link y (subst (λ q. IsLinked type_at q y) e link)

    go : IsBelowEarlier type_at n type → ⊥
    go (below_none empty) = ends (to_links n m h) refl (only_none n type is empty)
    go (below_one u one lower kind) = absurd (let e = ap supertype_in one in cc)

  -- an unknown id is below itself alone
  pub unknown : (n m : ℕ) → type_at n ≡ None → n ≢ m → ¬ (HeapBelow (by_id type_at) (Concrete (Id n)) (Concrete (Id m)))
  unknown n m is differs h = ends (to_links n m h) refl where
    ends : {k : ℕ} → Closure (IsLinked type_at) k m → k ≡ n → ⊥
    ends same e = differs (sym e)
    ends (step {y} link path) e = let at = (subst (λ q. IsLinked type_at q y) e link).declared.is in cc

  -- a supertype is earlier
  pub lower : (n t : ℕ) (type : SubType Index) → type_at n ≡ Some type → supertype_in type.supertypes ≡ Some t → t < n
  lower n t type is up = go (earlier n type is) where
    go : IsBelowEarlier type_at n type → t < n
    go (below_none none) = absurd (let no_id = ap supertype_in none in cc)
    go (below_one u one less kind) = let same_id : u ≡ t = let e = ap supertype_in one in cc in omega (arith, less, same_id)

-- ---- what the tables of a list tell of subtyping

module _ (tables : TypeTables) (agree : TablesAgree tables) (earlier : AreBelowEarlier (slice_get (sub_types tables))) where
  abbrev Below : ℕ → ℕ → Type 0
  Below n m = HeapBelow (by_id (slice_get (sub_types tables))) (Concrete (Id n)) (Concrete (Id m))

  -- whether a type stands in the chain of another one
  pub chain_tells : (n m : ℕ) (c : List ℕ) → chain_of (slice_get tables.chains n) ≡ Some c → StandsIn (chain_of (slice_get tables.chains m)) c m ↔ Below n m
  chain_tells n m c e = go (chain_of (slice_get tables.chains m)) refl where
    all_are : tables.chains ≡ chains_after [] (sub_types tables)
    all_are = agree.chains

    is : slice_get (chains_after [] (sub_types tables)) n ≡ Some (Some c)
    is = kept _ earlier (slice_get (chains_after [] (sub_types tables)) n) c (ap (λ q. chain_of (slice_get q n)) (sym all_are) ∙ e)

    go : (own : Option (List ℕ)) → chain_of (slice_get tables.chains m) ≡ own → StandsIn own c m ↔ Below n m
    go None none = ((λ h. absurd h), (λ h. absurd (not_in_chain (sub_types tables) earlier n m c is (ap (λ q. chain_of (slice_get q m)) (sym all_are) ∙ none) h)))
    go (Some []) some =
        let has = kept _ earlier (slice_get (chains_after [] (sub_types tables)) m) [] (ap (λ q. chain_of (slice_get q m)) (sym all_are) ∙ some) in
        absurd (no_chain_is_empty _ (is_chain (sub_types tables) earlier (suc m) m (omega arith) [] has) refl)
    go (Some (first ∷ d)) some =
        let has = kept _ earlier (slice_get (chains_after [] (sub_types tables)) m) (first ∷ d) (ap (λ q. chain_of (slice_get q m)) (sym all_are) ∙ some) in
        let law = in_chain (sub_types tables) earlier n m (length d) c (first ∷ d) is has refl in (
          (λ h. law.0 (let k : h.0 ≡ length d = omega (arith, h.1) in subst (λ q. slice_get c q ≡ Some m) k h.2)),
          (λ h. (length d, refl, law.1 h)),
        )

  all_chains_are : tables.chains ≡ chains_after [] (sub_types tables)
  all_chains_are = agree.chains

  -- what is kept is a chain, and the chain of each type that has one is kept
  pub kept_is_chain : (n : ℕ) (c : List ℕ) → chain_of (slice_get tables.chains n) ≡ Some c → IsChain (slice_get (sub_types tables)) c n
  kept_is_chain n c e =
      let is = kept _ earlier (slice_get (chains_after [] (sub_types tables)) n) c (ap (λ q. chain_of (slice_get q n)) (sym all_chains_are) ∙ e) in
      is_chain (sub_types tables) earlier (suc n) n (omega arith) c is

  pub chain_is_kept : (n : ℕ) (has : HasChain (slice_get (sub_types tables)) n) → chain_of (slice_get tables.chains n) ≡ Some has.chain
  chain_is_kept n has =
      ap (λ q. chain_of (slice_get q n)) all_chains_are ∙ ap chain_of (is_kept (sub_types tables) earlier has.is_chain has.type has.known has.within)

  pub told_chain : (n : ℕ) (has : HasChain (slice_get (sub_types tables)) n) (c : List ℕ) → chain_of (slice_get tables.chains n) ≡ Some c → has.chain ≡ c
  told_chain n has c e = let kept_one = chain_is_kept n has in cc

  pub up : (n t m : ℕ) → supertype_at tables n ≡ Some t → n ≢ m → (t < n) × (Below n m ↔ Below t m)
  up n t m e differs = go (slice_get (sub_types tables) n) refl e where
    go : (o : Option (SubType Index)) → slice_get (sub_types tables) n ≡ o → option_and_then (λ (type : SubType Index). supertype_in type.supertypes) o ≡ Some t
        → (t < n) × (Below n m ↔ Below t m)
    go None is has = absurd cc
    go (Some type) is has = (lower (sub_types tables) earlier n t type is has, past (sub_types tables) earlier n t m type is has differs)

  pub top : (n m : ℕ) → supertype_at tables n ≡ None → n ≢ m → ¬ (Below n m)
  top n m e differs = go (slice_get (sub_types tables) n) refl e where
    go : (o : Option (SubType Index)) → slice_get (sub_types tables) n ≡ o → option_and_then (λ (type : SubType Index). supertype_in type.supertypes) o ≡ None → ¬ (Below n m)
    go (Some type) is none = at_top (sub_types tables) earlier n m type is none differs
    go None is none = unknown (sub_types tables) earlier n m is differs
