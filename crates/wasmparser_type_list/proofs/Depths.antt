-- A chain is kept exactly for types with at most 63 supertypes.
use Rattle.std.proofs.Common.{◌≡◌, ℕ, zero, suc, ◌<◌, ◌≤◌, Bool, true, false, List, [], ◌∷◌, ◌++◌, length, slice_get, Option, Some, None, nat_lt, if◌then◌else◌, refl, sym, ap, ◌∙◌, subst, arith, ◌⊎◌, inl, inr}
use Rattle.std.proofs.lemmas.Bool.{ltb-false, ltb-true}
use Rattle.std.proofs.lemmas.List.{length-append, length-map}
use Rattle.std.proofs.lemmas.Option.{slice_get_within}
use Rattle.std.specs.List.{Contains}
use Rattle.wasm_spec.proofs.Elements.{contains_cases, contains_first, contains_none}
use Rattle.wasm_spec.proofs.Places.{get_some}
use Rattle.wasm_spec.specs.Groups.{Links, PassesLimit, many_links, no_link, one_more}
use Rattle.wasm_spec.specs.Limits.{Depth}
use Rattle.wasm_spec.specs.Subtyping.{Declared}
use Rattle.wasm_spec.specs.Types.{SubType}
use Rattle.wasmparser_type_relations.specs.Chains.{AreBelowEarlier, IsBelowEarlier, below_none, below_one, by_id, chain_of, chains_after, longer}
use Rattle.wasmparser_type_list.specs.TypeTables.{TablesAgree, TypeTables, sub_types, type_by_id}
use Rattle.wasmparser_type_list.proofs.ChainsOfTypes.{alone, under}
use Rattle.wasmparser_type_list.proofs.TableLaws.{chains_count}
use Rattle.wasmparser_types.specs.Index.{Index, Id}
use Rattle.wasmparser_types.specs.SubTypes.{sub_type}

module _ (types : List (SubType Index)) (earlier : AreBelowEarlier (slice_get types)) where
  abbrev all : List (Option (List ℕ))
  all = chains_after [] types

  abbrev Above : ℕ → ℕ → Index → Type 0
  Above m n t = Links (by_id (slice_get types)) m (Id n) t

  declared_none : (n : ℕ) (type : SubType Index) → slice_get types n ≡ Some type → type.supertypes ≡ [] → (s : Index) → ¬ (Declared (by_id (slice_get types)) (Id n) s)
  declared_none n type e none s d =
      let one : d.type ≡ type = let is = d.is in cc in
      contains_none s (subst (λ (q : List Index). Contains q s) none (subst (λ (x : SubType Index). Contains x.supertypes s) one d.among))

  declared_one : (n t : ℕ) (type : SubType Index) → slice_get types n ≡ Some type → type.supertypes ≡ Id t ∷ [] → (s : Index) → Declared (by_id (slice_get types)) (Id n) s → s ≡ Id t
  declared_one n t type e is s d = go (contains_cases s (Id t) [] (subst (λ (q : List Index). Contains q s) is (subst (λ (x : SubType Index). Contains x.supertypes s) one d.among))) where
    one : d.type ≡ type
    one = let at = d.is in cc

    go : (Id t ≡ s) ⊎ Contains [] s → s ≡ Id t
    go (inl first) = sym first
    go (inr none) = absurd (contains_none s none)

  declares : (n t : ℕ) (type : SubType Index) → slice_get types n ≡ Some type → type.supertypes ≡ Id t ∷ [] → Declared (by_id (slice_get types)) (Id n) (Id t)
  declares n t type e is = record { type = type; is = e; among = subst (λ (q : List Index). Contains q (Id t)) (sym is) (contains_first (Id t) []) }

  -- what a longer chain was made of
  shorter : (chain : Option (List ℕ)) (n : ℕ) (c : List ℕ) → longer chain n ≡ Some c → (d : List ℕ) × (chain ≡ Some d) × (length d < 64) × (length c ≡ suc (length d))
  shorter None n c e = absurd cc
  shorter (Some d) n c e = go (nat_lt (length d) 64) refl e where
    go : (b : Bool) → nat_lt (length d) 64 ≡ b → (if b then Some (d ++ n ∷ []) else None) ≡ Some c → (d' : List ℕ) × (Some d ≡ Some d') × (length d' < 64) × (length c ≡ suc (length d'))
    go true small p = let is : d ++ n ∷ [] ≡ c = cc in (d, refl, ltb-true (length d) 64 small, omega (arith, ap length is, length-append d (n ∷ [])))
    go false small p = absurd cc

  kept : (o : Option (Option (List ℕ))) (d : List ℕ) → chain_of o ≡ Some d → o ≡ Some (Some d)
  kept None d e = absurd cc
  kept (Some chain) d e = ap Some e

  at : (n : ℕ) (c : Option (List ℕ)) → slice_get all n ≡ Some c → (type : SubType Index) × (slice_get types n ≡ Some type)
  at n c e = let known = slice_get_within all n c e in get_some types n (omega (arith, known, chains_count [] types))

  -- no link leads upward from a type without supertypes, and from another one the first leads to its supertype
  none_up : (n m : ℕ) (t : Index) (type : SubType Index) → slice_get types n ≡ Some type → type.supertypes ≡ [] → {r : Index} → Links (by_id (slice_get types)) m r t → r ≡ Id n → m ≡ 0
  none_up n m t type is none no_link r_is = refl
  none_up i m top type is none (one_more {n} {r} {s} {t} d more) r_is = absurd (declared_none _ type is none s (subst (λ q. Declared (by_id (slice_get types)) q s) r_is d))

  first_up : (n s m : ℕ) (t : Index) (type : SubType Index) → slice_get types n ≡ Some type → type.supertypes ≡ Id s ∷ [] → {r : Index} → Links (by_id (slice_get types)) m r t → r ≡ Id n
      → (m ≡ 0) ⊎ ((k : ℕ) × (m ≡ suc k) × Above k s t)
  first_up n s m t type is one no_link r_is = inl refl
  first_up i j m top type is one (one_more {n} {r} {s} {t} d more) r_is =
      let next : s ≡ Id j = declared_one i j type is one s (subst (λ q. Declared (by_id (slice_get types)) q s) r_is d) in
      inr (n, refl, subst (λ q. Links (by_id (slice_get types)) n q top) next more)

  -- links upward are fewer than the chain is long
  fewer : (k n m : ℕ) (c : List ℕ) (t : Index) → n < k → slice_get all n ≡ Some (Some c) → Above m n t → (m < length c) × (length c ≤ 64)
  fewer zero n m c t lt e links = absurd (omega (arith, lt))
  fewer (suc k) n m c t lt e links =
      let it = at n (Some c) e in
      go (λ s j d lower has more. fewer k s j d t (omega (arith, lower, lt)) has more) it.0 it.1 (earlier n it.0 it.1) where
        go : ((s j : ℕ) (d : List ℕ) → s < n → slice_get all s ≡ Some (Some d) → Above j s t → (j < length d) × (length d ≤ 64))
            → (type : SubType Index) → slice_get types n ≡ Some type → IsBelowEarlier (slice_get types) n type → (m < length c) × (length c ≤ 64)
        go rest type is (below_none none) =
            let chain : c ≡ n ∷ [] = let lone = alone types earlier n type is none in cc in
            let no_links = none_up n m t type is none links refl in
            (omega (arith, ap length chain, no_links), omega (arith, ap length chain))
        go rest type is (below_one s one lower kind) =
            let long : longer (chain_of (slice_get all s)) n ≡ Some c = let u = under types earlier n s type is one lower in cc in
            let made = shorter (chain_of (slice_get all s)) n c long in
            (each (first_up n s m t type is one links refl), omega (arith, made.2, made.3)) where
              each : (m ≡ 0) ⊎ ((j : ℕ) × (m ≡ suc j) × Above j s t) → m < length c
              each (inl zero_is) = omega (arith, zero_is, (shorter (chain_of (slice_get all s)) n c (let u = under types earlier n s type is one lower in cc)).3)
              each (inr more) =
                  let made = shorter (chain_of (slice_get all s)) n c (let u = under types earlier n s type is one lower in cc) in
                  let far = rest s more.0 made.0 lower (kept (slice_get all s) made.0 made.1) more.2 in
                  omega (arith, more.1, far.0, made.3)

  -- a chain is as long as links lead upward, and one more
  as_many : (k n : ℕ) (c : List ℕ) → n < k → slice_get all n ≡ Some (Some c) → (m : ℕ) × (t : Index) × Above m n t × (suc m ≡ length c)
  as_many zero n c lt e = absurd (omega (arith, lt))
  as_many (suc k) n c lt e =
      let it = at n (Some c) e in
      go (λ s d lower has. as_many k s d (omega (arith, lower, lt)) has) it.0 it.1 (earlier n it.0 it.1) where
        go : ((s : ℕ) (d : List ℕ) → s < n → slice_get all s ≡ Some (Some d) → (m : ℕ) × (t : Index) × Above m s t × (suc m ≡ length d)) → (type : SubType Index) → slice_get types n ≡ Some type → IsBelowEarlier (slice_get types) n type → (m : ℕ) × (t : Index) × Above m n t × (suc m ≡ length c)
        go rest type is (below_none none) =
            let chain : c ≡ n ∷ [] = let lone = alone types earlier n type is none in cc in
            (0, Id n, no_link, omega (arith, ap length chain))
        go rest type is (below_one s one lower kind) =
            let long : longer (chain_of (slice_get all s)) n ≡ Some c = let u = under types earlier n s type is one lower in cc in
            let made = shorter (chain_of (slice_get all s)) n c long in
            let far = rest s made.0 lower (kept (slice_get all s) made.0 made.1) in
            (suc far.0, far.1, one_more (declares n s type is one) far.2, omega (arith, far.3, made.3))

  no_longer : (chain : Option (List ℕ)) (n : ℕ) → longer chain n ≡ None → (chain ≡ None) ⊎ ((d : List ℕ) × (chain ≡ Some d) × (64 ≤ length d))
  no_longer None n e = inl refl
  no_longer (Some d) n e = go (nat_lt (length d) 64) refl e where
    go : (b : Bool) → nat_lt (length d) 64 ≡ b → (if b then Some (d ++ n ∷ []) else None) ≡ None → (Some d ≡ None) ⊎ ((d' : List ℕ) × (Some d ≡ Some d') × (64 ≤ length d'))
    go true small p = absurd cc
    go false small p = inr (d, refl, omega (arith, ltb-false (length d) 64 small))

  -- without a chain more links lead upward than there may be
  many : (k n : ℕ) → n < k → n < length types → chain_of (slice_get all n) ≡ None → (m : ℕ) × (t : Index) × Above m n t × (63 < m)
  many zero n lt known e = absurd (omega (arith, lt))
  many (suc k) n lt known e =
      let it = get_some types n known in
      go (λ s lower none. many k s (omega (arith, lower, lt)) (omega (arith, lower, known)) none) it.0 it.1 (earlier n it.0 it.1) where
        go : ((s : ℕ) → s < n → chain_of (slice_get all s) ≡ None → (m : ℕ) × (t : Index) × Above m s t × (63 < m)) → (type : SubType Index) → slice_get types n ≡ Some type → IsBelowEarlier (slice_get types) n type → (m : ℕ) × (t : Index) × Above m n t × (63 < m)
        go rest type is (below_none none) = absurd (let lone = alone types earlier n type is none in let has = ap chain_of lone in cc)
        go rest type is (below_one s one lower kind) =
            up (no_longer (chain_of (slice_get all s)) n (let u = under types earlier n s type is one lower in sym (ap chain_of u) ∙ e)) where
              up : (chain_of (slice_get all s) ≡ None) ⊎ ((d : List ℕ) × (chain_of (slice_get all s) ≡ Some d) × (64 ≤ length d)) → (m : ℕ) × (t : Index) × Above m n t × (63 < m)
              up (inl none) =
                  let far = rest s lower none in
                  (suc far.0, far.1, one_more (declares n s type is one) far.2, omega (arith, far.3))
              up (inr some) =
                  let far = as_many (suc s) s some.0 (omega arith) (kept (slice_get all s) some.0 some.1) in
                  (suc far.0, far.1, one_more (declares n s type is one) far.2, omega (arith, far.3, some.2))

module _ (tables : TypeTables) (agree : TablesAgree tables) (earlier : AreBelowEarlier (slice_get (sub_types tables))) where
  pub within : (n m : ℕ) (c : List ℕ) (t : Index) → chain_of (slice_get tables.chains n) ≡ Some c → Links (type_by_id tables) m (Id n) t → m ≤ 63
  within n m c t e links =
      let is = kept (sub_types tables) earlier (slice_get (chains_after [] (sub_types tables)) n) c (ap (λ q. chain_of (slice_get q n)) (sym agree.chains) ∙ e) in
      let far = fewer (sub_types tables) earlier (suc n) n m c t (omega arith) is links in
      omega (arith, far.0, far.1)

  pub past : (n : ℕ) → n < length tables.types → chain_of (slice_get tables.chains n) ≡ None → PassesLimit (type_by_id tables) (Id n) Depth
  past n known e =
      let far = many (sub_types tables) earlier (suc n) n (omega arith) (omega (arith, known, length-map tables.types sub_type)) (ap (λ q. chain_of (slice_get q n)) (sym agree.chains) ∙ e) in
      many_links far.2 far.3
