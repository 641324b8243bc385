-- Depth of types, and limits on them.
use Rattle.std.proofs.Common.{◌≡◌, ℕ, suc, ◌<◌, ◌≤◌, ◌↔◌, List, [], ◌∷◌, refl, sym, arith, inl, inr, subst, Option, Some}
use Rattle.std.specs.List.{Contains}
use Rattle.wasm_spec.specs.Groups.{Links, no_link, one_more, HasDepth, items_in, PassesLimit, many_items, many_links}
use Rattle.wasm_spec.specs.Limits.{Limit, Depth, most, IsPassedBy}
use Rattle.wasm_spec.specs.Subtyping.{Declared}
use Rattle.wasm_spec.specs.Types.{CompositeType, FuncComposite, StructComposite, ArrayComposite, ContComposite, SubType}
use Rattle.wasm_spec.proofs.Closures.{same_defined}
use Rattle.wasm_spec.proofs.Elements.{contains_first, contains_cases, contains_none}

no_items_of_depth : {R : Type 0} (c : CompositeType R) → items_in c Depth ≡ 0
no_items_of_depth (FuncComposite type) = refl
no_items_of_depth (StructComposite fields) = refl
no_items_of_depth (ArrayComposite field) = refl
no_items_of_depth (ContComposite function) = refl

module _ {R : Type 0} (sub_at : R → Option (SubType R)) where
  supertype_among : (r t : R) (type : SubType R) → sub_at r ≡ Some type → Declared sub_at r t → Contains type.supertypes t
  supertype_among r t type e d =
      let one : d.type ≡ type = same_defined sub_at r d.type type d.is e in
      let P : SubType R → Type 0 = λ s. Contains s.supertypes t in
      subst P one d.among

  -- links that are none, or go on from a declared supertype
  data FirstOf (m : ℕ) (r t : R) : Type 0 where
    nothing : m ≡ 0 → FirstOf m r t
    first : (n : ℕ) (s : R) → m ≡ suc n → Declared sub_at r s → Links sub_at n s t → FirstOf m r t

  first_of : {m : ℕ} {r t : R} → Links sub_at m r t → FirstOf m r t
  first_of no_link = nothing refl
  first_of (one_more {n} {r} {s} {t} d more) = first n s refl d more

  pub depth_zero : (r : R) (type : SubType R) → sub_at r ≡ Some type → type.supertypes ≡ [] → HasDepth sub_at r 0
  depth_zero r type e none = record {
    top = r;
    reached = no_link;
    most = λ m t links. elim (first_of links) [
      | nothing is ↦ omega (arith, is)
      | first n s is d more ↦
          let P : List R → Type 0 = λ ts. Contains ts s in
          let empty : Contains [] s = subst P none (supertype_among r s type e d) in
          absurd (contains_none s empty)
    ];
  }

  pub depth_suc : (r t : R) (type : SubType R) (n : ℕ) → sub_at r ≡ Some type → type.supertypes ≡ t ∷ [] → HasDepth sub_at t n → HasDepth sub_at r (suc n)
  depth_suc r t type n e one d =
      let P : List R → Type 0 = λ ts. Contains ts t in
      let link : Declared sub_at r t = record { type = type; is = e; among = subst P (sym one) (contains_first t []) } in
      record {
        top = d.top;
        reached = one_more link d.reached;
        most = λ m u links. elim (first_of links) [
          | nothing is ↦ omega (arith, is)
          | first k s is l more ↦
              let Q : List R → Type 0 = λ ts. Contains ts s in
              let among : Contains (t ∷ []) s = subst Q one (supertype_among r s type e l) in
              elim (contains_cases s t [] among) [
                | inl same ↦
                    let L : R → Type 0 = λ q. Links sub_at k q u in
                    let below = d.most k u (subst L (sym same) more) in
                    omega (arith, is, below)
                | inr other ↦ absurd (contains_none s other)
              ]
        ];
      }

  -- a limit is passed by items, or is that of depth and is passed by links
  data PassedBy (r : R) (limit : Limit) : Type 0 where
    by_items : (type : SubType R) → sub_at r ≡ Some type → IsPassedBy limit (items_in type.composite_type limit) → PassedBy r limit
    by_links : (n : ℕ) (t : R) → limit ≡ Depth → Links sub_at n r t → IsPassedBy Depth n → PassedBy r limit

  passed_by : {r : R} {limit : Limit} → PassesLimit sub_at r limit → PassedBy r limit
  passed_by (many_items {limit} d) = by_items d.type d.is d.holds
  passed_by (many_links {n} {t} links passed) = by_links n t refl links passed

  pub depth_passed : (r : R) (n : ℕ) → HasDepth sub_at r n → PassesLimit sub_at r Depth ↔ (63 < n)
  depth_passed r n d = (
    λ p. elim (passed_by p) [
      | by_items type is h ↦
          let none = no_items_of_depth type.composite_type in
          let h' : 63 < items_in type.composite_type Depth = h in
          absurd (omega (arith, none, h'))
      | by_links m t is links passed ↦
          let h : 63 < m = passed in omega (arith, h, d.most m t links)
    ],
    λ h. many_links d.reached h,
  )

  pub items_passed : (r : R) (type : SubType R) (limit : Limit) → sub_at r ≡ Some type → (limit ≡ Depth → ⊥) → PassesLimit sub_at r limit ↔ IsPassedBy limit (items_in type.composite_type limit)
  items_passed r type limit e other = (
    λ p. elim (passed_by p) [
      | by_items s is h ↦
          let one : s ≡ type = same_defined sub_at r s type is e in
          let P : SubType R → Type 0 = λ q. IsPassedBy limit (items_in q.composite_type limit) in
          subst P one h
      | by_links m t is links passed ↦ absurd (other is)
    ],
    λ h. many_items (record { type = type; is = e; holds = h }),
  )

  pub items_as : (r : R) (type : SubType R) (limit : Limit) (c : CompositeType R) → sub_at r ≡ Some type → type.composite_type ≡ c → (limit ≡ Depth → ⊥) → PassesLimit sub_at r limit ↔ IsPassedBy limit (items_in c limit)
  items_as r type limit c e is other =
      let P : CompositeType R → Type 0 = λ q. PassesLimit sub_at r limit ↔ IsPassedBy limit (items_in q limit) in
      subst P is (items_passed r type limit e other)

  -- a type that is not deep and has few items passes no limit
  pub passes_none : (r : R) (type : SubType R) (n : ℕ) → sub_at r ≡ Some type → HasDepth sub_at r n → n ≤ 63 → ((limit : Limit) → items_in type.composite_type limit ≤ most limit) → (limit : Limit) → PassesLimit sub_at r limit → ⊥
  passes_none r type n e d h few limit p = elim (passed_by p) [
    | by_items s is more ↦
        let one : s ≡ type = same_defined sub_at r s type is e in
        let P : SubType R → Type 0 = λ q. IsPassedBy limit (items_in q.composite_type limit) in
        let more' : most limit < items_in type.composite_type limit = subst P one more in
        absurd (omega (arith, few limit, more'))
    | by_links m t is links passed ↦
        let more : 63 < m = passed in absurd (omega (arith, more, h, d.most m t links))
  ]
