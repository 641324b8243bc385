-- Type indexes by their ids: which stand for the same type, and have the same sub type.
use Rattle.std.proofs.Common.{◌≡◌, ◌<◌, ℕ, Bool, true, false, List, [], ◌∷◌, length, map, Some, slice_get, option_map, unwrap_or, refl, sym, ap, ◌∙◌, subst, arith}
use Rattle.std.proofs.lemmas.List.{length-map}
use Rattle.std.proofs.lemmas.Option.{slice_get-map, same_Some}
use Rattle.std.specs.List.{AllByRecursion}
use Rattle.wasm_spec.proofs.MappedTypes.{all_map}
use Rattle.wasm_spec.proofs.Places.{all_get, get_some}
use Rattle.wasm_spec.proofs.TypeMaps.{sub_map-sub_map, sub_map_agree, sub_refs-map}
use Rattle.wasm_spec.specs.Features.{Features, needs_type_canonicalization}
use Rattle.wasm_spec.specs.Trees.{AreDistinct, DefType, no_type, type_at, unrolled}
use Rattle.wasm_spec.specs.TypeReferences.{sub_map, sub_refs}
use Rattle.wasm_spec.specs.Types.{SubType}
use Rattle.wasmparser_types.specs.Index.{Index, Module, RecGroup, Id}
use Rattle.wasmparser_validator.proofs.OneToOne.{same_sub}
use Rattle.wasmparser_validator.specs.TypesById.{AreKnown, AreWritten, IsIdBelow, id_or, index_at, stands_for}

-- ---- lists

pub all_more : {X : Type 0} (P Q : X → Type 0) → ((x : X) → P x → Q x) → (xs : List X) → AllByRecursion P xs → AllByRecursion Q xs
all_more P Q step [] all = tt
all_more P Q step (x ∷ xs) all = (step x all.0, all_more P Q step xs all.1)

nil_before : {X Y : Type 0} (f : X → Y) (xs : List X) → map f xs ≡ [] → xs ≡ []
nil_before f [] e = refl
nil_before f (x ∷ xs) e = absurd cc

-- ---- ids

-- no two ids stand for one type
pub one_id : (interned : List DefType) → AreDistinct interned → (a b : Index) → IsIdBelow (length interned) a → IsIdBelow (length interned) b → stands_for interned a ≡ stands_for interned b → a ≡ b
one_id interned distinct (Id n) (Id m) within within' e =
    let (a, at) = get_some interned n within in
    let (b, at') = get_some interned m within' in
    let same : b ≡ a = sym (ap (λ q. unwrap_or q no_type) at') ∙ sym e ∙ ap (λ q. unwrap_or q no_type) at in
    ap Id (distinct n m a at (at' ∙ ap Some same))
one_id interned distinct (Module n) b within within' e = absurd within
one_id interned distinct (RecGroup n) b within within' e = absurd within
one_id interned distinct a (Module n) within within' e = absurd within'
one_id interned distinct a (RecGroup n) within within' e = absurd within'

module _ (features : Features) (types : List DefType) (ids : List ℕ) (interned : List DefType) (sub_types : List (SubType Index)) (known : AreKnown features types ids interned sub_types) where
  pub as_many : length ids ≡ length types
  as_many = sym (length-map ids (type_at interned)) ∙ ap length (sym known.stand)

  pub id_of : (index : ℕ) → index < length types → (id : ℕ) × (slice_get ids index ≡ Some id)
  id_of index h = get_some ids index (omega (arith, h, as_many))

  pub id_within : (index id : ℕ) → slice_get ids index ≡ Some id → id < length interned
  id_within index id e = all_get (λ it. it < length interned) ids known.within index id e

  pub index_is : (index id : ℕ) → slice_get ids index ≡ Some id → index_at ids index ≡ Id id
  index_is index id e = ap (id_or index) e

  -- a type index stands for what its id stands for
  pub type_is : (index id : ℕ) → slice_get ids index ≡ Some id → type_at types index ≡ type_at interned id
  type_is index id e =
      let at : slice_get types index ≡ Some (type_at interned id) = ap (λ ts. slice_get ts index) known.stand ∙ slice_get-map (type_at interned) ids index ∙ ap (option_map (type_at interned)) e in
      ap (λ q. unwrap_or q no_type) at

  pub index_stands : (index : ℕ) → index < length types → type_at types index ≡ stands_for interned (index_at ids index)
  index_stands index h = let (id, e) = id_of index h in type_is index id e ∙ ap (stands_for interned) (sym (index_is index id e))

  pub index_within : (index : ℕ) → index < length types → IsIdBelow (length interned) (index_at ids index)
  index_within index h = let (id, e) = id_of index h in subst (IsIdBelow (length interned)) (sym (index_is index id e)) (id_within index id e)

  -- ---- sub types

  module _ (written : List (SubType ℕ)) (are : AreWritten features types written) where
    -- what an id unrolls to is what is written, either way
    both_unroll : (index id : ℕ) (type : SubType ℕ) (sub : SubType Index) → slice_get written index ≡ Some type → slice_get ids index ≡ Some id → slice_get sub_types id ≡ Some sub
        → sub_map (stands_for interned) sub ≡ sub_map (stands_for interned) (sub_map (index_at ids) type)
    both_unroll index id type sub e at there =
        let one : sub_map (stands_for interned) sub ≡ sub_map (type_at types) type = same_Some _ _ (sym (known.unrolls id sub there) ∙ ap unrolled (sym (type_is index id at)) ∙ are.unrolls index type e) in
        let agree : sub_map (type_at types) type ≡ sub_map (λ r. stands_for interned (index_at ids r)) type =
        sub_map_agree no_type (type_at types) (λ r. stands_for interned (index_at ids r)) type
        (all_more (λ r. r < length types) (λ r. type_at types r ≡ stands_for interned (index_at ids r)) index_stands (sub_refs type) (are.refer index type e)) in
        one ∙ agree ∙ sym (sub_map-sub_map (stands_for interned) (index_at ids) type)

    refs_within : (index : ℕ) (type : SubType ℕ) → slice_get written index ≡ Some type → AllByRecursion (IsIdBelow (length interned)) (sub_refs (sub_map (index_at ids) type))
    refs_within index type e =
        subst (AllByRecursion (IsIdBelow (length interned))) (sym (sub_refs-map (index_at ids) type))
        (all_map (λ r. r < length types) (IsIdBelow (length interned)) (index_at ids) index_within (sub_refs type) (are.refer index type e))

    -- the sub type of an id is what is written at its index, by ids
    pub sub_is : (index id : ℕ) (type : SubType ℕ) (sub : SubType Index) → slice_get written index ≡ Some type → slice_get ids index ≡ Some id → slice_get sub_types id ≡ Some sub
        → sub ≡ sub_map (index_at ids) type
    sub_is index id type sub e at there = by_features (needs_type_canonicalization features) refl
      where
        by_features : (canonical : Bool) → needs_type_canonicalization features ≡ canonical → sub ≡ sub_map (index_at ids) type
        by_features true on =
            same_sub (stands_for interned) (IsIdBelow (length interned)) (one_id interned (known.distinct on)) (Id 0) sub (sub_map (index_at ids) type)
            (known.refer id sub there) (refs_within index type e) (both_unroll index id type sub e at there)
        by_features false off =
            let none : sub_refs (sub_map (index_at ids) type) ≡ [] = sub_refs-map (index_at ids) type ∙ ap (map (index_at ids)) (are.plain off index type e) in
            let before : map (stands_for interned) (sub_refs sub) ≡ [] =
            sym (sub_refs-map (stands_for interned) sub) ∙ ap sub_refs (both_unroll index id type sub e at there) ∙ sub_refs-map (stands_for interned) (sub_map (index_at ids) type) ∙ ap (map (stands_for interned)) none in
            same_sub (stands_for interned) (λ r. ⊥) (λ a b within within' same. absurd within) (Id 0) sub (sub_map (index_at ids) type)
            (subst (AllByRecursion (λ r. ⊥)) (sym (nil_before (stands_for interned) (sub_refs sub) before)) tt)
            (subst (AllByRecursion (λ r. ⊥)) (sym none) tt)
            (both_unroll index id type sub e at there)

    pub sub_at : (index id : ℕ) (type : SubType ℕ) → slice_get written index ≡ Some type → slice_get ids index ≡ Some id → slice_get sub_types id ≡ Some (sub_map (index_at ids) type)
    sub_at index id type e at =
        let less = id_within index id at in
        let (sub, there) = get_some sub_types id (omega (arith, less, known.count)) in
        there ∙ ap Some (sub_is index id type sub e at there)
