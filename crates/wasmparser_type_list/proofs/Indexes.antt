-- Subtyping of indexes of which one stands for no type.
use Rattle.std.proofs.Common.{◌≡◌, ◌∙◌, ◌↔◌, ◌⊎◌, ℕ, inl, inr, Option, None, refl, ap, subst}
use Rattle.wasm_spec.proofs.Closures.{complete}
use Rattle.wasm_spec.specs.Subtyping.{SubTypes, Closure, HeapBelow, Link, same, step}
use Rattle.wasm_spec.specs.Types.{Concrete, SubType}
use Rattle.wasmparser_type_relations.specs.Chains.{by_id}
use Rattle.wasmparser_types.specs.Index.{Index}
use Rattle.wasmparser_types.specs.UnpackedIndex.{index}
use Rattle.wasmparser_types.specs.declared.index.UnpackedIndex.{UnpackedIndex}
use Rattle.wasmparser_types.specs.declared.index.UnpackedIndex.TheVariants as unpacked

pub no_id : (type_at : ℕ → Option (SubType Index)) (i : UnpackedIndex) → ((id : ℕ) → i ≡ unpacked.Id id → ⊥) → by_id type_at (index i) ≡ None
no_id type_at (unpacked.Module n) not = refl
no_id type_at (unpacked.RecGroup n) not = refl
no_id type_at (unpacked.Id n) not = absurd (not n refl)

module _ {R : Type 0} (sub_at : SubTypes R) where
  first_is_type : {r t : R} → Closure (Link sub_at) r t → sub_at r ≡ None → r ≡ t
  first_is_type same none = refl
  first_is_type (step link path) none = absurd (let has = link.declared.is in cc)

  last_is_type : {r t : R} → Closure (Link sub_at) r t → sub_at t ≡ None → r ≡ t
  last_is_type same none = refl
  last_is_type (step {x} {y} {z} link path) none =
      let one : y ≡ z = last_is_type path none in
      absurd (let has = link.kind.is in let gone : sub_at y ≡ None = ap sub_at one ∙ none in cc)

  pub alone : (P : Type 0) (r t : R) → P ↔ (r ≡ t) → (sub_at r ≡ None) ⊎ (sub_at t ≡ None) → P ↔ HeapBelow sub_at (Concrete r) (Concrete t)
  alone P r t is none = (
    (λ h. subst (λ q. HeapBelow sub_at (Concrete r) (Concrete q)) (is.0 h) same),
    (λ h. is.1 (go none (complete sub_at {a = Concrete r} {b = Concrete t} h))),
  ) where
    go : (sub_at r ≡ None) ⊎ (sub_at t ≡ None) → Closure (Link sub_at) r t → r ≡ t
    go (inl none) path = first_is_type path none
    go (inr none) path = last_is_type path none

pub between : {R : Type 0} (P : Type 0) (sub_at : SubTypes R) (r t r' t' : R) → r ≡ r' → t ≡ t' → P ↔ HeapBelow sub_at (Concrete r') (Concrete t') → P ↔ HeapBelow sub_at (Concrete r) (Concrete t)
between P sub_at r t r' t' er et is = rw (er, et) is
