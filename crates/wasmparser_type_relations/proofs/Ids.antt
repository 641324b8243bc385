-- Ids rank types by their number.
use Rattle.std.proofs.Common.{◌≡◌, ◌<◌, ℕ, [], ◌∷◌, Option, ap, subst, inl, inr}
use Rattle.std.proofs.lemmas.Bool.Decides.{Decides-eqb}
use Rattle.std.specs.Bool.{Decides}
use Rattle.std.specs.List.{Contains}
use Rattle.wasm_spec.proofs.Elements.{contains_cases, contains_none}
use Rattle.wasm_spec.specs.Subtyping.{Link}
use Rattle.wasm_spec.specs.Types.{SubType}
use Rattle.wasmparser_type_relations.specs.Chains.{AreBelowEarlier, IsBelowEarlier, below_none, below_one, by_id}
use Rattle.wasmparser_type_relations.specs.Decision.{by_number, is_same_index}
use Rattle.wasmparser_type_relations.specs.Ranked.{IsRanking}
use Rattle.wasmparser_types.specs.Index.{Index, Module, RecGroup, Id, number_of}

pub indexes_decided : (a b : Index) → Decides (is_same_index a b) (a ≡ b)
indexes_decided (Module n) (Module m) = let d = Decides-eqb n m in (λ h. ap Module (d.0 h), λ e. d.1 (ap number_of e))
indexes_decided (RecGroup n) (RecGroup m) = let d = Decides-eqb n m in (λ h. ap RecGroup (d.0 h), λ e. d.1 (ap number_of e))
indexes_decided (Id n) (Id m) = let d = Decides-eqb n m in (λ h. ap Id (d.0 h), λ e. d.1 (ap number_of e))
indexes_decided _ _ = (λ h. absurd cc, λ e. absurd cc)

-- what is among one
alone : {X : Type 0} (x y : X) → Contains (y ∷ []) x → y ≡ x
alone x y among = elim (contains_cases x y [] among) [ inl e ↦ e | inr more ↦ absurd (contains_none x more) ]

module _ (type_at : ℕ → Option (SubType Index)) (earlier : AreBelowEarlier type_at) where
  smaller : (r t : Index) → Link (by_id type_at) r t → number_of t < number_of r
  smaller (Module n) t link = absurd (let is = link.declared.is in cc)
  smaller (RecGroup n) t link = absurd (let is = link.declared.is in cc)
  smaller (Id n) t link = at (earlier n link.declared.type link.declared.is)
    where
      at : IsBelowEarlier type_at n link.declared.type → number_of t < n
      at (below_none none) = absurd (contains_none t (subst (λ ts. Contains ts t) none link.declared.among))
      at (below_one s one less kind) =
          let e : number_of (Id s) ≡ number_of t = ap number_of (alone t (Id s) (subst (λ ts. Contains ts t) one link.declared.among)) in
          subst (λ q. q < n) e less

  pub ids_rank : IsRanking by_number (by_id type_at)
  ids_rank = record { equal = indexes_decided; smaller = smaller }
