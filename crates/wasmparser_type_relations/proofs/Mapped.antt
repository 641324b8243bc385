-- What is computed by some references is subtyping of what a map takes them to.
use Rattle.std.proofs.Common.{◌≡◌, true}
use Rattle.std.specs.Bool.{Decides}
use Rattle.wasm_spec.proofs.Carried.{carried, carried_back}
use Rattle.wasm_spec.specs.ReferenceMaps.{AreTypes, IsOneToOne, KeepsTypes, ReferToTypes}
use Rattle.wasm_spec.specs.Subtyping.{SubTypes, HeapBelow, RefBelow, ValBelow}
use Rattle.wasm_spec.specs.TypeReferences.{heap_map, ref_map, val_map, heap_refs, ref_refs, val_refs}
use Rattle.wasm_spec.specs.Types.{HeapType, RefType, ValType}
use Rattle.wasmparser_type_relations.proofs.Deciding.{heap_sound, ref_sound, val_sound, heap_complete, ref_complete, val_complete}
use Rattle.wasmparser_type_relations.specs.Ranked.{Ranking, IsRanking, is_heap_below, is_ref_below, is_val_below}

module _ {R S : Type 0} (ranking : Ranking R) (f : R → S) (from : SubTypes R) (to : SubTypes S) (keeps : KeepsTypes f from to) where
  module _ (equal : (a b : R) → Decides (ranking.is_same a b) (a ≡ b)) where
    pub heap_along : (a b : HeapType R) → is_heap_below ranking from a b ≡ true → HeapBelow to (heap_map f a) (heap_map f b)
    heap_along a b h = (carried f from to keeps).heap_types a b (heap_sound ranking from equal a b h)

    pub ref_along : (a b : RefType R) → is_ref_below ranking from a b ≡ true → RefBelow to (ref_map f a) (ref_map f b)
    ref_along a b h = (carried f from to keeps).ref_types a b (ref_sound ranking from equal a b h)

    pub val_along : (a b : ValType R) → is_val_below ranking from a b ≡ true → ValBelow to (val_map f a) (val_map f b)
    val_along a b h = (carried f from to keeps).val_types a b (val_sound ranking from equal a b h)

  module _ (is : IsRanking ranking from) (closed : ReferToTypes from) (one : IsOneToOne f from) where
    pub heap_mapped : (a b : HeapType R) → AreTypes from (heap_refs a) → AreTypes from (heap_refs b) → Decides (is_heap_below ranking from a b) (HeapBelow to (heap_map f a) (heap_map f b))
    heap_mapped a b ka kb = (heap_along is.equal a b, λ h. heap_complete ranking from is a b ((carried_back f from to keeps closed one).heap_types a b ka kb h))

    pub ref_mapped : (a b : RefType R) → AreTypes from (ref_refs a) → AreTypes from (ref_refs b) → Decides (is_ref_below ranking from a b) (RefBelow to (ref_map f a) (ref_map f b))
    ref_mapped a b ka kb = (ref_along is.equal a b, λ h. ref_complete ranking from is a b ((carried_back f from to keeps closed one).ref_types a b ka kb h))

    pub val_mapped : (a b : ValType R) → AreTypes from (val_refs a) → AreTypes from (val_refs b) → Decides (is_val_below ranking from a b) (ValBelow to (val_map f a) (val_map f b))
    val_mapped a b ka kb = (val_along is.equal a b, λ h. val_complete ranking from is a b ((carried_back f from to keeps closed one).val_types a b ka kb h))
