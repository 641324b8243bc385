-- Subtyping by ids is subtyping of the defined types that these stand for.
use Rattle.std.proofs.Common.{◌≡◌, ℕ, zero, suc, Bool, true, false, ◌&&◌, not, ◌||◌, List, length, Option, slice_get, refl, sym, ap, ◌∙◌, subst, arith}
use Rattle.std.proofs.lemmas.Option.{slice_get_within}
use Rattle.std.specs.Bool.{Decides}
use Rattle.std.specs.Prelude.{⊤}
use Rattle.wasm_bodies_laws.specs.References.{is_abstract}
use Rattle.wasm_spec.proofs.Closures.{complete, same_defined, sound}
use Rattle.wasm_spec.proofs.MappedTypes.{abstract_of_map}
use Rattle.wasm_spec.proofs.Places.{get_some}
use Rattle.wasm_spec.specs.Features.{Features, needs_type_canonicalization}
use Rattle.wasm_spec.specs.ReferenceMaps.{AreTypes, IsOneToOne, IsType, KeepsTypes, ReferToTypes}
use Rattle.wasm_spec.specs.Subtyping.{HeapTest, SubTypes, ValBelow, abstract_of, is_abstract_below}
use Rattle.wasm_spec.specs.Trees.{AreDistinct, DefType, unrolled}
use Rattle.wasm_spec.specs.TypeReferences.{heap_map, heap_refs, sub_map, sub_refs, val_map, val_refs}
use Rattle.wasm_spec.specs.Types.{AbstractHeapType, HeapType, Abstract, Concrete, ValType, I32, I64, F32, F64, V128, Ref, SubType}
use Rattle.wasmparser_type_relations.specs.Chains.{by_id}
use Rattle.wasmparser_type_relations.proofs.Deciding.{val_complete}
use Rattle.wasmparser_type_relations.proofs.Ids.{ids_rank, indexes_decided}
use Rattle.wasmparser_type_relations.proofs.Mapped.{val_along, val_mapped}
use Rattle.wasmparser_type_relations.specs.Decision.{by_number, is_same_index, is_val_below}
use Rattle.wasmparser_type_relations.specs.Ranked.{is_within_links}
use Rattle.wasmparser_types.specs.Index.{Index, Module, RecGroup, Id}
use Rattle.wasmparser_validator.proofs.Ids.{all_more, one_id}
use Rattle.wasmparser_validator.specs.TypesById.{AreKnown, IsIdBelow, stands_for}

-- ---- an index that is no id

-- it leads to no id, in however many links
apart : (type_at : ℕ → Option (SubType Index)) (links index id : ℕ) → is_within_links is_same_index (by_id type_at) links (Module index) (Id id) ≡ false
apart type_at zero index id = refl
apart type_at (suc links) index id = refl

and_false : (a b : Bool) → b ≡ false → (a && b) ≡ false
and_false true b e = e
and_false false b e = refl

-- the type refers to an id, if it is a reference to a defined type
abbrev pub RefersToId : ValType Index → Type 0
RefersToId (Ref nullable (Concrete r)) = (id : ℕ) × (r ≡ Id id)
RefersToId type = ⊤

pub below_nothing : (type_at : ℕ → Option (SubType Index)) (nullable : Bool) (index : ℕ) (b : ValType Index) → RefersToId b
    → is_val_below (by_id type_at) (Ref nullable (Concrete (Module index))) b ≡ false
below_nothing type_at nullable index I32 refers = refl
below_nothing type_at nullable index I64 refers = refl
below_nothing type_at nullable index F32 refers = refl
below_nothing type_at nullable index F64 refers = refl
below_nothing type_at nullable index V128 refers = refl
below_nothing type_at nullable index (Ref other (Abstract heap)) refers = and_false (not nullable || other) false refl
below_nothing type_at nullable index (Ref other (Concrete r)) refers =
    let (id, e) = refers in
    rw e (and_false (not nullable || other) (is_within_links is_same_index (by_id type_at) index (Module index) (Id id)) (apart type_at index index id))

-- ---- ids

module _ (features : Features) (types : List DefType) (ids : List ℕ) (interned : List DefType) (sub_types : List (SubType Index)) (known : AreKnown features types ids interned sub_types) where
  abbrev from : SubTypes Index
  from = by_id (slice_get sub_types)

  abbrev f : Index → DefType
  f = stands_for interned

  keeps : KeepsTypes f from unrolled
  keeps (Id id) type e = known.unrolls id type e
  keeps (Module n) type e = absurd cc
  keeps (RecGroup n) type e = absurd cc

  pub id_is_type : (r : Index) → IsIdBelow (length interned) r → IsType from r
  id_is_type (Id id) within = get_some sub_types id (omega (arith, within, known.count))
  id_is_type (Module n) within = absurd within
  id_is_type (RecGroup n) within = absurd within

  type_is_id : (r : Index) → IsType from r → IsIdBelow (length interned) r
  type_is_id (Id id) is = let less = slice_get_within sub_types id is.0 is.1 in omega (arith, less, known.count)
  type_is_id (Module n) is = let none = is.1 in absurd cc
  type_is_id (RecGroup n) is = let none = is.1 in absurd cc

  closed : ReferToTypes from
  closed (Id id) type e = all_more (IsIdBelow (length interned)) (IsType from) id_is_type (sub_refs type) (known.refer id type e)
  closed (Module n) type e = absurd cc
  closed (RecGroup n) type e = absurd cc

  -- ---- where no two ids stand for one type

  one : AreDistinct interned → IsOneToOne f from
  one distinct r t is is' e = one_id interned distinct r t (type_is_id r is) (type_is_id t is') e

  pub decided : needs_type_canonicalization features ≡ true → (a b : ValType Index) → AreTypes from (val_refs a) → AreTypes from (val_refs b)
      → Decides (is_val_below from a b) (ValBelow unrolled (val_map f a) (val_map f b))
  decided on a b are are' = val_mapped by_number f from unrolled keeps (ids_rank (slice_get sub_types) known.earlier) closed (one (known.distinct on)) a b are are'

  -- ---- under a type that refers to no defined type

  test_back : (a : HeapType Index) (b : AbstractHeapType) → AreTypes from (heap_refs a) → HeapTest unrolled (heap_map f a) (Abstract b) → HeapTest from a (Abstract b)
  test_back (Abstract a) b are test = test
  test_back (Concrete r) b are test =
      let (type, at) = are.0 in
      let same : test.type ≡ sub_map f type = same_defined unrolled (f r) test.type (sub_map f type) test.is (keeps r type at) in
      let holds : is_abstract_below (abstract_of (sub_map f type).composite_type) b ≡ true = subst (λ (t : SubType DefType). is_abstract_below (abstract_of t.composite_type) b ≡ true) same test.holds in
      record { type = type; is = at; holds = ap (λ kind. is_abstract_below kind b) (sym (abstract_of_map f type.composite_type)) ∙ holds }

  below_back : (a b : ValType Index) → AreTypes from (val_refs a) → is_abstract b ≡ true → ValBelow unrolled (val_map f a) (val_map f b) → ValBelow from a b
  below_back I32 I32 are plain h = tt
  below_back I64 I64 are plain h = tt
  below_back F32 F32 are plain h = tt
  below_back F64 F64 are plain h = tt
  below_back V128 V128 are plain h = tt
  below_back (Ref n a) (Ref m (Abstract b)) are plain h = record { null = h.null; heap = sound from a (Abstract b) (test_back a b are (complete unrolled {a = heap_map f a} {b = Abstract b} h.heap)) }
  below_back (Ref n a) (Ref m (Concrete b)) are plain h = absurd cc
  below_back _ _ are plain h = absurd h

  pub decided_abstract : (a b : ValType Index) → AreTypes from (val_refs a) → is_abstract b ≡ true → Decides (is_val_below from a b) (ValBelow unrolled (val_map f a) (val_map f b))
  decided_abstract a b are plain = (
    val_along by_number f from unrolled keeps indexes_decided a b,
    λ h. val_complete by_number from (ids_rank (slice_get sub_types) known.earlier) a b (below_back a b are plain h),
  )
