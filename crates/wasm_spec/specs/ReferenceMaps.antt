-- Maps between kinds of references to defined types, such as from type indexes to the types they stand for. from and to give the sub types
-- that references stand for.
use Rattle.std.specs.Prelude.{◌≡◌, ℕ, List, Some}
use Rattle.std.specs.List.{AllByRecursion}
use Rattle.wasm_spec.specs.Groups.{ExtendsSupertypes, ContinuesFunc, Links, PassesLimit}
use Rattle.wasm_spec.specs.Limits.{Limit}
use Rattle.wasm_spec.specs.Matching.{StorageBelow, FieldMatches, CompositeMatches}
use Rattle.wasm_spec.specs.Subtyping.{SubTypes, Link, HeapStep, HeapBelow, RefBelow, ValBelow}
use Rattle.wasm_spec.specs.TypeReferences.{heap_map, ref_map, val_map, storage_map, field_map, composite_map, sub_map, heap_refs, ref_refs, val_refs, storage_refs, field_refs, composite_refs, sub_refs}
use Rattle.wasm_spec.specs.Types.{HeapType, RefType, ValType, StorageType, FieldType, CompositeType, SubType}

-- where a reference stands for a type, f takes it to one that stands for the same type, mapped by f
abbrev pub KeepsTypes : {R S : Type 0} → (R → S) → SubTypes R → SubTypes S → Type 0
KeepsTypes {R} f from to = (r : R) (type : SubType R) → from r ≡ Some type → to (f r) ≡ Some (sub_map f type)

-- a reference stands for a type
abbrev pub IsType : {R : Type 0} → SubTypes R → R → Type 0
IsType {R} from r = (type : SubType R) × (from r ≡ Some type)

abbrev pub AreTypes : {R : Type 0} → SubTypes R → List R → Type 0
AreTypes from refs = AllByRecursion (IsType from) refs

-- whatever type a reference stands for, all references in it stand for types too
abbrev pub ReferToTypes : {R : Type 0} → SubTypes R → Type 0
ReferToTypes {R} from = (r : R) (type : SubType R) → from r ≡ Some type → AreTypes from (sub_refs type)

-- f takes no two references that stand for types to one
abbrev pub IsOneToOne : {R S : Type 0} → (R → S) → SubTypes R → Type 0
IsOneToOne {R} f from = (r t : R) → IsType from r → IsType from t → f r ≡ f t → r ≡ t

-- what holds before f holds after it
pub record Carries {R S : Type 0} (f : R → S) (from : SubTypes R) (to : SubTypes S) : Type 0 where
  pub links : (r t : R) → Link from r t → Link to (f r) (f t)
  pub steps : (a b : HeapType R) → HeapStep from a b → HeapStep to (heap_map f a) (heap_map f b)
  pub heap_types : (a b : HeapType R) → HeapBelow from a b → HeapBelow to (heap_map f a) (heap_map f b)
  pub ref_types : (a b : RefType R) → RefBelow from a b → RefBelow to (ref_map f a) (ref_map f b)
  pub val_types : (a b : ValType R) → ValBelow from a b → ValBelow to (val_map f a) (val_map f b)
  pub storage_types : (a b : StorageType R) → StorageBelow from a b → StorageBelow to (storage_map f a) (storage_map f b)
  pub fields : (a b : FieldType R) → FieldMatches from a b → FieldMatches to (field_map f a) (field_map f b)
  pub composite_types : (a b : CompositeType R) → CompositeMatches from a b → CompositeMatches to (composite_map f a) (composite_map f b)
  pub supertypes : (type : SubType R) → ExtendsSupertypes from type → ExtendsSupertypes to (sub_map f type)
  pub continuations : (c : CompositeType R) → ContinuesFunc from c → ContinuesFunc to (composite_map f c)
  pub depth : (n : ℕ) (r t : R) → Links from n r t → Links to n (f r) (f t)
  pub limits : (r : R) (limit : Limit) → PassesLimit from r limit → PassesLimit to (f r) limit

-- What holds after f held before it, where all references stand for types. For the rule on continuations and for limits f needn't be one to one.
pub record CarriesLimitsBack {R S : Type 0} (f : R → S) (from : SubTypes R) (to : SubTypes S) : Type 0 where
  pub continuations : (c : CompositeType R) → AreTypes from (composite_refs c) → ContinuesFunc to (composite_map f c) → ContinuesFunc from c
  pub limits : (r : R) (limit : Limit) → IsType from r → PassesLimit to (f r) limit → PassesLimit from r limit

-- For the rest it is one to one.
pub record CarriesBack {R S : Type 0} (f : R → S) (from : SubTypes R) (to : SubTypes S) : Type 0 where
  pub heap_types : (a b : HeapType R)
      → AreTypes from (heap_refs a) → AreTypes from (heap_refs b)
      → HeapBelow to (heap_map f a) (heap_map f b) → HeapBelow from a b
  pub ref_types : (a b : RefType R)
      → AreTypes from (ref_refs a) → AreTypes from (ref_refs b)
      → RefBelow to (ref_map f a) (ref_map f b) → RefBelow from a b
  pub val_types : (a b : ValType R)
      → AreTypes from (val_refs a) → AreTypes from (val_refs b)
      → ValBelow to (val_map f a) (val_map f b) → ValBelow from a b
  pub storage_types : (a b : StorageType R)
      → AreTypes from (storage_refs a) → AreTypes from (storage_refs b)
      → StorageBelow to (storage_map f a) (storage_map f b) → StorageBelow from a b
  pub fields : (a b : FieldType R)
      → AreTypes from (field_refs a) → AreTypes from (field_refs b)
      → FieldMatches to (field_map f a) (field_map f b) → FieldMatches from a b
  pub composite_types : (a b : CompositeType R)
      → AreTypes from (composite_refs a) → AreTypes from (composite_refs b)
      → CompositeMatches to (composite_map f a) (composite_map f b) → CompositeMatches from a b
  pub supertypes : (type : SubType R)
      → AreTypes from (sub_refs type)
      → ExtendsSupertypes to (sub_map f type) → ExtendsSupertypes from type
