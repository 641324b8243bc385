-- Whether one type is below another, as a computed value: over any kind R of references that a test tells apart and that are ranked, so that what is declared
-- above a type has a smaller rank. Core Specification 3.0, Validation, "Matching"; laws tie these tests to the relations that restate it.
use Rattle.std.specs.Prelude.{◌≡◌, ◌<◌, ◌&&◌, ◌||◌, not, ℕ, zero, suc, Bool, true, false, Option, Some, None}
use Rattle.std.specs.Bool.{Decides}
use Rattle.std.specs.List.{list_any}
use Rattle.wasm_spec.specs.Subtyping.{SubTypes, Link, abstract_of, bottom_of, is_abstract_below}
use Rattle.wasm_spec.specs.Types.{HeapType, Abstract, Concrete, RefType, ValType, I32, I64, F32, F64, V128, Ref, CompositeType, FuncComposite, StructComposite, ArrayComposite, ContComposite, SubType}

-- ---- references

-- how references are told apart and ranked
pub record Ranking (R : Type 0) : Type 0 where
  pub is_same : R → R → Bool
  pub rank : R → ℕ

-- they are, by what the references stand for
pub record IsRanking {R : Type 0} (ranking : Ranking R) (sub_at : SubTypes R) : Type 0 where
  pub equal : (a b : R) → Decides (ranking.is_same a b) (a ≡ b)
  pub smaller : (r t : R) → Link sub_at r t → ranking.rank t < ranking.rank r

-- ---- defined types

-- the composite type that a reference stands for passes a test
abbrev pub is_defined : {R : Type 0} → (CompositeType R → Bool) → Option (SubType R) → Bool
is_defined test (Some type) = test type.composite_type
is_defined test None = false

abbrev pub is_same_kind : {R : Type 0} → CompositeType R → CompositeType R → Bool
is_same_kind (FuncComposite a) (FuncComposite b) = true
is_same_kind (StructComposite a) (StructComposite b) = true
is_same_kind (ArrayComposite a) (ArrayComposite b) = true
is_same_kind (ContComposite a) (ContComposite b) = true
is_same_kind _ _ = false

-- a declared supertype of the type's own kind passes a test
abbrev pub has_supertype : {R : Type 0} → SubTypes R → (R → Bool) → Option (SubType R) → Bool
has_supertype sub_at test (Some type) = list_any (λ t. is_defined (is_same_kind type.composite_type) (sub_at t) && test t) type.supertypes
has_supertype sub_at test None = false

-- one reference is another, or leads up to it by so many declared links at most
abbrev pub is_within_links : {R : Type 0} → (R → R → Bool) → SubTypes R → ℕ → R → R → Bool
is_within_links is_same sub_at zero r t = is_same r t
is_within_links is_same sub_at (suc links) r t = is_same r t || has_supertype sub_at (λ s. is_within_links is_same sub_at links s t) (sub_at r)

-- ---- heap, reference and value types

-- Ranks get smaller with each link, so that there are no more links above a type than its rank.
abbrev pub is_heap_below : {R : Type 0} → Ranking R → SubTypes R → HeapType R → HeapType R → Bool
is_heap_below ranking sub_at (Abstract a) (Abstract b) = is_abstract_below a b
is_heap_below ranking sub_at (Abstract a) (Concrete t) = is_defined (λ c. is_abstract_below a (bottom_of c)) (sub_at t)
is_heap_below ranking sub_at (Concrete r) (Abstract b) = is_defined (λ c. is_abstract_below (abstract_of c) b) (sub_at r)
is_heap_below ranking sub_at (Concrete r) (Concrete t) = is_within_links ranking.is_same sub_at (ranking.rank r) r t

abbrev pub is_ref_below : {R : Type 0} → Ranking R → SubTypes R → RefType R → RefType R → Bool
is_ref_below ranking sub_at a b = (not a.nullable || b.nullable) && is_heap_below ranking sub_at a.heap_type b.heap_type

abbrev pub is_val_below : {R : Type 0} → Ranking R → SubTypes R → ValType R → ValType R → Bool
is_val_below ranking sub_at I32 I32 = true
is_val_below ranking sub_at I64 I64 = true
is_val_below ranking sub_at F32 F32 = true
is_val_below ranking sub_at F64 F64 = true
is_val_below ranking sub_at V128 V128 = true
is_val_below ranking sub_at (Ref n a) (Ref m b) = is_ref_below ranking sub_at (record { nullable = n; heap_type = a }) (record { nullable = m; heap_type = b })
is_val_below ranking sub_at _ _ = false
