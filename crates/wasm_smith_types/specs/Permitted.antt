-- Types that may be drawn under features: they allow them, their references are below a bound, and they are small.
use Rattle.std.specs.Prelude.{◌≡◌, ◌<◌, ◌≤◌, ◌⊎◌, ℕ, true, false}
use Rattle.std.specs.List.{AllByRecursion}
use Rattle.wasm_spec.specs.Features.{Features, ReferenceTypes, MultiValue, FunctionReferences, Gc, GcTypes, has}
use Rattle.wasm_spec.specs.Gates.{is_allowed_abstract, is_allowed, is_allowed_storage, is_allowed_composite}
use Rattle.wasm_spec.specs.Groups.{ContinuesFunc}
use Rattle.wasm_spec.specs.Matching.{CompositeMatches}
use Rattle.wasm_spec.specs.Subtyping.{SubTypes}
use Rattle.wasm_spec.specs.TypeReferences.{val_refs, storage_refs, composite_refs}
use Rattle.wasm_spec.specs.Types.{ValType, StorageType, CompositeType}
use Rattle.wasm_smith_types.specs.Bounds.{IsSmallComposite}
use Rattle.wasm_smith_types.specs.Drawing.{Kind, NumberOrVector, Reference, Offers}

-- a value type, whose references go to types with indexes below bound
pub record IsPermittedValue (features : Features) (bound : ℕ) (type : ValType ℕ) : Type 0 where
  pub allowed : is_allowed features type ≡ true
  pub in_range : AllByRecursion (λ r. r < bound) (val_refs type)

pub record IsPermittedStorage (features : Features) (bound : ℕ) (type : StorageType ℕ) : Type 0 where
  pub allowed : is_allowed_storage features type ≡ true
  pub in_range : AllByRecursion (λ r. r < bound) (storage_refs type)

pub record IsPermittedComposite (features : Features) (bound : ℕ) (type : CompositeType ℕ) : Type 0 where
  pub allowed : is_allowed_composite features type ≡ true
  pub in_range : AllByRecursion (λ r. r < bound) (composite_refs type)
  pub small : IsSmallComposite type

abbrev pub SuitsKind : Features → Kind → Type 0
SuitsKind features (NumberOrVector type) = (bound : ℕ) → IsPermittedValue features bound type
SuitsKind features Reference = has features ReferenceTypes ≡ true

-- The offers for values are allowed under the features.
pub record SuitsValues (features : Features) (o : Offers) : Type 0 where
  pub kinds : AllByRecursion (SuitsKind features) o.kinds
  pub heaps : AllByRecursion (λ heap. is_allowed_abstract features true heap ≡ true) o.heaps
  pub non_null : o.gc ≡ true → AllByRecursion (λ heap. is_allowed_abstract features false heap ≡ true) o.heaps
  pub gc : o.gc ≡ true → has features Gc ≡ true
  pub references : o.gc ≡ true → has features FunctionReferences ≡ true
  pub most : o.most_results ≤ 20
  pub several : (o.most_results ≤ 1) ⊎ (has features MultiValue ≡ true)

-- So is what is offered for types, with garbage collection.
pub record Suits (features : Features) (o : Offers) : Type 0 where
  pub values : SuitsValues features o
  pub on : o.gc ≡ true
  pub gc_types : has features GcTypes ≡ true

-- A copy may have the original as its supertype, whatever references stand for.
pub record IsPermittedCopy (features : Features) (bound : ℕ) (copy original : CompositeType ℕ) : Type 0 where
  pub permitted : IsPermittedComposite features bound copy
  pub matches : (sub_at : SubTypes ℕ) → CompositeMatches sub_at copy original
  pub continues : (sub_at : SubTypes ℕ) → ContinuesFunc sub_at original → ContinuesFunc sub_at copy
