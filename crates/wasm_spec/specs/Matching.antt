-- Which composite types match which, over any kind R of references to defined types. Core Specification 3.0, Validation, Matching,
-- "Composite Types", "Field Types", "Result Types"; continuations are as in their proposal.
use Rattle.std.specs.Prelude.{◌≡◌, ⊤, true, List, [], ◌∷◌}
use Rattle.wasm_spec.specs.Subtyping.{SubTypes, HeapBelow, ValBelow}
use Rattle.wasm_spec.specs.Types.{Concrete, ValType, StorageType, I8, I16, Val, FieldType, FuncType, CompositeType, FuncComposite, StructComposite, ArrayComposite, ContComposite}

-- one by one, of equal length
abbrev pub Pairwise : {X : Type 0} → (X → X → Type 0) → List X → List X → Type 0
Pairwise Rel [] [] = ⊤
Pairwise Rel (x ∷ xs) (y ∷ ys) = Rel x y × Pairwise Rel xs ys
Pairwise Rel _ _ = ⊥

-- one by one, as far as the second list goes
abbrev pub FrontPairwise : {X : Type 0} → (X → X → Type 0) → List X → List X → Type 0
FrontPairwise Rel xs [] = ⊤
FrontPairwise Rel [] (y ∷ ys) = ⊥
FrontPairwise Rel (x ∷ xs) (y ∷ ys) = Rel x y × FrontPairwise Rel xs ys

-- packed types are below themselves alone
abbrev pub StorageBelow : {R : Type 0} → SubTypes R → StorageType R → StorageType R → Type 0
StorageBelow sub_at I8 I8 = ⊤
StorageBelow sub_at I16 I16 = ⊤
StorageBelow sub_at (Val a) (Val b) = ValBelow sub_at a b
StorageBelow sub_at _ _ = ⊥

-- Both fields can be written, or neither; one that can be written goes both ways.
pub record FieldMatches {R : Type 0} (sub_at : SubTypes R) (a b : FieldType R) : Type 0 where
  pub same : a.mutable ≡ b.mutable
  pub below : StorageBelow sub_at a.element_type b.element_type
  pub back : a.mutable ≡ true → StorageBelow sub_at b.element_type a.element_type

abbrev pub ResultsMatch : {R : Type 0} → SubTypes R → List (ValType R) → List (ValType R) → Type 0
ResultsMatch sub_at xs ys = Pairwise (ValBelow sub_at) xs ys

-- a function takes what the other one takes, and gives what the other one may give
pub record FuncMatches {R : Type 0} (sub_at : SubTypes R) (a b : FuncType R) : Type 0 where
  pub params : ResultsMatch sub_at b.params a.params
  pub results : ResultsMatch sub_at a.results b.results

-- a structure may have more fields than the other, after those of the other
abbrev pub CompositeMatches : {R : Type 0} → SubTypes R → CompositeType R → CompositeType R → Type 0
CompositeMatches sub_at (FuncComposite a) (FuncComposite b) = FuncMatches sub_at a b
CompositeMatches sub_at (StructComposite xs) (StructComposite ys) = FrontPairwise (FieldMatches sub_at) xs ys
CompositeMatches sub_at (ArrayComposite a) (ArrayComposite b) = FieldMatches sub_at a b
CompositeMatches sub_at (ContComposite r) (ContComposite t) = HeapBelow sub_at (Concrete r) (Concrete t)
CompositeMatches sub_at _ _ = ⊥
