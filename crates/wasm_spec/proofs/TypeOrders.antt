-- Subtyping and matching are reflexive and transitive, and where rules are kept a type matches what it is below.
use Rattle.std.proofs.Common.{◌≡◌, true, false, List, [], ◌∷◌, refl, sym, ◌∙◌, subst, Option, Some}
use Rattle.std.specs.List.{AllByRecursion, Contains}
use Rattle.wasm_spec.specs.Groups.{Extends, ExtendsSupertypes}
use Rattle.wasm_spec.specs.Matching.{Pairwise, FrontPairwise, StorageBelow, FieldMatches, ResultsMatch, CompositeMatches}
use Rattle.wasm_spec.specs.Subtyping.{Closure, same, step, abstract_of, Declared, Link, HeapBelow, RefBelow, ValBelow}
use Rattle.wasm_spec.specs.Types.{Concrete, RefType, ValType, I32, I64, F32, F64, V128, Ref, StorageType, I8, I16, Val, FieldType, CompositeType, FuncComposite, StructComposite, ArrayComposite, ContComposite, SubType, is_ref}
use Rattle.wasm_spec.proofs.Closures.{joined, complete, same_defined}
use Rattle.wasm_spec.proofs.Elements.{all_contains}

pairwise_same : {X : Type 0} (Rel : X → X → Type 0) → ((x : X) → Rel x x) → (xs : List X) → Pairwise Rel xs xs
pairwise_same Rel one [] = tt
pairwise_same Rel one (x ∷ xs) = (one x, pairwise_same Rel one xs)

pairwise_joined : {X : Type 0} (Rel : X → X → Type 0) → ((x y z : X) → Rel x y → Rel y z → Rel x z) → (xs ys zs : List X) → Pairwise Rel xs ys → Pairwise Rel ys zs → Pairwise Rel xs zs
pairwise_joined Rel one [] [] zs p q = q
pairwise_joined Rel one (x ∷ xs) (y ∷ ys) (z ∷ zs) p q = (one x y z p.0 q.0, pairwise_joined Rel one xs ys zs p.1 q.1)
pairwise_joined Rel one (x ∷ xs) (y ∷ ys) [] p q = q
pairwise_joined Rel one (x ∷ xs) [] zs p q = absurd p
pairwise_joined Rel one [] (y ∷ ys) zs p q = absurd p

front_same : {X : Type 0} (Rel : X → X → Type 0) → ((x : X) → Rel x x) → (xs : List X) → FrontPairwise Rel xs xs
front_same Rel one [] = tt
front_same Rel one (x ∷ xs) = (one x, front_same Rel one xs)

front_joined : {X : Type 0} (Rel : X → X → Type 0) → ((x y z : X) → Rel x y → Rel y z → Rel x z) → (xs ys zs : List X) → FrontPairwise Rel xs ys → FrontPairwise Rel ys zs → FrontPairwise Rel xs zs
front_joined Rel one xs ys [] p q = tt
front_joined Rel one (x ∷ xs) (y ∷ ys) (z ∷ zs) p q = (one x y z p.0 q.0, front_joined Rel one xs ys zs p.1 q.1)
front_joined Rel one xs [] (z ∷ zs) p q = absurd q
front_joined Rel one [] (y ∷ ys) (z ∷ zs) p q = absurd p

module _ {R : Type 0} (sub_at : R → Option (SubType R)) where
  pub ref_same : (a : RefType R) → RefBelow sub_at a a
  ref_same a = record { null = λ e. e; heap = same }

  pub ref_joined : (a b c : RefType R) → RefBelow sub_at a b → RefBelow sub_at b c → RefBelow sub_at a c
  ref_joined a b c h k = record { null = λ e. k.null (h.null e); heap = joined h.heap k.heap }

  pub val_same : (a : ValType R) → ValBelow sub_at a a
  val_same I32 = tt
  val_same I64 = tt
  val_same F32 = tt
  val_same F64 = tt
  val_same V128 = tt
  val_same (Ref n a) = record { null = λ e. e; heap = same }

  pub val_joined : (a b c : ValType R) → ValBelow sub_at a b → ValBelow sub_at b c → ValBelow sub_at a c
  val_joined I32 I32 c h k = k
  val_joined I64 I64 c h k = k
  val_joined F32 F32 c h k = k
  val_joined F64 F64 c h k = k
  val_joined V128 V128 c h k = k
  val_joined (Ref n a) (Ref m b) (Ref l c) h k = record { null = λ e. k.null (h.null e); heap = joined h.heap k.heap }
  val_joined (Ref n a) (Ref m b) _ h k = absurd k
  val_joined _ _ _ h k = absurd h

  pub storage_same : (a : StorageType R) → StorageBelow sub_at a a
  storage_same I8 = tt
  storage_same I16 = tt
  storage_same (Val a) = val_same a

  pub storage_joined : (a b c : StorageType R) → StorageBelow sub_at a b → StorageBelow sub_at b c → StorageBelow sub_at a c
  storage_joined I8 I8 c h k = k
  storage_joined I16 I16 c h k = k
  storage_joined (Val a) (Val b) (Val c) h k = val_joined a b c h k
  storage_joined (Val a) (Val b) _ h k = absurd k
  storage_joined _ _ _ h k = absurd h

  pub field_same : (a : FieldType R) → FieldMatches sub_at a a
  field_same a = record { same = refl; below = storage_same a.element_type; back = λ e. storage_same a.element_type }

  pub field_joined : (a b c : FieldType R) → FieldMatches sub_at a b → FieldMatches sub_at b c → FieldMatches sub_at a c
  field_joined a b c h k = record {
    same = h.same ∙ k.same;
    below = storage_joined a.element_type b.element_type c.element_type h.below k.below;
    back = λ e. storage_joined c.element_type b.element_type a.element_type (k.back (sym h.same ∙ e)) (h.back e);
  }

  results_joined : (xs ys zs : List (ValType R)) → ResultsMatch sub_at xs ys → ResultsMatch sub_at ys zs → ResultsMatch sub_at xs zs
  results_joined xs ys zs p q = pairwise_joined (ValBelow sub_at) val_joined xs ys zs p q

  pub composite_same : (a : CompositeType R) → CompositeMatches sub_at a a
  composite_same (FuncComposite a) = record { params = pairwise_same (ValBelow sub_at) val_same a.params; results = pairwise_same (ValBelow sub_at) val_same a.results }
  composite_same (StructComposite fields) = front_same (FieldMatches sub_at) field_same fields
  composite_same (ArrayComposite a) = field_same a
  composite_same (ContComposite r) = same

  pub composite_joined : (a b c : CompositeType R) → CompositeMatches sub_at a b → CompositeMatches sub_at b c → CompositeMatches sub_at a c
  composite_joined (FuncComposite a) (FuncComposite b) (FuncComposite c) h k = record {
    params = results_joined c.params b.params a.params k.params h.params;
    results = results_joined a.results b.results c.results h.results k.results;
  }
  composite_joined (FuncComposite a) (FuncComposite b) _ h k = absurd k
  composite_joined (StructComposite xs) (StructComposite ys) (StructComposite zs) h k = front_joined (FieldMatches sub_at) field_joined xs ys zs h k
  composite_joined (StructComposite xs) (StructComposite ys) _ h k = absurd k
  composite_joined (ArrayComposite a) (ArrayComposite b) (ArrayComposite c) h k = field_joined a b c h k
  composite_joined (ArrayComposite a) (ArrayComposite b) _ h k = absurd k
  composite_joined (ContComposite r) (ContComposite s) (ContComposite t) h k = joined h k
  composite_joined (ContComposite r) (ContComposite s) _ h k = absurd k
  composite_joined _ _ _ h k = absurd h

  pub number_alone : (a b : ValType R) → is_ref a ≡ false → ValBelow sub_at a b → a ≡ b
  number_alone I32 I32 e h = refl
  number_alone I64 I64 e h = refl
  number_alone F32 F32 e h = refl
  number_alone F64 F64 e h = refl
  number_alone V128 V128 e h = refl
  number_alone (Ref n a) b e h = absurd cc
  number_alone _ _ e h = absurd h

  pub reference_alone : (a b : ValType R) → is_ref a ≡ true → ValBelow sub_at a b → is_ref b ≡ true
  reference_alone (Ref n a) (Ref m b) e h = refl
  reference_alone (Ref n a) _ e h = absurd h
  reference_alone _ b e h = absurd cc

  pub packed_8 : (b : StorageType R) → StorageBelow sub_at I8 b → b ≡ I8
  packed_8 I8 h = refl
  packed_8 _ h = absurd h

  pub packed_16 : (b : StorageType R) → StorageBelow sub_at I16 b → b ≡ I16
  packed_16 I16 h = refl
  packed_16 _ h = absurd h

  pub not_packed : (a : ValType R) (b : StorageType R) → StorageBelow sub_at (Val a) b → (c : ValType R) × (b ≡ Val c)
  not_packed a (Val b) h = (b, refl)
  not_packed a _ h = absurd h

  -- types that match are of one kind
  matches_kind : (a b : CompositeType R) → CompositeMatches sub_at a b → abstract_of b ≡ abstract_of a
  matches_kind (FuncComposite a) (FuncComposite b) m = refl
  matches_kind (StructComposite xs) (StructComposite ys) m = refl
  matches_kind (ArrayComposite a) (ArrayComposite b) m = refl
  matches_kind (ContComposite r) (ContComposite t) m = refl
  matches_kind _ _ m = absurd m

  -- a declared link of a type that keeps the rule on supertypes counts
  pub declared_link : (r t : R) (type : SubType R) → sub_at r ≡ Some type → ExtendsSupertypes sub_at type → Declared sub_at r t → Link sub_at r t
  declared_link r t type is rule d =
      let one : type ≡ d.type = same_defined sub_at r type d.type is d.is in
      let P : SubType R → Type 0 = λ s. ExtendsSupertypes sub_at s in
      let e = all_contains (Extends sub_at d.type) t d.type.supertypes (subst P one rule).each d.among in
      record { declared = d; kind = record { type = e.supertype; is = e.is; holds = matches_kind d.type.composite_type e.supertype.composite_type e.matches } }

  -- Known types keep the rule on supertypes, and these are known.
  chain_matches : (Known : R → Type 0) → ((r : R) (type : SubType R) → Known r → sub_at r ≡ Some type → ExtendsSupertypes sub_at type × AllByRecursion Known type.supertypes) → {r t : R} → Closure (Link sub_at) r t → Known r → (a b : SubType R) → sub_at r ≡ Some a → sub_at t ≡ Some b → CompositeMatches sub_at a.composite_type b.composite_type
  chain_matches Known rules (same {x}) known a b is is' =
      let one : a ≡ b = same_defined sub_at x a b is is' in
      let P : SubType R → Type 0 = λ s. CompositeMatches sub_at a.composite_type s.composite_type in
      subst P one (composite_same a.composite_type)
  chain_matches Known rules (step {x} {y} {z} l p) known a b is is' =
      let one : l.declared.type ≡ a = same_defined sub_at x l.declared.type a l.declared.is is in
      let P : SubType R → Type 0 = λ s. Contains s.supertypes y in
      let among = subst P one l.declared.among in
      let (rule, all) = rules x a known is in
      let e = all_contains (Extends sub_at a) y a.supertypes rule.each among in
      let next = all_contains Known y a.supertypes all among in
      composite_joined a.composite_type e.supertype.composite_type b.composite_type e.matches (chain_matches Known rules p next e.supertype b e.is is')

  pub below_matches : (Known : R → Type 0) → ((r : R) (type : SubType R) → Known r → sub_at r ≡ Some type → ExtendsSupertypes sub_at type × AllByRecursion Known type.supertypes) → (r t : R) → Known r → HeapBelow sub_at (Concrete r) (Concrete t) → (a b : SubType R) → sub_at r ≡ Some a → sub_at t ≡ Some b → CompositeMatches sub_at a.composite_type b.composite_type
  below_matches Known rules r t known h a b is is' = chain_matches Known rules (complete sub_at {a = Concrete r} {b = Concrete t} h) known a b is is'
