-- Subtyping, matching and the rules on types are kept by a map of references that keeps what they stand for.
use Rattle.std.proofs.Common.{◌≡◌, List, [], ◌∷◌, map, refl, sym, ◌∙◌, Option}
use Rattle.std.proofs.lemmas.List.{length-map}
use Rattle.std.specs.List.{AllByRecursion}
use Rattle.wasm_spec.specs.Groups.{Extends, ExtendsSupertypes, ContinuesFunc, Links, no_link, one_more, items_in, PassesLimit, many_items, many_links}
use Rattle.wasm_spec.specs.Limits.{Limit, Params, Results, Fields}
use Rattle.wasm_spec.specs.Matching.{Pairwise, FrontPairwise, StorageBelow, FieldMatches, ResultsMatch, FuncMatches, CompositeMatches}
use Rattle.wasm_spec.specs.ReferenceMaps.{KeepsTypes}
use Rattle.wasm_spec.specs.Subtyping.{abstract_of, bottom_of, Declared, Link, HeapStep, HeapBelow, RefBelow, ValBelow}
use Rattle.wasm_spec.specs.TypeReferences.{heap_map, ref_map, val_map, storage_map, field_map, func_map, composite_map, sub_map}
use Rattle.wasm_spec.specs.Types.{HeapType, Abstract, Concrete, RefType, ValType, I32, I64, F32, F64, V128, Ref, StorageType, I8, I16, Val, FieldType, FuncType, CompositeType, FuncComposite, StructComposite, ArrayComposite, ContComposite, SubType}
use Rattle.wasm_spec.proofs.Closures.{mapped}
use Rattle.wasm_spec.proofs.Elements.{contains_map}

pub abstract_of_map : {R S : Type 0} (f : R → S) (c : CompositeType R) → abstract_of (composite_map f c) ≡ abstract_of c
abstract_of_map f (FuncComposite type) = refl
abstract_of_map f (StructComposite fields) = refl
abstract_of_map f (ArrayComposite field) = refl
abstract_of_map f (ContComposite function) = refl

pub bottom_of_map : {R S : Type 0} (f : R → S) (c : CompositeType R) → bottom_of (composite_map f c) ≡ bottom_of c
bottom_of_map f (FuncComposite type) = refl
bottom_of_map f (StructComposite fields) = refl
bottom_of_map f (ArrayComposite field) = refl
bottom_of_map f (ContComposite function) = refl

pub items_in_map : {R S : Type 0} (f : R → S) (c : CompositeType R) (limit : Limit) → items_in (composite_map f c) limit ≡ items_in c limit
items_in_map f (FuncComposite type) Params = length-map type.params (val_map f)
items_in_map f (FuncComposite type) Results = length-map type.results (val_map f)
items_in_map f (FuncComposite type) _ = refl
items_in_map f (StructComposite fields) Fields = length-map fields (field_map f)
items_in_map f (StructComposite fields) _ = refl
items_in_map f (ArrayComposite field) limit = refl
items_in_map f (ContComposite function) limit = refl

pub pairwise_map : {X Y : Type 0} (P : X → X → Type 0) (Q : Y → Y → Type 0) (h : X → Y) → ((x y : X) → P x y → Q (h x) (h y)) → (xs ys : List X) → Pairwise P xs ys → Pairwise Q (map h xs) (map h ys)
pairwise_map P Q h one [] [] m = tt
pairwise_map P Q h one (x ∷ xs) (y ∷ ys) m = (one x y m.0, pairwise_map P Q h one xs ys m.1)
pairwise_map P Q h one [] (y ∷ ys) m = m
pairwise_map P Q h one (x ∷ xs) [] m = m

pub front_map : {X Y : Type 0} (P : X → X → Type 0) (Q : Y → Y → Type 0) (h : X → Y) → ((x y : X) → P x y → Q (h x) (h y)) → (xs ys : List X) → FrontPairwise P xs ys → FrontPairwise Q (map h xs) (map h ys)
front_map P Q h one xs [] m = tt
front_map P Q h one [] (y ∷ ys) m = m
front_map P Q h one (x ∷ xs) (y ∷ ys) m = (one x y m.0, front_map P Q h one xs ys m.1)

pub all_map : {X Y : Type 0} (P : X → Type 0) (Q : Y → Type 0) (f : X → Y) → ((x : X) → P x → Q (f x)) → (xs : List X) → AllByRecursion P xs → AllByRecursion Q (map f xs)
all_map P Q f one [] h = tt
all_map P Q f one (x ∷ xs) h = (one x h.0, all_map P Q f one xs h.1)

module _ {R S : Type 0} (f : R → S) (from : R → Option (SubType R)) (to : S → Option (SubType S)) (keeps : KeepsTypes f from to) where
  pub declared_map : (r t : R) → Declared from r t → Declared to (f r) (f t)
  declared_map r t d = record { type = sub_map f d.type; is = keeps r d.type d.is; among = contains_map f t d.type.supertypes d.among }

  pub link_map : (r t : R) → Link from r t → Link to (f r) (f t)
  unfolding declared_map
  link_map r t l = record {
    declared = declared_map r t l.declared;
    kind = record {
      type = sub_map f l.kind.type;
      is = keeps t l.kind.type l.kind.is;
      holds = abstract_of_map f l.kind.type.composite_type ∙ l.kind.holds ∙ sym (abstract_of_map f l.declared.type.composite_type);
    };
  }

  pub step_map : (a b : HeapType R) → HeapStep from a b → HeapStep to (heap_map f a) (heap_map f b)
  step_map (Abstract a) (Abstract b) s = s
  step_map (Abstract a) (Concrete r) s = record { type = sub_map f s.type; is = keeps r s.type s.is; holds = bottom_of_map f s.type.composite_type ∙ s.holds }
  step_map (Concrete r) (Abstract b) s = record { type = sub_map f s.type; is = keeps r s.type s.is; holds = abstract_of_map f s.type.composite_type ∙ s.holds }
  step_map (Concrete r) (Concrete t) s = link_map r t s

  pub heap_below_map : {a b : HeapType R} → HeapBelow from a b → HeapBelow to (heap_map f a) (heap_map f b)
  heap_below_map h = mapped {Rel' = HeapStep to} (heap_map f) step_map h

  pub ref_below_map : (a b : RefType R) → RefBelow from a b → RefBelow to (ref_map f a) (ref_map f b)
  ref_below_map a b h = record { null = h.null; heap = heap_below_map h.heap }

  pub val_below_map : (a b : ValType R) → ValBelow from a b → ValBelow to (val_map f a) (val_map f b)
  val_below_map I32 I32 h = h
  val_below_map I64 I64 h = h
  val_below_map F32 F32 h = h
  val_below_map F64 F64 h = h
  val_below_map V128 V128 h = h
  val_below_map (Ref n a) (Ref m b) h = record { null = h.null; heap = heap_below_map h.heap }
  val_below_map _ _ h = absurd h

  pub storage_below_map : (a b : StorageType R) → StorageBelow from a b → StorageBelow to (storage_map f a) (storage_map f b)
  storage_below_map I8 I8 h = h
  storage_below_map I16 I16 h = h
  storage_below_map (Val a) (Val b) h = val_below_map a b h
  storage_below_map _ _ h = absurd h

  pub field_matches_map : (a b : FieldType R) → FieldMatches from a b → FieldMatches to (field_map f a) (field_map f b)
  field_matches_map a b m = record {
    same = m.same;
    below = storage_below_map a.element_type b.element_type m.below;
    back = λ e. storage_below_map b.element_type a.element_type (m.back e);
  }

  results_match_map : (xs ys : List (ValType R)) → ResultsMatch from xs ys → ResultsMatch to (map (val_map f) xs) (map (val_map f) ys)
  results_match_map xs ys m = pairwise_map (ValBelow from) (ValBelow to) (val_map f) val_below_map xs ys m

  pub func_matches_map : (a b : FuncType R) → FuncMatches from a b → FuncMatches to (func_map f a) (func_map f b)
  func_matches_map a b m = record {
    params = results_match_map b.params a.params m.params;
    results = results_match_map a.results b.results m.results;
  }

  pub composite_matches_map : (a b : CompositeType R) → CompositeMatches from a b → CompositeMatches to (composite_map f a) (composite_map f b)
  composite_matches_map (FuncComposite a) (FuncComposite b) m = func_matches_map a b m
  composite_matches_map (StructComposite xs) (StructComposite ys) m = front_map (FieldMatches from) (FieldMatches to) (field_map f) field_matches_map xs ys m
  composite_matches_map (ArrayComposite a) (ArrayComposite b) m = field_matches_map a b m
  composite_matches_map (ContComposite r) (ContComposite t) m = heap_below_map m
  composite_matches_map _ _ m = absurd m

  pub extends_map : (type : SubType R) (t : R) → Extends from type t → Extends to (sub_map f type) (f t)
  extends_map type t e = record {
    supertype = sub_map f e.supertype;
    is = keeps t e.supertype e.is;
    is_open = e.is_open;
    matches = composite_matches_map type.composite_type e.supertype.composite_type e.matches;
  }

  pub supertypes_map : (type : SubType R) → ExtendsSupertypes from type → ExtendsSupertypes to (sub_map f type)
  supertypes_map type e = record {
    at_most_one = rw (length-map type.supertypes f) e.at_most_one;
    each = all_map (Extends from type) (Extends to (sub_map f type)) f (extends_map type) type.supertypes e.each;
  }

  pub continues_map : (c : CompositeType R) → ContinuesFunc from c → ContinuesFunc to (composite_map f c)
  continues_map (FuncComposite type) h = h
  continues_map (StructComposite fields) h = h
  continues_map (ArrayComposite field) h = h
  continues_map (ContComposite r) h = record { type = sub_map f h.type; is = keeps r h.type h.is; holds = abstract_of_map f h.type.composite_type ∙ h.holds }

  pub links_map : {n : _} {r t : R} → Links from n r t → Links to n (f r) (f t)
  links_map no_link = no_link
  links_map (one_more {n} {r} {s} {t} d more) = one_more (declared_map r s d) (links_map more)

  pub passes_map : {limit : Limit} (r : R) → PassesLimit from r limit → PassesLimit to (f r) limit
  passes_map r (many_items {limit} d) =
      many_items (record { type = sub_map f d.type; is = keeps r d.type d.is; holds = rw (items_in_map f d.type.composite_type limit) d.holds })
  passes_map r (many_links more passed) = many_links (links_map more) passed
