-- The way back: what holds after a map of references held before it, where the references of types stand for types, and no two that stand for types go to one.
use Rattle.std.proofs.Common.{◌≡◌, true, List, [], ◌∷◌, ◌++◌, map, refl, ap, sym, ◌∙◌, inl, inr, subst, Option, Some}
use Rattle.std.proofs.lemmas.List.{length-map}
use Rattle.std.specs.List.{AllByRecursion, Contains, flat_map}
use Rattle.wasm_spec.specs.Groups.{Extends, ExtendsSupertypes, ContinuesFunc, Links, no_link, one_more, items_in, PassesLimit, many_items, many_links}
use Rattle.wasm_spec.specs.Limits.{Limit, IsPassedBy}
use Rattle.wasm_spec.specs.Matching.{FrontPairwise, StorageBelow, FieldMatches, ResultsMatch, FuncMatches, CompositeMatches}
use Rattle.wasm_spec.specs.ReferenceMaps.{KeepsTypes, IsType, ReferToTypes, IsOneToOne}
use Rattle.wasm_spec.specs.Subtyping.{Closure, same, step, abstract_of, bottom_of, Defined, Declared, Link, HeapBelow, HeapTest, RefBelow, ValBelow, is_abstract_below}
use Rattle.wasm_spec.specs.TypeReferences.{heap_map, ref_map, val_map, storage_map, field_map, func_map, composite_map, sub_map, heap_refs, ref_refs, val_refs, storage_refs, field_refs, func_refs, composite_refs, sub_refs}
use Rattle.wasm_spec.specs.Types.{Func, HeapType, Abstract, Concrete, RefType, ValType, I32, I64, F32, F64, V128, Ref, StorageType, I8, I16, Val, FieldType, FuncType, CompositeType, FuncComposite, StructComposite, ArrayComposite, ContComposite, SubType}
use Rattle.wasm_spec.proofs.Closures.{sound, complete, same_defined}
use Rattle.wasm_spec.proofs.Elements.{contains_first, contains_more, contains_cases, contains_none}
use Rattle.wasm_spec.proofs.MappedTypes.{abstract_of_map, bottom_of_map, items_in_map}

pub all_left : {X : Type 0} (P : X → Type 0) (xs ys : List X) → AllByRecursion P (xs ++ ys) → AllByRecursion P xs
all_left P [] ys h = tt
all_left P (x ∷ xs) ys h = (h.0, all_left P xs ys h.1)

pub all_right : {X : Type 0} (P : X → Type 0) (xs ys : List X) → AllByRecursion P (xs ++ ys) → AllByRecursion P ys
all_right P [] ys h = h
all_right P (x ∷ xs) ys h = all_right P xs ys h.1

-- y is what f gives for a known one of the list
record FoundBack {X Y : Type 0} (f : X → Y) (Known : X → Type 0) (y : Y) (xs : List X) : Type 0 where
  item : X
  among : Contains xs item
  known : Known item
  is : f item ≡ y

among_back : {X Y : Type 0} (f : X → Y) (Known : X → Type 0) (y : Y) (xs : List X) → AllByRecursion Known xs → Contains (map f xs) y → FoundBack f Known y xs
among_back f Known y [] all h = absurd (contains_none y h)
among_back f Known y (x ∷ xs) all h = elim (contains_cases y (f x) (map f xs) h) [
  | inl e ↦ record { item = x; among = contains_first x xs; known = all.0; is = e }
  | inr more ↦
      let b = among_back f Known y xs all.1 more in record { item = b.item; among = contains_more b.item x xs b.among; known = b.known; is = b.is }
]

module _ {R S : Type 0} (f : R → S) (from : R → Option (SubType R)) (to : S → Option (SubType S)) (keeps : KeepsTypes f from to) (closed : ReferToTypes from) where
  -- a property of what f gives for a known reference
  defined_back : (r : R) → IsType from r → (P : CompositeType S → Type 0) → Defined to (f r) P → Defined from r (λ c. P (composite_map f c))
  defined_back r known P d =
      let (s, at) = known in
      let refs = closed r s at in
      let one : d.type ≡ sub_map f s = same_defined to (f r) d.type (sub_map f s) d.is (keeps r s at) in
      record { type = s; is = at; holds = rw one at d.holds }

  -- a declared link of what f gives for a known reference comes from one of its own
  record LinkBack (r : R) (t : S) : Type 0 where
    end : R
    known : IsType from end
    is : f end ≡ t
    declared : Declared from r end

  declared_back : (r : R) → IsType from r → (t : S) → Declared to (f r) t → LinkBack r t
  declared_back r known t d =
      let (s, at) = known in
      let refs = closed r s at in
      let one : d.type ≡ sub_map f s = same_defined to (f r) d.type (sub_map f s) d.is (keeps r s at) in
      let P : SubType S → Type 0 = λ u. Contains u.supertypes t in
      let b = among_back f (IsType from) t s.supertypes (all_left (IsType from) s.supertypes (composite_refs s.composite_type) refs) (subst P one d.among) in
      record { end = b.item; known = b.known; is = b.is; declared = record { type = s; is = at; among = b.among } }

  record ChainBack (r : R) (t : S) : Type 0 where
    end : R
    known : IsType from end
    is : f end ≡ t
    chain : Closure (Link from) r end

  chain_back : {s t : S} → Closure (Link to) s t → (r : R) → IsType from r → f r ≡ s → ChainBack r t
  chain_back same r known e = record { end = r; known = known; is = e; chain = same }
  chain_back (step {x} {y} {z} l p) r known e =
      let (u, at) = known in
      let refs = closed r u at in
      let here : to x ≡ Some (sub_map f u) = ap to (sym e) ∙ keeps r u at in
      let one : l.declared.type ≡ sub_map f u = same_defined to x l.declared.type (sub_map f u) l.declared.is here in
      let d : Declared to (f r) y = record { type = l.declared.type; is = ap to e ∙ l.declared.is; among = l.declared.among } in
      let b = declared_back r known y d in
      let (v, there) = b.known in
      let same_end : l.kind.type ≡ sub_map f v = same_defined to y l.kind.type (sub_map f v) l.kind.is (ap to (sym b.is) ∙ keeps b.end v there) in
      let one_type : b.declared.type ≡ u = same_defined from r b.declared.type u b.declared.is at in
      let kinds : abstract_of v.composite_type ≡ abstract_of b.declared.type.composite_type =
      sym (abstract_of_map f v.composite_type) ∙ ap (λ q. abstract_of q.composite_type) (sym same_end) ∙ l.kind.holds ∙ ap (λ q. abstract_of q.composite_type) one ∙ abstract_of_map f u.composite_type ∙ ap (λ q. abstract_of q.composite_type) (sym one_type) in
      let link : Link from r b.end = record { declared = b.declared; kind = record { type = v; is = there; holds = kinds } } in
      let rest = chain_back p b.end b.known b.is in
      record { end = rest.end; known = rest.known; is = rest.is; chain = step link rest.chain }

  pub continues_back : (c : CompositeType R) → AllByRecursion (IsType from) (composite_refs c) → ContinuesFunc to (composite_map f c) → ContinuesFunc from c
  continues_back (FuncComposite type) k h = h
  continues_back (StructComposite fields) k h = h
  continues_back (ArrayComposite field) k h = h
  continues_back (ContComposite r) k h =
      let d = defined_back r k.0 (λ c. abstract_of c ≡ Func) h in
      record { type = d.type; is = d.is; holds = sym (abstract_of_map f d.type.composite_type) ∙ d.holds }

  pub record LinksBack (n : _) (r : R) (t : S) : Type 0 where
    pub end : R
    pub known : IsType from end
    pub is : f end ≡ t
    pub links : Links from n r end

  pub links_back : {n : _} {s t : S} → Links to n s t → (r : R) → IsType from r → f r ≡ s → LinksBack n r t
  links_back (no_link {r = x}) r known e = record { end = r; known = known; is = e; links = no_link }
  links_back (one_more {n} {r = x} {s = y} {t = z} d more) r known e =
      let here : Declared to (f r) y = record { type = d.type; is = ap to e ∙ d.is; among = d.among } in
      let b = declared_back r known y here in
      let rest = links_back more b.end b.known b.is in
      record { end = rest.end; known = rest.known; is = rest.is; links = one_more b.declared rest.links }

  pub passes_back : {limit : Limit} (r : R) → IsType from r → PassesLimit to (f r) limit → PassesLimit from r limit
  passes_back r known (many_items {limit} d) =
      let b = defined_back r known (λ c. IsPassedBy limit (items_in c limit)) d in
      many_items (record { type = b.type; is = b.is; holds = rw (items_in_map f b.type.composite_type limit) at b.holds })
  passes_back r known (many_links {n} more passed) = let b = links_back more r known refl in many_links b.links passed

  module _ (one : IsOneToOne f from) where
    test_back : (a b : HeapType R) → AllByRecursion (IsType from) (heap_refs a) → AllByRecursion (IsType from) (heap_refs b) → HeapTest to (heap_map f a) (heap_map f b) → HeapTest from a b
    test_back (Abstract a) (Abstract b) ka kb t = t
    test_back (Abstract a) (Concrete r) ka kb t =
        let d = defined_back r kb.0 (λ c. bottom_of c ≡ a) t in
        record { type = d.type; is = d.is; holds = sym (bottom_of_map f d.type.composite_type) ∙ d.holds }
    test_back (Concrete r) (Abstract b) ka kb t =
        let d = defined_back r ka.0 (λ c. is_abstract_below (abstract_of c) b ≡ true) t in
        record { type = d.type; is = d.is; holds = ap (λ q. is_abstract_below q b) (sym (abstract_of_map f d.type.composite_type)) ∙ d.holds }
    test_back (Concrete r) (Concrete t) ka kb p =
        let b = chain_back p r ka.0 refl in
        let P : R → Type 0 = λ q. Closure (Link from) r q in
        subst P (one b.end t b.known kb.0 b.is) b.chain

    pub heap_below_back : (a b : HeapType R) → AllByRecursion (IsType from) (heap_refs a) → AllByRecursion (IsType from) (heap_refs b) → HeapBelow to (heap_map f a) (heap_map f b) → HeapBelow from a b
    heap_below_back a b ka kb h = sound from a b (test_back a b ka kb (complete to h))

    pub ref_below_back : (a b : RefType R) → AllByRecursion (IsType from) (ref_refs a) → AllByRecursion (IsType from) (ref_refs b) → RefBelow to (ref_map f a) (ref_map f b) → RefBelow from a b
    ref_below_back a b ka kb h = record { null = h.null; heap = heap_below_back a.heap_type b.heap_type ka kb h.heap }

    pub val_below_back : (a b : ValType R) → AllByRecursion (IsType from) (val_refs a) → AllByRecursion (IsType from) (val_refs b) → ValBelow to (val_map f a) (val_map f b) → ValBelow from a b
    val_below_back I32 I32 ka kb h = h
    val_below_back I64 I64 ka kb h = h
    val_below_back F32 F32 ka kb h = h
    val_below_back F64 F64 ka kb h = h
    val_below_back V128 V128 ka kb h = h
    val_below_back (Ref n a) (Ref m b) ka kb h = record { null = h.null; heap = heap_below_back a b ka kb h.heap }
    val_below_back _ _ ka kb h = absurd h

    pub storage_below_back : (a b : StorageType R) → AllByRecursion (IsType from) (storage_refs a) → AllByRecursion (IsType from) (storage_refs b) → StorageBelow to (storage_map f a) (storage_map f b) → StorageBelow from a b
    storage_below_back I8 I8 ka kb h = h
    storage_below_back I16 I16 ka kb h = h
    storage_below_back (Val a) (Val b) ka kb h = val_below_back a b ka kb h
    storage_below_back _ _ ka kb h = absurd h

    pub field_matches_back : (a b : FieldType R) → AllByRecursion (IsType from) (field_refs a) → AllByRecursion (IsType from) (field_refs b) → FieldMatches to (field_map f a) (field_map f b) → FieldMatches from a b
    field_matches_back a b ka kb m = record {
      same = m.same;
      below = storage_below_back a.element_type b.element_type ka kb m.below;
      back = λ e. storage_below_back b.element_type a.element_type kb ka (m.back e);
    }

    results_match_back : (xs ys : List (ValType R)) → AllByRecursion (IsType from) (flat_map val_refs xs) → AllByRecursion (IsType from) (flat_map val_refs ys) → ResultsMatch to (map (val_map f) xs) (map (val_map f) ys) → ResultsMatch from xs ys
    results_match_back [] [] kx ky m = tt
    results_match_back [] (y ∷ ys) kx ky m = m
    results_match_back (x ∷ xs) [] kx ky m = m
    results_match_back (x ∷ xs) (y ∷ ys) kx ky m = (
      val_below_back x y (all_left (IsType from) (val_refs x) (flat_map val_refs xs) kx) (all_left (IsType from) (val_refs y) (flat_map val_refs ys) ky) m.0,
      results_match_back xs ys (all_right (IsType from) (val_refs x) (flat_map val_refs xs) kx) (all_right (IsType from) (val_refs y) (flat_map val_refs ys) ky) m.1,
    )

    fields_match_back : (xs ys : List (FieldType R)) → AllByRecursion (IsType from) (flat_map field_refs xs) → AllByRecursion (IsType from) (flat_map field_refs ys) → FrontPairwise (FieldMatches to) (map (field_map f) xs) (map (field_map f) ys) → FrontPairwise (FieldMatches from) xs ys
    fields_match_back xs [] kx ky m = tt
    fields_match_back [] (y ∷ ys) kx ky m = m
    fields_match_back (x ∷ xs) (y ∷ ys) kx ky m = (
      field_matches_back x y (all_left (IsType from) (field_refs x) (flat_map field_refs xs) kx) (all_left (IsType from) (field_refs y) (flat_map field_refs ys) ky) m.0,
      fields_match_back xs ys (all_right (IsType from) (field_refs x) (flat_map field_refs xs) kx) (all_right (IsType from) (field_refs y) (flat_map field_refs ys) ky) m.1,
    )

    pub func_matches_back : (a b : FuncType R) → AllByRecursion (IsType from) (func_refs a) → AllByRecursion (IsType from) (func_refs b) → FuncMatches to (func_map f a) (func_map f b) → FuncMatches from a b
    func_matches_back a b ka kb m = record {
      params = results_match_back b.params a.params (all_left (IsType from) (flat_map val_refs b.params) (flat_map val_refs b.results) kb) (all_left (IsType from) (flat_map val_refs a.params) (flat_map val_refs a.results) ka) m.params;
      results = results_match_back a.results b.results (all_right (IsType from) (flat_map val_refs a.params) (flat_map val_refs a.results) ka) (all_right (IsType from) (flat_map val_refs b.params) (flat_map val_refs b.results) kb) m.results;
    }

    pub composite_matches_back : (a b : CompositeType R) → AllByRecursion (IsType from) (composite_refs a) → AllByRecursion (IsType from) (composite_refs b) → CompositeMatches to (composite_map f a) (composite_map f b) → CompositeMatches from a b
    composite_matches_back (FuncComposite a) (FuncComposite b) ka kb m = func_matches_back a b ka kb m
    composite_matches_back (StructComposite xs) (StructComposite ys) ka kb m = fields_match_back xs ys ka kb m
    composite_matches_back (ArrayComposite a) (ArrayComposite b) ka kb m = field_matches_back a b ka kb m
    composite_matches_back (ContComposite r) (ContComposite t) ka kb m = heap_below_back (Concrete r) (Concrete t) ka kb m
    composite_matches_back _ _ ka kb m = absurd m

    extends_back : (type : SubType R) (t : R) → AllByRecursion (IsType from) (composite_refs type.composite_type) → IsType from t → Extends to (sub_map f type) (f t) → Extends from type t
    extends_back type t k kt e =
        let (u, at) = kt in
        let refs = closed t u at in
        let same_type : e.supertype ≡ sub_map f u = same_defined to (f t) e.supertype (sub_map f u) e.is (keeps t u at) in
        let P : SubType S → Type 0 = λ q. CompositeMatches to (composite_map f type.composite_type) q.composite_type in
        let ku = all_right (IsType from) u.supertypes (composite_refs u.composite_type) refs in
        record {
          supertype = u;
          is = at;
          is_open = ap (λ q. q.is_final) (sym same_type) ∙ e.is_open;
          matches = composite_matches_back type.composite_type u.composite_type k ku (subst P same_type e.matches);
        }

    pub supertypes_back : (type : SubType R) → AllByRecursion (IsType from) (sub_refs type) → ExtendsSupertypes to (sub_map f type) → ExtendsSupertypes from type
    supertypes_back type k e =
        let ks = all_left (IsType from) type.supertypes (composite_refs type.composite_type) k in
        let kc = all_right (IsType from) type.supertypes (composite_refs type.composite_type) k in
        record { at_most_one = rw (length-map type.supertypes f) at e.at_most_one; each = go kc type.supertypes ks e.each }
      where
        go : AllByRecursion (IsType from) (composite_refs type.composite_type) → (ts : List R) → AllByRecursion (IsType from) ts → AllByRecursion (Extends to (sub_map f type)) (map f ts) → AllByRecursion (Extends from type) ts
        go kc [] ks h = tt
        go kc (t ∷ ts) ks h = (extends_back type t kc ks.0 h.0, go kc ts ks.1 h.1)
