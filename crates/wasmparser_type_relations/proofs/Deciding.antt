-- The tests decide the relations.
use Rattle.std.proofs.Common.{◌≡◌, ◌<◌, ◌≤◌, ◌&&◌, ◌||◌, ◌∙◌, ℕ, zero, suc, Bool, true, false, not, List, [], ◌∷◌, Option, Some, None, refl, sym, ap, subst, arith, ◌⊎◌, inl, inr}
use Rattle.std.specs.Bool.{Decides}
use Rattle.std.specs.List.{Contains, list_any}
use Rattle.wasm_spec.proofs.Closures.{sound, complete}
use Rattle.wasm_spec.proofs.Elements.{contains_first, contains_more, contains_cases, contains_none}
use Rattle.wasm_spec.specs.Subtyping.{SubTypes, Closure, same, step, Defined, Link, HeapBelow, HeapTest, RefBelow, ValBelow, abstract_of, bottom_of, is_abstract_below}
use Rattle.wasm_spec.specs.Types.{HeapType, Abstract, Concrete, RefType, ValType, I32, I64, F32, F64, V128, Ref, CompositeType, SubType}
use Rattle.wasmparser_type_relations.proofs.CompositeKinds.{kinds_agree, agreeing_kinds, bottom_alone, bottom_itself}
use Rattle.wasmparser_type_relations.specs.Ranked.{Ranking, IsRanking, is_defined, is_same_kind, has_supertype, is_within_links, is_heap_below, is_ref_below, is_val_below}

-- ---- tests of parts

both : (a b : Bool) → (a && b) ≡ true → (a ≡ true) × (b ≡ true)
both true b h = (refl, h)
both false b h = absurd cc

together : (a b : Bool) → a ≡ true → b ≡ true → (a && b) ≡ true
together true b h k = k
together false b h k = absurd cc

either : (a b : Bool) → (a || b) ≡ true → (a ≡ true) ⊎ (b ≡ true)
either true b h = inl refl
either false b h = inr h

first : (a b : Bool) → a ≡ true → (a || b) ≡ true
first true b h = refl
first false b h = absurd cc

second : (a b : Bool) → b ≡ true → (a || b) ≡ true
second true b h = refl
second false b h = h

-- an element that passes a test
record Passing {X : Type 0} (test : X → Bool) (xs : List X) : Type 0 where
  item : X
  among : Contains xs item
  passes : test item ≡ true

passing : {X : Type 0} (test : X → Bool) (xs : List X) → list_any test xs ≡ true → Passing test xs
passing test [] h = absurd cc
passing test (x ∷ xs) h = elim (either (test x) (list_any test xs) h) [
  | inl e ↦ record { item = x; among = contains_first x xs; passes = e }
  | inr more ↦ let p = passing test xs more in record { item = p.item; among = contains_more p.item x xs p.among; passes = p.passes }
]

passes : {X : Type 0} (test : X → Bool) (x : X) (xs : List X) → Contains xs x → test x ≡ true → list_any test xs ≡ true
passes test x [] among e = absurd (contains_none x among)
passes test x (y ∷ ys) among e = elim (contains_cases x y ys among) [
  | inl one ↦ first (test y) (list_any test ys) (ap test one ∙ e)
  | inr more ↦ second (test y) (list_any test ys) (passes test x ys more e)
]

-- ---- defined types

defined : {R : Type 0} (sub_at : SubTypes R) (r : R) (test : CompositeType R → Bool) (Holds : CompositeType R → Type 0)
    → ((c : CompositeType R) → test c ≡ true → Holds c) → is_defined test (sub_at r) ≡ true → Defined sub_at r Holds
defined {R} sub_at r test Holds one h = at (sub_at r) refl h
  where
    at : (found : Option (SubType R)) → sub_at r ≡ found → is_defined test found ≡ true → Defined sub_at r Holds
    at None e h = absurd cc
    at (Some type) e h = record { type = type; is = e; holds = one type.composite_type h }

is_so : {R : Type 0} (sub_at : SubTypes R) (r : R) (test : CompositeType R → Bool) (Holds : CompositeType R → Type 0)
    → ((c : CompositeType R) → Holds c → test c ≡ true) → Defined sub_at r Holds → is_defined test (sub_at r) ≡ true
is_so sub_at r test Holds one d = ap (is_defined test) d.is ∙ one d.type.composite_type d.holds

-- ---- links

module _ {R : Type 0} (is_same : R → R → Bool) (equal : (a b : R) → Decides (is_same a b) (a ≡ b)) (sub_at : SubTypes R) where
  -- a link that counts, and the rest of the way
  record Upward (links : ℕ) (r t : R) : Type 0 where
    next : R
    link : Link sub_at r next
    rest : is_within_links is_same sub_at links next t ≡ true

  upward : (links : ℕ) (r t : R) → has_supertype sub_at (λ s. is_within_links is_same sub_at links s t) (sub_at r) ≡ true → Upward links r t
  upward links r t h = at (sub_at r) refl h
    where
      at : (found : Option (SubType R)) → sub_at r ≡ found → has_supertype sub_at (λ s. is_within_links is_same sub_at links s t) found ≡ true → Upward links r t
      at None e h = absurd cc
      at (Some type) e h =
          let p = passing (λ s. is_defined (is_same_kind type.composite_type) (sub_at s) && is_within_links is_same sub_at links s t) type.supertypes h in
          let parts = both (is_defined (is_same_kind type.composite_type) (sub_at p.item)) (is_within_links is_same sub_at links p.item t) p.passes in
          let kind = defined sub_at p.item (is_same_kind type.composite_type) (λ c. abstract_of c ≡ abstract_of type.composite_type) (λ c k. kinds_agree type.composite_type c k) parts.0 in
          record { next = p.item; link = record { declared = record { type = type; is = e; among = p.among }; kind = kind }; rest = parts.1 }

  pub climbed : (links : ℕ) (r t : R) → is_within_links is_same sub_at links r t ≡ true → Closure (Link sub_at) r t
  climbed zero r t h = subst (λ q. Closure (Link sub_at) r q) ((equal r t).0 h) same
  climbed (suc links) r t h = elim (either (is_same r t) (has_supertype sub_at (λ s. is_within_links is_same sub_at links s t) (sub_at r)) h) [
    | inl e ↦ subst (λ q. Closure (Link sub_at) r q) ((equal r t).0 e) same
    | inr more ↦ let u = upward links r t more in step u.link (climbed links u.next t u.rest)
  ]

  at_once : (links : ℕ) (r : R) → is_within_links is_same sub_at links r r ≡ true
  at_once zero r = (equal r r).1 refl
  at_once (suc links) r = first (is_same r r) (has_supertype sub_at (λ s. is_within_links is_same sub_at links s r) (sub_at r)) ((equal r r).1 refl)

  one_link : (links : ℕ) (r s t : R) → Link sub_at r s → is_within_links is_same sub_at links s t ≡ true
      → has_supertype sub_at (λ q. is_within_links is_same sub_at links q t) (sub_at r) ≡ true
  one_link links r s t link rest =
      let type = link.declared.type in
      let kind = is_so sub_at s (is_same_kind type.composite_type) (λ c. abstract_of c ≡ abstract_of type.composite_type) (λ c k. agreeing_kinds type.composite_type c k) link.kind in
      let test : R → Bool = λ q. is_defined (is_same_kind type.composite_type) (sub_at q) && is_within_links is_same sub_at links q t in
      ap (has_supertype sub_at (λ q. is_within_links is_same sub_at links q t)) link.declared.is
      ∙ passes test s type.supertypes link.declared.among (together (is_defined (is_same_kind type.composite_type) (sub_at s)) (is_within_links is_same sub_at links s t) kind rest)

  pub climbs : (rank : R → ℕ) → ((r t : R) → Link sub_at r t → rank t < rank r) → (links : ℕ) {r t : R} → Closure (Link sub_at) r t → rank r ≤ links → is_within_links is_same sub_at links r t ≡ true
  climbs rank smaller links (same {x}) most = at_once links x
  climbs rank smaller zero (step {x} {y} {z} link path) most = let less = smaller x y link in absurd (omega (arith, less, most))
  climbs rank smaller (suc links) (step {x} {y} {z} link path) most =
      let less = smaller x y link in
      second (is_same x z) (has_supertype sub_at (λ q. is_within_links is_same sub_at links q z) (sub_at x))
      (one_link links x y z link (climbs rank smaller links path (omega (arith, less, most))))

-- ---- heap, reference and value types

null_kept : (n m : Bool) → (not n || m) ≡ true → n ≡ true → m ≡ true
null_kept true m h k = h
null_kept false m h k = absurd cc

keeps_null : (n m : Bool) → (n ≡ true → m ≡ true) → (not n || m) ≡ true
keeps_null true m h = h refl
keeps_null false m h = refl

-- What the test answers is so by equality alone; that it finds all that is so takes ranks.
module _ {R : Type 0} (ranking : Ranking R) (sub_at : SubTypes R) where
  module _ (equal : (a b : R) → Decides (ranking.is_same a b) (a ≡ b)) where
    heap_told : (a b : HeapType R) → is_heap_below ranking sub_at a b ≡ true → HeapTest sub_at a b
    heap_told (Abstract a) (Abstract b) h = h
    heap_told (Abstract a) (Concrete t) h = defined sub_at t (λ c. is_abstract_below a (bottom_of c)) (λ c. bottom_of c ≡ a) (λ c k. bottom_alone a c k) h
    heap_told (Concrete r) (Abstract b) h = defined sub_at r (λ c. is_abstract_below (abstract_of c) b) (λ c. is_abstract_below (abstract_of c) b ≡ true) (λ c k. k) h
    heap_told (Concrete r) (Concrete t) h = climbed ranking.is_same equal sub_at (ranking.rank r) r t h

    pub heap_sound : (a b : HeapType R) → is_heap_below ranking sub_at a b ≡ true → HeapBelow sub_at a b
    heap_sound a b h = sound sub_at a b (heap_told a b h)

    pub ref_sound : (a b : RefType R) → is_ref_below ranking sub_at a b ≡ true → RefBelow sub_at a b
    ref_sound a b h =
        let parts = both (not a.nullable || b.nullable) (is_heap_below ranking sub_at a.heap_type b.heap_type) h in
        record { null = null_kept a.nullable b.nullable parts.0; heap = heap_sound a.heap_type b.heap_type parts.1 }

    pub val_sound : (a b : ValType R) → is_val_below ranking sub_at a b ≡ true → ValBelow sub_at a b
    val_sound I32 I32 h = tt
    val_sound I64 I64 h = tt
    val_sound F32 F32 h = tt
    val_sound F64 F64 h = tt
    val_sound V128 V128 h = tt
    val_sound (Ref n a) (Ref m b) h = ref_sound (record { nullable = n; heap_type = a }) (record { nullable = m; heap_type = b }) h
    val_sound _ _ h = absurd cc

  module _ (is : IsRanking ranking sub_at) where
    heap_found : (a b : HeapType R) → HeapTest sub_at a b → is_heap_below ranking sub_at a b ≡ true
    heap_found (Abstract a) (Abstract b) h = h
    heap_found (Abstract a) (Concrete t) h =
        is_so sub_at t (λ c. is_abstract_below a (bottom_of c)) (λ c. bottom_of c ≡ a) (λ c k. ap (λ q. is_abstract_below q (bottom_of c)) (sym k) ∙ bottom_itself c) h
    heap_found (Concrete r) (Abstract b) h = is_so sub_at r (λ c. is_abstract_below (abstract_of c) b) (λ c. is_abstract_below (abstract_of c) b ≡ true) (λ c k. k) h
    heap_found (Concrete r) (Concrete t) h = climbs ranking.is_same is.equal sub_at ranking.rank is.smaller (ranking.rank r) h (omega arith)

    pub heap_complete : (a b : HeapType R) → HeapBelow sub_at a b → is_heap_below ranking sub_at a b ≡ true
    heap_complete a b h = heap_found a b (complete sub_at {a = a} {b = b} h)

    pub ref_complete : (a b : RefType R) → RefBelow sub_at a b → is_ref_below ranking sub_at a b ≡ true
    ref_complete a b h =
        together (not a.nullable || b.nullable) (is_heap_below ranking sub_at a.heap_type b.heap_type) (keeps_null a.nullable b.nullable h.null) (heap_complete a.heap_type b.heap_type h.heap)

    pub val_complete : (a b : ValType R) → ValBelow sub_at a b → is_val_below ranking sub_at a b ≡ true
    val_complete I32 I32 h = refl
    val_complete I64 I64 h = refl
    val_complete F32 F32 h = refl
    val_complete F64 F64 h = refl
    val_complete V128 V128 h = refl
    val_complete (Ref n a) (Ref m b) h = ref_complete (record { nullable = n; heap_type = a }) (record { nullable = m; heap_type = b }) h
    val_complete _ _ h = absurd h

    pub heap_decided : (a b : HeapType R) → Decides (is_heap_below ranking sub_at a b) (HeapBelow sub_at a b)
    heap_decided a b = (heap_sound is.equal a b, heap_complete a b)

    pub ref_decided : (a b : RefType R) → Decides (is_ref_below ranking sub_at a b) (RefBelow sub_at a b)
    ref_decided a b = (ref_sound is.equal a b, ref_complete a b)

    pub val_decided : (a b : ValType R) → Decides (is_val_below ranking sub_at a b) (ValBelow sub_at a b)
    val_decided a b = (val_sound is.equal a b, val_complete a b)
