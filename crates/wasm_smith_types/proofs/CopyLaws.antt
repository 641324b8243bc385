-- A copy under a supertype matches it, and is permitted.
use Rattle.std.proofs.Common.{◌≡◌, ℕ, zero, suc, ◌+◌, ◌≤◌, ◌<◌, Bool, true, false, ◌&&◌, ◌||◌, List, [], ◌∷◌, ◌++◌, map, drop, get_or, append_assoc, length, refl, sym, ap, arith, length-append, subst}
use Rattle.std.proofs.lemmas.Bool.{and_parts, and_from}
use Rattle.std.proofs.lemmas.List.{append-nil, drop_more}
use Rattle.std.specs.List.{AllByRecursion, flat_map, list_all}
use Rattle.std.specs.Prelude.{nat_le}
use Rattle.wasm_spec.specs.Features.{Features, ReferenceTypes, MultiValue, FunctionReferences, Gc, GcTypes, has}
use Rattle.wasm_spec.specs.Gates.{is_allowed_abstract, is_allowed_heap, is_allowed, is_allowed_storage}
use Rattle.wasm_spec.specs.Matching.{Pairwise, FrontPairwise, StorageBelow, FieldMatches}
use Rattle.wasm_spec.specs.Subtyping.{SubTypes, ValBelow, same}
use Rattle.wasm_spec.specs.TypeReferences.{val_refs, field_refs}
use Rattle.wasm_spec.specs.Types.{AbstractHeapType, Func, Extern, Any, None, NoExtern, NoFunc, Eq, Struct, Array, I31, Exn, NoExn, Cont, NoCont, HeapType, Abstract, Concrete, ValType, I32, I64, F32, F64, V128, Ref, StorageType, I8, I16, Val, FieldType, FuncType, FuncComposite, StructComposite, ArrayComposite, ContComposite}
use Rattle.wasm_spec.proofs.MappedBack.{all_left, all_right}
use Rattle.wasm_spec.proofs.TypeOrders.{val_same, field_same}
use Rattle.wasm_smith_types.specs.Copies.{varied, Varies, narrowed_storage, narrowed_field, IsNarrowedField}
use Rattle.wasm_smith_types.specs.Drawing.{Offers, field_at, fields_at}
use Rattle.wasm_smith_types.specs.Permitted.{IsPermittedValue, IsPermittedStorage, IsPermittedComposite, IsPermittedCopy, Suits}
use Rattle.wasm_smith_types.specs.Growing.{grow_at, with_front}
use Rattle.wasm_smith_types.proofs.PermittedLaws.{all_flat, all_imply', field_permitted, structure_is_permitted, array_is_permitted}
use Rattle.wasm_smith_types.proofs.ListLaws.{all_append, all_pass, grow_all_after, grow_few_after}

-- ---- lists

drop_past : {X : Type 0} (xs : List X) (i : ℕ) → length xs ≤ i → drop i xs ≡ []
drop_past [] zero h = refl
drop_past [] (suc i) h = refl
drop_past (x ∷ xs) zero h = absurd (omega arith)
drop_past (x ∷ xs) (suc i) h = drop_past xs i (omega arith)

pub all_copied : {X Y : Type 0} (Rel : Y → Y → Type 0) (view : X → Y) (xs : List X) (i : ℕ) (ys : List Y) → length xs ≤ i
    → ((rest : List Y) → Pairwise Rel rest (map view (drop i xs)) → Pairwise Rel (ys ++ rest) (map view xs)) → Pairwise Rel ys (map view xs)
all_copied {X} {Y} Rel view xs i ys past kept =
    let none : drop i xs ≡ [] = drop_past xs i past in
    let whole = kept [] (subst (λ zs. Pairwise Rel [] (map view zs)) (sym none) tt) in
    subst (λ zs. Pairwise Rel zs (map view xs)) (append-nil ys) whole

-- one more copy
pub copied_more : {X Y : Type 0} (Rel : Y → Y → Type 0) (view : X → Y) (xs : List X) (i : ℕ) (d : X) (ys next : List Y) (v : Y) → i < length xs
    → next ≡ ys ++ v ∷ [] → Rel v (view (get_or xs i d))
    → ((rest : List Y) → Pairwise Rel rest (map view (drop i xs)) → Pairwise Rel (ys ++ rest) (map view xs))
    → (rest : List Y) → Pairwise Rel rest (map view (drop (i + 1) xs)) → Pairwise Rel (next ++ rest) (map view xs)
copied_more Rel view xs i d ys next v lt pushed one kept rest others =
    let whole : Pairwise Rel (v ∷ rest) (map view (drop i xs)) = rw (drop_more xs i d lt) (one, others) in
    rw (pushed, append_assoc ys (v ∷ []) rest) (kept (v ∷ rest) whole)

pairwise_imply : {X : Type 0} (P Q : X → X → Type 0) → ((x y : X) → P x y → Q x y) → (xs ys : List X) → Pairwise P xs ys → Pairwise Q xs ys
pairwise_imply P Q one [] [] m = tt
pairwise_imply P Q one (x ∷ xs) (y ∷ ys) m = (one x y m.0, pairwise_imply P Q one xs ys m.1)
pairwise_imply P Q one [] (y ∷ ys) m = m
pairwise_imply P Q one (x ∷ xs) [] m = m

pairwise_turned : {X : Type 0} (P Q : X → X → Type 0) → ((x y : X) → P x y → Q y x) → (xs ys : List X) → Pairwise P xs ys → Pairwise Q ys xs
pairwise_turned P Q one [] [] m = tt
pairwise_turned P Q one (x ∷ xs) (y ∷ ys) m = (one x y m.0, pairwise_turned P Q one xs ys m.1)
pairwise_turned P Q one [] (y ∷ ys) m = m
pairwise_turned P Q one (x ∷ xs) [] m = m

front_longer : {X : Type 0} (P Q : X → X → Type 0) → ((x y : X) → P x y → Q x y) → (xs ys more : List X) → Pairwise P xs ys → FrontPairwise Q (xs ++ more) ys
front_longer P Q one [] [] more m = tt
front_longer P Q one (x ∷ xs) (y ∷ ys) more m = (one x y m.0, front_longer P Q one xs ys more m.1)
front_longer P Q one [] (y ∷ ys) more m = absurd m
front_longer P Q one (x ∷ xs) [] more m = tt

pairwise_length : {X : Type 0} (P : X → X → Type 0) (xs ys : List X) → Pairwise P xs ys → length xs ≡ length ys
pairwise_length P [] [] m = refl
pairwise_length P (x ∷ xs) (y ∷ ys) m = ap suc (pairwise_length P xs ys m.1)
pairwise_length P [] (y ∷ ys) m = absurd m
pairwise_length P (x ∷ xs) [] m = absurd m

-- what holds of the originals holds of the copies
all_copies : {X : Type 0} (P : X → X → Type 0) (Q : X → Type 0) → ((x y : X) → P x y → Q y → Q x) → (xs ys : List X) → Pairwise P xs ys → AllByRecursion Q ys
    → AllByRecursion Q xs
all_copies P Q one [] [] m all = tt
all_copies P Q one (x ∷ xs) (y ∷ ys) m all = (one x y m.0 all.0, all_copies P Q one xs ys m.1 all.1)
all_copies P Q one [] (y ∷ ys) m all = tt
all_copies P Q one (x ∷ xs) [] m all = absurd m

-- ---- copies match

varied_below : (sub_at : SubTypes ℕ) (a b : ValType ℕ) → Varies false a b → ValBelow sub_at a b
varied_below sub_at a b (false, is) = rw is (val_same sub_at b)
varied_below sub_at a (Ref n heap) (true, is) = rw is (record { null = λ e. absurd cc; heap = same })
varied_below sub_at a b (true, is) = rw is (val_same sub_at b)

varied_above : (sub_at : SubTypes ℕ) (a b : ValType ℕ) → Varies true a b → ValBelow sub_at b a
varied_above sub_at a b (false, is) = rw is (val_same sub_at b)
varied_above sub_at a (Ref n heap) (true, is) = rw is (record { null = λ e. refl; heap = same })
varied_above sub_at a b (true, is) = rw is (val_same sub_at b)

narrowed_below : (sub_at : SubTypes ℕ) (drawn : Bool) (type : StorageType ℕ) → StorageBelow sub_at (narrowed_storage drawn type) type
narrowed_below sub_at drawn (Val type) = varied_below sub_at (varied false drawn type) type (drawn, refl)
narrowed_below sub_at drawn I8 = tt
narrowed_below sub_at drawn I16 = tt

narrowed_matches : (sub_at : SubTypes ℕ) (drawn mutable : Bool) (type : StorageType ℕ)
    → FieldMatches sub_at (narrowed_field drawn (record { element_type = type; mutable = mutable })) (record { element_type = type; mutable = mutable })
narrowed_matches sub_at drawn true type = field_same sub_at (record { element_type = type; mutable = true })
narrowed_matches sub_at drawn false type = record { same = refl; below = narrowed_below sub_at drawn type; back = λ e. absurd cc }

field_matches : (sub_at : SubTypes ℕ) (a b : FieldType ℕ) → IsNarrowedField a b → FieldMatches sub_at a b
field_matches sub_at a b (drawn, is) = subst (λ f. FieldMatches sub_at f b) (sym is) (narrowed_matches sub_at drawn b.mutable b.element_type)

-- ---- copies are permitted

or_true' : (b : Bool) → (b || true) ≡ true
or_true' true = refl
or_true' false = refl

null_allowed : (features : Features) (n m : Bool) (heap : AbstractHeapType) → has features FunctionReferences ≡ true
    → is_allowed_abstract features n heap ≡ true → is_allowed_abstract features m heap ≡ true
null_allowed features n m Func on h = rw on (or_true' m)
null_allowed features n m Extern on h =
    rw on (and_from (has features GcTypes) (m || true) (and_parts (has features GcTypes) (n || has features FunctionReferences) h).0 (or_true' m))
null_allowed features n m Any on h = h
null_allowed features n m None on h = h
null_allowed features n m NoExtern on h = h
null_allowed features n m NoFunc on h = h
null_allowed features n m Eq on h = h
null_allowed features n m Struct on h = h
null_allowed features n m Array on h = h
null_allowed features n m I31 on h = h
null_allowed features n m Exn on h = h
null_allowed features n m NoExn on h = h
null_allowed features n m Cont on h = h
null_allowed features n m NoCont on h = h

null_allowed_heap : (features : Features) (n m : Bool) (heap : HeapType ℕ) → has features FunctionReferences ≡ true → is_allowed_heap features n heap ≡ true
    → is_allowed_heap features m heap ≡ true
null_allowed_heap features n m (Abstract heap) on h = null_allowed features n m heap on h
null_allowed_heap features n m (Concrete index) on h = h

module _ (features : Features) (o : Offers) (suits : Suits features o) (bound : ℕ) where
  varied_permitted : (nullable drawn : Bool) (type : ValType ℕ) → IsPermittedValue features bound type
      → IsPermittedValue features bound (varied nullable drawn type)
  varied_permitted nullable false type permitted = permitted
  varied_permitted nullable true (Ref n heap) permitted =
      let parts = and_parts (has features ReferenceTypes) (is_allowed_heap features n heap) permitted.allowed in
      record { allowed = and_from (has features ReferenceTypes) (is_allowed_heap features nullable heap) parts.0 (null_allowed_heap features n nullable heap (suits.values.references suits.on) parts.1); in_range = permitted.in_range }
  varied_permitted nullable true I32 permitted = permitted
  varied_permitted nullable true I64 permitted = permitted
  varied_permitted nullable true F32 permitted = permitted
  varied_permitted nullable true F64 permitted = permitted
  varied_permitted nullable true V128 permitted = permitted

  varied_is_permitted : (nullable : Bool) (a b : ValType ℕ) → Varies nullable a b → IsPermittedValue features bound b → IsPermittedValue features bound a
  varied_is_permitted nullable a b (drawn, is) permitted = subst (IsPermittedValue features bound) (sym is) (varied_permitted nullable drawn b permitted)

  narrowed_permitted : (drawn : Bool) (type : StorageType ℕ) → IsPermittedStorage features bound type
      → IsPermittedStorage features bound (narrowed_storage drawn type)
  narrowed_permitted drawn (Val type) permitted =
      let v = varied_permitted false drawn type
      (record { allowed = permitted.allowed; in_range = permitted.in_range }) in record { allowed = v.allowed; in_range = v.in_range }
  narrowed_permitted drawn I8 permitted = permitted
  narrowed_permitted drawn I16 permitted = permitted

  narrowed_field_permitted : (drawn mutable : Bool) (type : StorageType ℕ) → IsPermittedStorage features bound type
      → IsPermittedStorage features bound (narrowed_field drawn (record { element_type = type; mutable = mutable })).element_type
  narrowed_field_permitted drawn true type permitted = permitted
  narrowed_field_permitted drawn false type permitted = narrowed_permitted drawn type permitted

  field_is_permitted : (a b : FieldType ℕ) → IsNarrowedField a b → IsPermittedStorage features bound b.element_type
      → IsPermittedStorage features bound a.element_type
  field_is_permitted a b (drawn, is) permitted =
      subst (λ f. IsPermittedStorage features bound f.element_type) (sym is) (narrowed_field_permitted drawn b.mutable b.element_type permitted)

  -- the parts of permitted lists
  values_parts : (types : List (ValType ℕ)) → list_all (is_allowed features) types ≡ true → AllByRecursion (λ r. r < bound) (flat_map val_refs types)
      → AllByRecursion (IsPermittedValue features bound) types
  values_parts [] allowed range = tt
  values_parts (t ∷ ts) allowed range =
      let parts = and_parts (is_allowed features t) (list_all (is_allowed features) ts) allowed in
      (record { allowed = parts.0; in_range = all_left (λ r. r < bound) (val_refs t) (flat_map val_refs ts) range }, values_parts ts parts.1 (all_right (λ r. r < bound) (val_refs t) (flat_map val_refs ts) range))

  fields_parts : (fields : List (FieldType ℕ)) → list_all (λ f. is_allowed_storage features f.element_type) fields ≡ true
      → AllByRecursion (λ r. r < bound) (flat_map field_refs fields) → AllByRecursion (λ f. IsPermittedStorage features bound f.element_type) fields
  fields_parts [] allowed range = tt
  fields_parts (f ∷ fs) allowed range =
      let parts = and_parts (is_allowed_storage features f.element_type) (list_all (λ f. is_allowed_storage features f.element_type) fs) allowed in
      (record { allowed = parts.0; in_range = all_left (λ r. r < bound) (field_refs f) (flat_map field_refs fs) range }, fields_parts fs parts.1 (all_right (λ r. r < bound) (field_refs f) (flat_map field_refs fs) range))

  pub function_copy : (a b : FuncType ℕ) → Pairwise (Varies true) a.params b.params → Pairwise (Varies false) a.results b.results
      → IsPermittedComposite features bound (FuncComposite b) → IsPermittedCopy features bound (FuncComposite a) (FuncComposite b)
  function_copy a b params results permitted =
      let Permitted = IsPermittedValue features bound in
      let allowed =
      and_parts (list_all (is_allowed features) b.params && list_all (is_allowed features) b.results)
      (nat_le (length b.results) 1 || has features MultiValue) permitted.allowed in
      let lists = and_parts (list_all (is_allowed features) b.params) (list_all (is_allowed features) b.results) allowed.0 in
      let params' =
      all_copies (Varies true) Permitted (varied_is_permitted true) a.params b.params params
      (values_parts b.params lists.0 (all_left (λ r. r < bound) (flat_map val_refs b.params) (flat_map val_refs b.results) permitted.in_range)) in
      let results' =
      all_copies (Varies false) Permitted (varied_is_permitted false) a.results b.results results
      (values_parts b.results lists.1 (all_right (λ r. r < bound) (flat_map val_refs b.params) (flat_map val_refs b.results) permitted.in_range)) in
      let many : length a.params ≡ length b.params = pairwise_length (Varies true) a.params b.params params in
      let many' : length a.results ≡ length b.results = pairwise_length (Varies false) a.results b.results results in
      let few = permitted.small.0 in
      let few' = permitted.small.1 in
      record {
        permitted = record {
          allowed =
              rw
              (all_pass Permitted (is_allowed features) (λ t h. h.allowed) a.params params', all_pass Permitted (is_allowed features) (λ t h. h.allowed) a.results results', many') allowed.1;
          in_range = all_append (λ r. r < bound) (flat_map val_refs a.params) (flat_map val_refs a.results)
              (all_flat (λ r. r < bound) val_refs a.params (all_imply' Permitted (λ t. AllByRecursion (λ r. r < bound) (val_refs t)) (λ t h. h.in_range) a.params params'))
              (all_flat (λ r. r < bound) val_refs a.results (all_imply' Permitted (λ t. AllByRecursion (λ r. r < bound) (val_refs t)) (λ t h. h.in_range) a.results results'));
          small = (omega (arith, many, few), omega (arith, many', few'));
        };
        matches = λ sub_at. record {
          params = pairwise_turned (Varies true) (ValBelow sub_at) (varied_above sub_at) a.params b.params params;
          results = pairwise_imply (Varies false) (ValBelow sub_at) (varied_below sub_at) a.results b.results results;
        };
        continues = λ sub_at h. tt;
      }

  pub structure_copy : (front more ys : List (FieldType ℕ)) → Pairwise IsNarrowedField front ys
      → AllByRecursion (λ f. IsPermittedStorage features bound f.element_type) more → length (front ++ more) ≤ 20
      → IsPermittedComposite features bound (StructComposite ys) → IsPermittedCopy features bound (StructComposite (front ++ more)) (StructComposite ys)
  structure_copy front more ys copied permitted_more few permitted =
      let Permitted = λ (f : FieldType ℕ). IsPermittedStorage features bound f.element_type in
      let allowed = and_parts (has features Gc && has features GcTypes) (list_all (λ f. is_allowed_storage features f.element_type) ys) permitted.allowed in
      let each = all_copies IsNarrowedField Permitted field_is_permitted front ys copied (fields_parts ys allowed.1 permitted.in_range) in
      record {
        permitted = structure_is_permitted features o suits bound (front ++ more) (all_append Permitted front more each permitted_more) few;
        matches = λ sub_at. front_longer IsNarrowedField (FieldMatches sub_at) (field_matches sub_at) front ys more copied;
        continues = λ sub_at h. tt;
      }

  pub array_copy : (a b : FieldType ℕ) → IsNarrowedField a b → IsPermittedComposite features bound (ArrayComposite b)
      → IsPermittedCopy features bound (ArrayComposite a) (ArrayComposite b)
  array_copy a b copied permitted =
      let allowed = and_parts (has features Gc && has features GcTypes) (is_allowed_storage features b.element_type) permitted.allowed in
      record {
        permitted = array_is_permitted features o suits bound a (field_is_permitted a b copied (record { allowed = allowed.1; in_range = permitted.in_range }));
        matches = λ sub_at. field_matches sub_at a b copied;
        continues = λ sub_at h. tt;
      }

  pub same_copy : (r : ℕ) → IsPermittedComposite features bound (ContComposite r) → IsPermittedCopy features bound (ContComposite r) (ContComposite r)
  same_copy r permitted = record { permitted = permitted; matches = λ sub_at. same; continues = λ sub_at h. h }

  -- a structure grows after the fields that are copied
  pub grown_copy : (fields front ys : List (FieldType ℕ)) (s t : List ℕ) → Pairwise IsNarrowedField front ys
      → with_front front (fields_at o bound (length front) s) ≡ (fields, t) → IsPermittedComposite features bound (StructComposite ys)
      → IsPermittedCopy features bound (StructComposite fields) (StructComposite ys)
  unfolding with_front fields_at
  grown_copy fields front ys s t copied grown permitted =
      let more = (grow_at (field_at o bound) 0 20 (length front) s).0 in
      let is : front ++ more ≡ fields = ap (λ (d : List (FieldType ℕ) × List ℕ). d.0) grown in
      let few : length ys ≤ 20 = permitted.small in
      let same : length front ≡ length ys = pairwise_length IsNarrowedField front ys copied in
      let room = grow_few_after (field_at o bound) 0 20 (length front) s in
      subst (λ fs. IsPermittedCopy features bound (StructComposite fs) (StructComposite ys)) is
      (structure_copy front more ys copied (grow_all_after (λ f. IsPermittedStorage features bound f.element_type) (field_at o bound) (field_permitted features o suits.values bound) 0 20 (length front) s) (omega (arith, room, same, few, length-append front more)) permitted)
