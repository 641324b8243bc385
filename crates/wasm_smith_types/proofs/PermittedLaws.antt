-- Types that are drawn are permitted.
use Rattle.std.proofs.Common.{◌≡◌, ℕ, ◌-◌, ◌≤◌, ◌<◌, Bool, true, false, ◌&&◌, ◌||◌, cond, List, [], ◌∷◌, length, Option, Some, None, refl, inl, inr, arith, not}
use Rattle.std.proofs.lemmas.Bool.{le-leb, ltb-true, not-false, and_parts, and_from}
use Rattle.std.specs.List.{AllByRecursion, flat_map}
use Rattle.std.specs.Prelude.{nat_le, nat_lt, ◌==◌}
use Rattle.wasm_spec.specs.Features.{Features, ReferenceTypes, MultiValue, has}
use Rattle.wasm_spec.specs.Gates.{is_allowed_abstract, is_allowed_heap, is_allowed, is_allowed_storage}
use Rattle.wasm_spec.specs.TypeReferences.{heap_refs, val_refs, field_refs}
use Rattle.wasm_spec.specs.Types.{AbstractHeapType, Func, Concrete, ValType, I8, I16, Val, FieldType, FuncType, FuncComposite, StructComposite, ArrayComposite}
use Rattle.wasm_smith_unstructured.specs.Draws.{int_at, choose_at}
use Rattle.wasm_smith_types.specs.Drawing.{Kind, NumberOrVector, Reference, Offers, bool_if, heap_of, heap_at, reference_at, value_of, value_at, values_at, storage_at, field_at, fields_at, function_at, structure_at, array_at, composite_at}
use Rattle.wasm_smith_types.specs.Permitted.{IsPermittedValue, IsPermittedStorage, IsPermittedComposite, SuitsKind, SuitsValues, Suits}
use Rattle.wasm_smith_types.proofs.ListLaws.{index_below, all_append, all_pass, chosen, grow_all, grow_few}

-- what holds of both holds of the one that is taken
taken : {A : Type 0} (P : A → Type 0) (b : Bool) (x y : A × List ℕ) → (b ≡ true → P x.0) → (b ≡ false → P y.0) → P (cond b x y).0
taken P true x y p q = p refl
taken P false x y p q = q refl

asked_since : (asked : Bool) (s : List ℕ) → (bool_if asked s).0 ≡ true → asked ≡ true
unfolding bool_if
asked_since true s e = refl
asked_since false s e = absurd cc

pub all_flat : {X : Type 0} (P : ℕ → Type 0) (f : X → List ℕ) (xs : List X) → AllByRecursion (λ x. AllByRecursion P (f x)) xs → AllByRecursion P (flat_map f xs)
all_flat P f [] h = tt
all_flat P f (x ∷ xs) h = all_append P (f x) (flat_map f xs) h.0 (all_flat P f xs h.1)

pub all_imply' : {A : Type 0} (P Q : A → Type 0) → ((x : A) → P x → Q x) → (xs : List A) → AllByRecursion P xs → AllByRecursion Q xs
all_imply' P Q f [] all = tt
all_imply' P Q f (x ∷ xs) all = (f x all.0, all_imply' P Q f xs all.1)

or_true : (b : Bool) → (b || true) ≡ true
or_true true = refl
or_true false = refl

module _ (features : Features) (o : Offers) (suits : SuitsValues features o) (bound : ℕ) where
  func_allowed : (nullable : Bool) → (nullable ≡ false → o.gc ≡ true) → is_allowed_abstract features nullable Func ≡ true
  func_allowed true p = refl
  func_allowed false p = suits.references (p refl)

  heap_of_permitted : (nullable : Bool) → (nullable ≡ false → o.gc ≡ true) → (h : Option AbstractHeapType)
      → ((heap : AbstractHeapType) → h ≡ Some heap → is_allowed_abstract features nullable heap ≡ true)
      → (is_allowed_heap features nullable (heap_of h) ≡ true) × AllByRecursion (λ r. r < bound) (heap_refs (heap_of h))
  heap_of_permitted nullable gc (Some heap) p = (p heap refl, tt)
  heap_of_permitted nullable gc None p = (func_allowed nullable gc, tt)

  each_heap : (nullable : Bool) → (nullable ≡ false → o.gc ≡ true) → AllByRecursion (λ heap. is_allowed_abstract features nullable heap ≡ true) o.heaps
  each_heap true p = suits.heaps
  each_heap false p = suits.non_null (p refl)

  heap_permitted : (nullable : Bool) → (nullable ≡ false → o.gc ≡ true) → (s : List ℕ)
      → (is_allowed_heap features nullable (heap_at o bound s).0 ≡ true) × AllByRecursion (λ r. r < bound) (heap_refs (heap_at o bound s).0)
  unfolding heap_at
  heap_permitted nullable gc s =
      let concrete = bool_if (o.gc && nat_lt 0 bound) s in
      let i = int_at 0 (bound - 1) concrete.1 in
      let c = choose_at o.heaps concrete.1 in
      taken (λ heap. (is_allowed_heap features nullable heap ≡ true) × AllByRecursion (λ r. r < bound) (heap_refs heap)) concrete.0 (Concrete i.0, i.1)
      (heap_of c.0, c.1)
      (λ e. let asked = and_parts o.gc (nat_lt 0 bound) (asked_since (o.gc && nat_lt 0 bound) s e) in
      let some : 0 < bound = ltb-true 0 bound asked.1 in
      (rw (suits.gc asked.0) refl, (index_below bound concrete.1 (λ z. absurd (omega arith)), tt)))
      (λ e. heap_of_permitted nullable gc c.0 (λ heap is. chosen (λ h. is_allowed_abstract features nullable h ≡ true) o.heaps concrete.1 heap (each_heap nullable gc) is))

  pub reference_permitted : (s : List ℕ) → has features ReferenceTypes ≡ true → IsPermittedValue features bound (reference_at o bound s).0
  unfolding reference_at
  reference_permitted s on =
      let non_null = bool_if o.gc s in
      let h = heap_permitted (not non_null.0) (λ e. asked_since o.gc s (not-false non_null.0 e)) non_null.1 in
      record { allowed = and_from (has features ReferenceTypes) (is_allowed_heap features (not non_null.0) (heap_at o bound non_null.1).0) on h.0; in_range = h.1 }

  value_of_permitted : (k : Option Kind) (s : List ℕ) → ((kind : Kind) → k ≡ Some kind → SuitsKind features kind)
      → IsPermittedValue features bound (value_of o bound k s).0
  value_of_permitted (Some (NumberOrVector type)) s p = p (NumberOrVector type) refl bound
  value_of_permitted (Some Reference) s p = reference_permitted s (p Reference refl)
  value_of_permitted None s p = record { allowed = refl; in_range = tt }

  pub value_permitted : (s : List ℕ) → IsPermittedValue features bound (value_at o bound s).0
  unfolding value_at
  value_permitted s = value_of_permitted (choose_at o.kinds s).0 (choose_at o.kinds s).1 (λ k e. chosen (SuitsKind features) o.kinds s k suits.kinds e)

  values_permitted : (max : ℕ) (s : List ℕ) → AllByRecursion (IsPermittedValue features bound) (values_at o bound max s).0
  unfolding values_at
  values_permitted max s = grow_all (IsPermittedValue features bound) (value_at o bound) value_permitted 0 max s

  values_few : (max : ℕ) (s : List ℕ) → length (values_at o bound max s).0 ≤ max
  unfolding values_at
  values_few max s = grow_few (value_at o bound) 0 max s

  storage_permitted : (s : List ℕ) → IsPermittedStorage features bound (storage_at o bound s).0
  unfolding storage_at
  storage_permitted s =
      let form = int_at 0 2 s in
      let v = value_at o bound form.1 in
      let permitted = value_permitted form.1 in
      taken (IsPermittedStorage features bound) (form.0 == 0) (Val v.0, v.1) (cond (form.0 == 1) (I8, form.1) (I16, form.1))
      (λ e. record { allowed = permitted.allowed; in_range = permitted.in_range })
      (λ e. taken (IsPermittedStorage features bound) (form.0 == 1) (I8, form.1) (I16, form.1) (λ f. record { allowed = refl; in_range = tt }) (λ f. record { allowed = refl; in_range = tt }))

  pub field_permitted : (s : List ℕ) → IsPermittedStorage features bound (field_at o bound s).0.element_type
  unfolding field_at
  field_permitted s = storage_permitted s

  -- lists of permitted parts
  pub function_is_permitted : (type : FuncType ℕ) → AllByRecursion (IsPermittedValue features bound) type.params
      → AllByRecursion (IsPermittedValue features bound) type.results → length type.params ≤ 20 → length type.results ≤ o.most_results
      → IsPermittedComposite features bound (FuncComposite type)
  function_is_permitted type params results few few' =
      let each = λ (t : ValType ℕ) (h : IsPermittedValue features bound t). h.allowed in
      let several : (nat_le (length type.results) 1 || has features MultiValue) ≡ true = elim suits.several [
        | inl one ↦ rw (le-leb (length type.results) 1 (omega (arith, one, few'))) refl
        | inr on ↦ rw on (or_true (nat_le (length type.results) 1))
      ] in
      record {
        allowed =
            rw
            (all_pass (IsPermittedValue features bound) (is_allowed features) each type.params params, all_pass (IsPermittedValue features bound) (is_allowed features) each type.results results) several;
        in_range = all_append (λ r. r < bound) (flat_map val_refs type.params) (flat_map val_refs type.results)
            (all_flat (λ r. r < bound) val_refs type.params (all_imply' (IsPermittedValue features bound) (λ t. AllByRecursion (λ r. r < bound) (val_refs t)) (λ t h. h.in_range) type.params params))
            (all_flat (λ r. r < bound) val_refs type.results (all_imply' (IsPermittedValue features bound) (λ t. AllByRecursion (λ r. r < bound) (val_refs t)) (λ t h. h.in_range) type.results results));
        small = (few, omega (arith, few', suits.most));
      }

  pub function_permitted : (s : List ℕ) → IsPermittedComposite features bound (function_at o bound s).0
  unfolding function_at
  function_permitted s =
      let params = values_at o bound 20 s in
      let results = values_at o bound o.most_results params.1 in
      function_is_permitted (record { params = params.0; results = results.0 }) (values_permitted 20 s) (values_permitted o.most_results params.1)
      (values_few 20 s) (values_few o.most_results params.1)

module _ (features : Features) (o : Offers) (suits : Suits features o) (bound : ℕ) where
  pub structure_is_permitted : (fields : List (FieldType ℕ)) → AllByRecursion (λ f. IsPermittedStorage features bound f.element_type) fields
      → length fields ≤ 20 → IsPermittedComposite features bound (StructComposite fields)
  structure_is_permitted fields permitted few = record {
    allowed =
        rw (suits.values.gc suits.on, suits.gc_types)
        (all_pass (λ f. IsPermittedStorage features bound f.element_type) (λ f. is_allowed_storage features f.element_type) (λ f h. h.allowed) fields permitted);
    in_range =
        all_flat (λ r. r < bound) field_refs fields
        (all_imply' (λ f. IsPermittedStorage features bound f.element_type) (λ f. AllByRecursion (λ r. r < bound) (field_refs f)) (λ f h. h.in_range) fields permitted);
    small = few;
  }

  pub array_is_permitted : (field : FieldType ℕ) → IsPermittedStorage features bound field.element_type
      → IsPermittedComposite features bound (ArrayComposite field)
  array_is_permitted field permitted =
      record { allowed = rw (suits.values.gc suits.on, suits.gc_types) permitted.allowed; in_range = permitted.in_range; small = tt }

  structure_permitted : (s : List ℕ) → IsPermittedComposite features bound (structure_at o bound s).0
  unfolding structure_at fields_at
  structure_permitted s =
      structure_is_permitted (fields_at o bound 0 s).0
      (grow_all (λ f. IsPermittedStorage features bound f.element_type) (field_at o bound) (field_permitted features o suits.values bound) 0 20 s)
      (grow_few (field_at o bound) 0 20 s)

  array_permitted : (s : List ℕ) → IsPermittedComposite features bound (array_at o bound s).0
  unfolding array_at
  array_permitted s = array_is_permitted (field_at o bound s).0 (field_permitted features o suits.values bound s)

  pub composite_permitted : (s : List ℕ) → IsPermittedComposite features bound (composite_at o bound s).0
  unfolding composite_at
  composite_permitted s =
      let form = int_at 0 2 s in
      taken (IsPermittedComposite features bound) (form.0 == 0) (function_at o bound form.1)
      (cond (form.0 == 1) (structure_at o bound form.1) (array_at o bound form.1))
      (λ e. function_permitted features o suits.values bound form.1)
      (λ e. taken (IsPermittedComposite features bound) (form.0 == 1) (structure_at o bound form.1) (array_at o bound form.1) (λ f. structure_permitted form.1) (λ f. array_permitted form.1))
