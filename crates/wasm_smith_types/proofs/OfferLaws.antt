-- One of what is offered, as the code has it and as the specification does.
use Rattle.std.proofs.Common.{◌≡◌, ℕ, zero, suc, ◌-◌, ◌<◌, List, [], ◌∷◌, length, map, true, false, Bool, cond, nat_lt, ◌&&◌, Option, Some, None, Result, Ok, Err, refl, sym, ap, inl, inr, arith}
use Rattle.std.proofs.lemmas.List.{length-map}
use Rattle.std.specs.Option.{option_map}
use Rattle.std.specs.Prelude.{slice_get, ◌==◌, IsOk}
use Rattle.std.proofs.lemmas.Bool.{ltb-true, and_parts}
use Rattle.std.proofs.lemmas.Bool.Decides.{eqb_tells}
use Rattle.std.proofs.lemmas.Option.{slice_get_cases}
use Rattle.wasm_spec.specs.Types as spec
use Rattle.wasm_core_types.specs.declared.types.AbstractHeapType.{AbstractHeapType}
use Rattle.wasm_core_types.specs.declared.types.ValType.{ValType}
use Rattle.wasm_core_types.specs.CoreTypes.{abstract_heap_type, val_type}
use Rattle.wasm_smith_unstructured.specs.Draws.{int_at, choose_at, given}
use Rattle.wasm_smith_types.specs.Drawing.{Offers, bool_if, heap_at, reference_at, value_at}
use Rattle.wasm_smith_types.specs.Offered.{kind}
use Rattle.wasm_smith_types.specs.declared.value_types.Kind.{Kind}
use Rattle.wasm_smith_types.specs.declared.value_types.Kind.TheVariants.{NumberOrVector, Reference}

get_map : {A B : Type 0} (f : A → B) (xs : List A) (i : ℕ) → slice_get (map f xs) i ≡ option_map f (slice_get xs i)
get_map f [] i = refl
get_map f (x ∷ xs) zero = refl
get_map f (x ∷ xs) (suc i) = get_map f xs i

abbrev seen : {A B : Type 0} → (A → B) → Option A × List ℕ → Option B × List ℕ
seen f x = (option_map f x.0, x.1)

if_map : {A B : Type 0} (f : A → B) (b : Bool) (x y : Option A × List ℕ) → cond b (seen f x) (seen f y) ≡ seen f (cond b x y)
if_map f true x y = refl
if_map f false x y = refl

-- what is chosen of the seen things is what is chosen of the things, seen
pub choose_map : {A B : Type 0} (f : A → B) (xs : List A) (s : List ℕ) → choose_at (map f xs) s ≡ seen f (choose_at xs s)
unfolding choose_at
choose_map f xs s =
    let i = int_at 0 (length xs - 1) s in
    rw (length-map xs f, get_map f xs i.0) (if_map f (length xs == 0) (None, s) (slice_get xs i.0, i.1))

pub choose_seen : {A B : Type 0} (f : A → B) (xs : List A) (s t : List ℕ) (o : Option A) → choose_at xs s ≡ (o, t)
    → choose_at (map f xs) s ≡ (option_map f o, t)
choose_seen f xs s t o e = rw (choose_map f xs s, e) refl

index_below : (count : ℕ) (s : List ℕ) → (count ≡ 0 → ⊥) → (int_at 0 (count - 1) s).0 < count
unfolding int_at
index_below count s some = omega arith

-- ---- something is chosen

some_below : {A : Type 0} (xs : List A) (i : ℕ) → i < length xs → slice_get xs i ≡ None → ⊥
some_below xs i lt none =
    elim ((slice_get_cases xs i).1) [
      | inl (x, within, is, same) ↦ absurd cc
      | inr (past, is) ↦ absurd (omega arith)
    ]

pub is_chosen : {X Y E : Type 0} (view : X → Y) (xs : List Y) (s t : List ℕ) (r : Result X E) → choose_at xs s ≡ (given view r, t) → 0 < length xs → IsOk r
unfolding choose_at
is_chosen view xs s t (Ok x) e some = refl
is_chosen {X} {Y} view xs s t (Err err) e some =
    elim (eqb_tells (length xs) 0) [
      | inl (test, none) ↦ absurd (omega arith)
      | inr (test, n) ↦ absurd (some_below xs (int_at 0 (length xs - 1) s).0 (index_below (length xs) s n) (ap (λ (d : Option Y × List ℕ). d.0) (rw test at e)))
    ]

-- ---- a value type

abbrev seen_offers : List Kind → List AbstractHeapType → Bool → ℕ → Offers
seen_offers kinds heaps gc most = record { kinds = map kind kinds; heaps = map abstract_heap_type heaps; gc = gc; most_results = most }

pub heap_chosen : (kinds : List Kind) (heaps : List AbstractHeapType) (gc : Bool) (most : ℕ) (o : Offers) (s t : List ℕ) (heap : AbstractHeapType)
    → seen_offers kinds heaps gc most ≡ o → choose_at heaps s ≡ (Some heap, t)
    → choose_at o.heaps s ≡ (Some (abstract_heap_type heap), t)
heap_chosen kinds heaps gc most o s t heap is e = rw (sym is) (choose_seen abstract_heap_type heaps s t (Some heap) e)

pub value_plain : (kinds : List Kind) (heaps : List AbstractHeapType) (gc : Bool) (most : ℕ) (o : Offers) (bound : ℕ) (s t : List ℕ) (type : ValType)
    → seen_offers kinds heaps gc most ≡ o → choose_at kinds s ≡ (Some (NumberOrVector type), t)
    → value_at o bound s ≡ (val_type type, t)
unfolding value_at
value_plain kinds heaps gc most o bound s t type is e = rw (sym is, choose_seen kind kinds s t (Some (NumberOrVector type)) e) refl

pub value_reference : (kinds : List Kind) (heaps : List AbstractHeapType) (gc : Bool) (most : ℕ) (o : Offers) (bound : ℕ) (s t : List ℕ)
    → seen_offers kinds heaps gc most ≡ o → choose_at kinds s ≡ (Some Reference, t)
    → value_at o bound s ≡ reference_at o bound t
unfolding value_at
value_reference kinds heaps gc most o bound s t is e = rw (sym is, choose_seen kind kinds s t (Some Reference) e) refl

-- ---- bools

pub was_asked : (asked : Bool) (s t : List ℕ) → bool_if asked s ≡ (true, t) → asked ≡ true
unfolding bool_if
was_asked true s t e = refl
was_asked false s t e = let f : false ≡ true = ap (λ (p : Bool × List ℕ). p.0) e in absurd cc

pub some_bound : (gc : Bool) (bound : ℕ) (s t : List ℕ) → bool_if (gc && nat_lt 0 bound) s ≡ (true, t) → 0 < bound
some_bound gc bound s t e = ltb-true 0 bound (and_parts gc (nat_lt 0 bound) (was_asked (gc && nat_lt 0 bound) s t e)).1

pub heap_concrete : (o : Offers) (bound index : ℕ) (s t u : List ℕ) → bool_if (o.gc && nat_lt 0 bound) s ≡ (true, t) → int_at 0 (bound - 1) t ≡ (index, u)
    → heap_at o bound s ≡ (spec.Concrete index, u)
unfolding heap_at
heap_concrete o bound index s t u asked e = rw (asked, e) refl

pub heap_abstract : (o : Offers) (bound : ℕ) (heap : spec.AbstractHeapType) (s t u : List ℕ) → bool_if (o.gc && nat_lt 0 bound) s ≡ (false, t)
    → choose_at o.heaps t ≡ (Some heap, u) → heap_at o bound s ≡ (spec.Abstract heap, u)
unfolding heap_at
heap_abstract o bound heap s t u asked e = rw (asked, e) refl
