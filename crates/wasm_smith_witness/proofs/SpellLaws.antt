-- The word of groups of the family is a spelling of them.
use Rattle.std.proofs.Common.{◌≡◌, ℕ, zero, suc, ◌-◌, ◌+◌, ◌*◌, ◌/◌, ◌%◌, ◌^◌, ◌≤◌, ◌<◌, Bool, true, false, cond, ltb, List, [], ◌∷◌, ◌++◌, length, Some, refl, sym, ◌∙◌, zero-add, inl, inr, arith}
use Rattle.std.specs.Prelude.{slice_get, ◌==◌, ◌&&◌, ◌||◌, not, nat_lt, nat_le}
use Rattle.std.specs.Int.{byte_at, bytes_high_first}
use Rattle.std.specs.Int.Digits.{number_from_digits_after}
use Rattle.std.specs.List.{list_all, list_any}
use Rattle.std.proofs.lemmas.List.{append-nil, length-append}
use Rattle.std.proofs.lemmas.Option.{slice_get_within}
use Rattle.std.proofs.Math.Nat.{mod-eq_of_lt, pow-le-pow_right}
use Rattle.std.proofs.lemmas.Bool.{lt-ltb, le-ltb, ltb-true, leb-true, cases_lt, and_parts, eqb-true}
use Rattle.std.proofs.lemmas.Bool.Decides.{eqb_tells}
use lib.Arith.{mod-mul}
use Rattle.wasm_spec.specs.Types.{AbstractHeapType, Func, Extern, Any, Eq, I31, Struct, Array, None, NoFunc, NoExtern, Exn, NoExn, Cont, NoCont, HeapType, Abstract, Concrete, ValType, I32, I64, F32, F64, V128, Ref, StorageType, I8, I16, Val, FieldType, FuncType, CompositeType, FuncComposite, StructComposite, ArrayComposite, ContComposite, SubType}
use Rattle.wasm_smith_unstructured.specs.Draws.{least_from, width, big_number}
use Rattle.wasm_smith_unstructured.proofs.NumberLaws.{width_least, power}
use Rattle.wasm_smith_config.specs.declared.config.Config.{Config}
use Rattle.wasm_smith_types.specs.Drawing.{Kind, NumberOrVector, Reference, Front, front_then, asks_then, fits, no_groups, total}
use Rattle.wasm_smith_types.specs.Offering.{common_heaps, max_results, offers}
use Rattle.wasm_smith_types.specs.Spelling.{SpellsBool, SpellsNo, SpellsInt, SpellsChoice, SpellsEach, SpellsEnd, SpellsList, SpellsHeap, SpellsValue, SpellsStorage, SpellsField, SpellsComposite, SpellsType, SpellsMembers, SpellsGroup, SpellsGroups}
use Rattle.wasm_smith_types.proofs.GroupedLaws.{sum_more}
use Rattle.wasm_smith_definitions.specs.FunctionTypes.{is_function}
use Rattle.wasm_smith_witness.specs.Family.{AreMemberGroups, is_offered_heap, is_target, is_enabled, is_member_storage, is_member_field, is_member_function, is_member_composite, is_member_type, is_lone_function, is_member_group, are_member_groups, types_of}
use Rattle.wasm_smith_witness.specs.Words.{bool_byte, no_word, heap_place, heap_word, value_word, storage_word, field_word, int_word, each_word, list_word, function_word, composite_word, type_word, members_word, group_word, groups_word, lone_composite_word, lone_word, types_word}
use Rattle.wasm_smith_witness.specs.Spelling.{SpellsLoneComposite, SpellsLoneFunction, SpellsTypes}
use Rattle.wasm_smith_witness.proofs.LoneLaws.{is_lone_member, lone_groups, lone_many}
use Rattle.wasm_smith_witness.proofs.WordLaws.{high_length}

-- ---- numbers

least_passes : (passes : ℕ → Bool) (k most : ℕ) → passes (k + most) ≡ true → passes (least_from passes k most) ≡ true
unfolding least_from
least_passes passes k zero h = let e : k + 0 ≡ k = omega arith in rw e at h
least_passes passes k (suc most) h =
    let e : k + suc most ≡ k + 1 + most = omega arith in
    by_test (passes k) refl (least_passes passes (k + 1) most (rw e at h))
  where
    by_test : (b : Bool) → passes k ≡ b → passes (least_from passes (k + 1) most) ≡ true → passes (cond b k (least_from passes (k + 1) most)) ≡ true
    by_test true is later = is
    by_test false is later = later

-- as many bytes as a number takes are enough for it
width_enough : (n : ℕ) → n < 2 ^ 64 → n < 256 ^ width n
unfolding width
width_enough n low = ltb-true n _ (least_passes (λ k. nat_lt n (256 ^ k)) 0 8 (lt-ltb n (256 ^ 8) (omega arith)))

pub width_one : (n : ℕ) → 0 < n → n < 256 → width n ≡ 1
width_one n some few =
    let least : width n ≤ 1 = width_least n 1 (omega arith) in
    let enough : n < 256 ^ width n = width_enough n (omega arith) in
    elim (eqb_tells (width n) 0) [
      | inl (t, e) ↦ let none : n < 256 ^ 0 = rw e at enough in absurd (omega arith)
      | inr (t, ne) ↦ omega arith
    ]

byte_is : (w n : ℕ) → byte_at w n ≡ n / 256 ^ w % 256
byte_is zero n = omega arith
byte_is (suc w) n = refl

power_some : (w : ℕ) → 0 < 256 ^ w
power_some w = let some : 0 < 256 = omega arith in let none : 0 ≤ w = omega arith in let one : 256 ^ 0 ≤ 256 ^ w = pow-le-pow_right some none in omega arith

bytes_number : (w m n : ℕ) → number_from_digits_after 256 m (bytes_high_first w n) ≡ m * 256 ^ w + n % 256 ^ w
bytes_number zero m n = omega arith
bytes_number (suc w) m n =
    let k : suc w ≡ w + 1 = omega arith in
    let wide : 256 ^ (w + 1) ≡ 256 * 256 ^ w = power w in
    let some : 0 < 256 = omega arith in
    let low : n % (256 * 256 ^ w) ≡ (n / 256 ^ w % 256) * 256 ^ w + n % 256 ^ w = mod-mul n some (power_some w) in
    let so_far : number_from_digits_after 256 (m * 256 + byte_at w n) (bytes_high_first w n) ≡ (m * 256 + byte_at w n) * 256 ^ w + n % 256 ^ w = bytes_number w (m * 256 + byte_at w n) n in
    so_far ∙ rw (k, wide, low, byte_is w n) (omega arith)

pub int_spells : (greatest n : ℕ) → n ≤ greatest → greatest < 2 ^ 64 → SpellsInt 0 greatest n (int_word greatest n)
unfolding int_word
int_spells greatest n le low =
    let k : greatest - 0 ≡ greatest = omega arith in
    let wide : n < 256 ^ width greatest = omega (arith, width_enough greatest low) in
    let small : n % 256 ^ width greatest ≡ n = mod-eq_of_lt wide in
    let whole : big_number (bytes_high_first (width greatest) n) ≡ n = bytes_number (width greatest) 0 n ∙ rw small (omega arith) in
    let lt : n < greatest + 1 = omega arith in
    (rw k (high_length (width greatest) n), rw (k, whole) (zero-add (n % (greatest + 1)) ∙ mod-eq_of_lt lt))

choice_word : {A : Type 0} (xs : List A) (x : A) (i : ℕ) → slice_get xs i ≡ Some x → 1 < length xs → length xs ≤ 256 → SpellsChoice xs x (i ∷ [])
choice_word xs x i e some few =
    let lt : i < length xs = slice_get_within xs i x e in
    let k : length xs - 1 - 0 + 1 ≡ length xs = omega arith in
    let one : big_number (i ∷ []) ≡ i = omega arith in
    (i, e, (sym (width_one (length xs - 1 - 0) (omega arith) (omega arith)), rw (k, one) (zero-add (i % length xs) ∙ mod-eq_of_lt lt)))

-- ---- places among what is offered

abbrev kinds_of : Bool → Bool → Bool → List Kind
kinds_of f s r = NumberOrVector I32 ∷ NumberOrVector I64 ∷ (cond f (NumberOrVector F32 ∷ NumberOrVector F64 ∷ []) []) ++ (cond s (NumberOrVector V128 ∷ []) []) ++ (cond r (Reference ∷ []) [])

kinds_many : (f s r : Bool) → (1 < length (kinds_of f s r)) × (length (kinds_of f s r) ≤ 256)
kinds_many true true true = (omega arith, omega arith)
kinds_many true true false = (omega arith, omega arith)
kinds_many true false true = (omega arith, omega arith)
kinds_many true false false = (omega arith, omega arith)
kinds_many false true true = (omega arith, omega arith)
kinds_many false true false = (omega arith, omega arith)
kinds_many false false true = (omega arith, omega arith)
kinds_many false false false = (omega arith, omega arith)

float_at : (f s r : Bool) → f ≡ true → (slice_get (kinds_of f s r) 2 ≡ Some (NumberOrVector F32)) × (slice_get (kinds_of f s r) 3 ≡ Some (NumberOrVector F64))
float_at true s r e = (refl, refl)
float_at false s r e = absurd cc

vector_at : (f s r : Bool) → s ≡ true → slice_get (kinds_of f s r) (cond f 4 2) ≡ Some (NumberOrVector V128)
vector_at true true r e = refl
vector_at false true r e = refl
vector_at f false r e = absurd cc

reference_at : (f s r : Bool) → r ≡ true → slice_get (kinds_of f s r) (cond f 4 2 + cond s 1 0) ≡ Some Reference
reference_at true true true e = refl
reference_at true false true e = refl
reference_at false true true e = refl
reference_at false false true e = refl
reference_at f s false e = absurd cc

abbrev heaps_of : Bool → Bool → Bool → List AbstractHeapType
heaps_of gc x st = common_heaps gc x ++ cond st (Cont ∷ NoCont ∷ []) []

heaps_many : (gc x st : Bool) → (1 < length (heaps_of gc x st)) × (length (heaps_of gc x st) ≤ 256)
heaps_many true true true = (omega arith, omega arith)
heaps_many true true false = (omega arith, omega arith)
heaps_many true false true = (omega arith, omega arith)
heaps_many true false false = (omega arith, omega arith)
heaps_many false true true = (omega arith, omega arith)
heaps_many false true false = (omega arith, omega arith)
heaps_many false false true = (omega arith, omega arith)
heaps_many false false false = (omega arith, omega arith)

-- with garbage collection eight more
gc_at : (gc x st : Bool) (i : ℕ) (heap : AbstractHeapType) → gc ≡ true → slice_get (heaps_of true x st) i ≡ Some heap → slice_get (heaps_of gc x st) i ≡ Some heap
gc_at true x st i heap on e = e
gc_at false x st i heap on e = absurd cc

exn_at : (gc x st : Bool) → x ≡ true → slice_get (heaps_of gc x st) (cond gc 10 2) ≡ Some Exn
exn_at true true st e = refl
exn_at false true st e = refl
exn_at gc false st e = absurd cc

no_exn_at : (gc x st : Bool) → (gc && x) ≡ true → slice_get (heaps_of gc x st) 11 ≡ Some NoExn
no_exn_at true true st e = refl
no_exn_at true false st e = absurd cc
no_exn_at false x st e = absurd cc

continuations_at : (gc x st : Bool) → st ≡ true → (slice_get (heaps_of gc x st) (length (common_heaps gc x)) ≡ Some Cont) × (slice_get (heaps_of gc x st) (length (common_heaps gc x) + 1) ≡ Some NoCont)
continuations_at true true true e = (refl, refl)
continuations_at true false true e = (refl, refl)
continuations_at false true true e = (refl, refl)
continuations_at false false true e = (refl, refl)
continuations_at gc x false e = absurd cc

pub kind_spells : (c : Config) (kind : Kind) (i : ℕ) → slice_get (kinds_of c.allow_floats c.simd_enabled c.reference_types_enabled) i ≡ Some kind → SpellsChoice (offers c).kinds kind (i ∷ [])
unfolding offers
kind_spells c kind i e =
    let many = kinds_many c.allow_floats c.simd_enabled c.reference_types_enabled in
    choice_word (kinds_of c.allow_floats c.simd_enabled c.reference_types_enabled) kind i e many.0 many.1

place_spells : (c : Config) (heap : AbstractHeapType) (i : ℕ) → slice_get (heaps_of c.gc_enabled c.exceptions_enabled c.stack_switching_enabled) i ≡ Some heap → SpellsChoice (offers c).heaps heap (i ∷ [])
unfolding offers
place_spells c heap i e =
    let many = heaps_many c.gc_enabled c.exceptions_enabled c.stack_switching_enabled in
    choice_word (heaps_of c.gc_enabled c.exceptions_enabled c.stack_switching_enabled) heap i e many.0 many.1

with_gc : (c : Config) (heap : AbstractHeapType) (i : ℕ) → c.gc_enabled ≡ true → slice_get (heaps_of true c.exceptions_enabled c.stack_switching_enabled) i ≡ Some heap → SpellsChoice (offers c).heaps heap (i ∷ [])
with_gc c heap i on e = place_spells c heap i (gc_at c.gc_enabled c.exceptions_enabled c.stack_switching_enabled i heap on e)

abstract_spells : (c : Config) (heap : AbstractHeapType) → is_offered_heap c heap ≡ true → SpellsChoice (offers c).heaps heap (heap_place c heap ∷ [])
abstract_spells c Func on = place_spells c Func 0 refl
abstract_spells c Extern on = place_spells c Extern 1 refl
abstract_spells c Any on = with_gc c Any 2 on refl
abstract_spells c Eq on = with_gc c Eq 3 on refl
abstract_spells c I31 on = with_gc c I31 4 on refl
abstract_spells c Struct on = with_gc c Struct 5 on refl
abstract_spells c Array on = with_gc c Array 6 on refl
abstract_spells c None on = with_gc c None 7 on refl
abstract_spells c NoFunc on = with_gc c NoFunc 8 on refl
abstract_spells c NoExtern on = with_gc c NoExtern 9 on refl
abstract_spells c Exn on = place_spells c Exn (cond c.gc_enabled 10 2) (exn_at c.gc_enabled c.exceptions_enabled c.stack_switching_enabled on)
abstract_spells c NoExn on = place_spells c NoExn 11 (no_exn_at c.gc_enabled c.exceptions_enabled c.stack_switching_enabled on)
abstract_spells c Cont on = place_spells c Cont (length (common_heaps c.gc_enabled c.exceptions_enabled)) (continuations_at c.gc_enabled c.exceptions_enabled c.stack_switching_enabled on).0
abstract_spells c NoCont on = place_spells c NoCont (length (common_heaps c.gc_enabled c.exceptions_enabled) + 1) (continuations_at c.gc_enabled c.exceptions_enabled c.stack_switching_enabled on).1

-- ---- draws

pub no_spells : (asked : Bool) → SpellsNo asked (no_word asked)
no_spells true = (0, refl, refl)
no_spells false = refl

bool_spells : (b : Bool) → SpellsBool b (bool_byte b ∷ [])
bool_spells true = (1, refl, refl)
bool_spells false = (0, refl, refl)

-- one of three forms
pub form_spells : (n : ℕ) → n ≤ 2 → SpellsInt 0 2 n (n ∷ [])
form_spells n le =
    let one : big_number (n ∷ []) ≡ n = omega arith in
    let w : width (2 - 0) ≡ 1 = width_one 2 (omega arith) (omega arith) in
    let lt : n < 3 = omega arith in
    (sym w, rw one (zero-add (n % 3) ∙ mod-eq_of_lt lt))

-- a number from 1 on
size_spells : (left n : ℕ) → 0 < n → n ≤ left → left < 2 ^ 64 → SpellsInt 1 left n (int_word (left - 1) (n - 1))
size_spells left n some le low =
    let base : SpellsInt 0 (left - 1) (n - 1) (int_word (left - 1) (n - 1)) = int_spells (left - 1) (n - 1) (omega arith) (omega arith) in
    let k : left - 1 - 0 ≡ left - 1 = omega arith in
    let long : length (int_word (left - 1) (n - 1)) ≡ width (left - 1) = rw k at base.0 in
    let value : 0 + big_number (int_word (left - 1) (n - 1)) % (left - 1 + 1) ≡ n - 1 = rw k at base.1 in
    (long, omega (arith, value))

-- ---- one after the other

pub each_spells : {A : Type 0} (test : A → Bool) (SpellsA : A → List ℕ → Type 0) (word : A → List ℕ) → ((x : A) → test x ≡ true → SpellsA x (word x)) → (xs : List A) → list_all test xs ≡ true → SpellsEach SpellsA xs (each_word word xs)
unfolding each_word
each_spells test SpellsA word law [] all = refl
each_spells test SpellsA word law (x ∷ xs) all =
    let both = and_parts (test x) (list_all test xs) all in
    (1 ∷ [], word x, each_word word xs, refl, (1, refl, refl), law x both.0, each_spells test SpellsA word law xs both.1)

end_spells : (room : ℕ) → SpellsEnd room (cond (ltb 0 room) (0 ∷ []) [])
end_spells zero = refl
end_spells (suc room) = let t : ltb 0 (suc room) ≡ true = lt-ltb 0 (suc room) (omega arith) in rw t (0, refl, refl)

room_test : (n max : ℕ) → n ≤ max → ltb n max ≡ ltb 0 (max - n)
room_test n max le =
    elim (cases_lt n max) [
      | inl lt ↦ lt-ltb n max lt ∙ sym (lt-ltb 0 (max - n) (omega arith))
      | inr ge ↦ le-ltb n max ge ∙ sym (le-ltb 0 (max - n) (omega arith))
    ]

list_spells : {A : Type 0} (test : A → Bool) (SpellsA : A → List ℕ → Type 0) (word : A → List ℕ) → ((x : A) → test x ≡ true → SpellsA x (word x)) → (max : ℕ) (xs : List A) → list_all test xs ≡ true → length xs ≤ max → SpellsList SpellsA max xs (list_word word max xs)
unfolding list_word
list_spells test SpellsA word law max xs all le =
    (each_word word xs, cond (ltb (length xs) max) (0 ∷ []) [], refl, each_spells test SpellsA word law xs all, rw (room_test (length xs) max le) (end_spells (max - length xs)), le)

-- ---- types

heap_spells : (c : Config) (bound : ℕ) (heap : HeapType ℕ) → bound < 2 ^ 32 → is_target c bound heap ≡ true → SpellsHeap (offers c) bound heap (heap_word c bound heap)
unfolding heap_word offers
heap_spells c bound (Abstract heap) low on = (no_word (c.gc_enabled && nat_lt 0 bound), heap_place c heap ∷ [], refl, no_spells (c.gc_enabled && nat_lt 0 bound), abstract_spells c heap on)
heap_spells c bound (Concrete index) low on =
    let both = and_parts c.gc_enabled (nat_lt index bound) on in
    let lt : index < bound = ltb-true index bound both.1 in
    (1 ∷ [], int_word (bound - 1) index, refl, both.0, lt, (1, refl, refl), int_spells (bound - 1) index (omega arith) (omega arith))

value_spells : (c : Config) (bound : ℕ) → bound < 2 ^ 32 → (type : ValType ℕ) → is_enabled c bound type ≡ true → SpellsValue (offers c) bound type (value_word c bound type)
unfolding value_word offers
value_spells c bound low I32 on = kind_spells c (NumberOrVector I32) 0 refl
value_spells c bound low I64 on = kind_spells c (NumberOrVector I64) 1 refl
value_spells c bound low F32 on = kind_spells c (NumberOrVector F32) 2 (float_at c.allow_floats c.simd_enabled c.reference_types_enabled on).0
value_spells c bound low F64 on = kind_spells c (NumberOrVector F64) 3 (float_at c.allow_floats c.simd_enabled c.reference_types_enabled on).1
value_spells c bound low V128 on = kind_spells c (NumberOrVector V128) (cond c.allow_floats 4 2) (vector_at c.allow_floats c.simd_enabled c.reference_types_enabled on)
value_spells c bound low (Ref nullable heap) on =
    let place = cond c.allow_floats 4 2 + cond c.simd_enabled 1 0 in
    let both = and_parts (nullable && c.reference_types_enabled) (is_target c bound heap) on in
    let front = and_parts nullable c.reference_types_enabled both.0 in (
      place ∷ [],
      no_word c.gc_enabled,
      heap_word c bound heap,
      refl,
      front.0,
      kind_spells c Reference place (reference_at c.allow_floats c.simd_enabled c.reference_types_enabled front.1),
      no_spells c.gc_enabled,
      heap_spells c bound heap low both.1,
    )

storage_spells : (c : Config) (bound : ℕ) → bound < 2 ^ 32 → (storage : StorageType ℕ) → is_member_storage c bound storage ≡ true → SpellsStorage (offers c) bound storage (storage_word c bound storage)
unfolding storage_word
storage_spells c bound low (Val type) on = (0 ∷ [], value_word c bound type, refl, form_spells 0 (omega arith), value_spells c bound low type on)
storage_spells c bound low I8 on = form_spells 1 (omega arith)
storage_spells c bound low I16 on = form_spells 2 (omega arith)

field_spells : (c : Config) (bound : ℕ) → bound < 2 ^ 32 → (field : FieldType ℕ) → is_member_field c bound field ≡ true → SpellsField (offers c) bound field (field_word c bound field)
unfolding field_word
field_spells c bound low field on = (storage_word c bound field.element_type, bool_byte field.mutable ∷ [], refl, storage_spells c bound low field.element_type on, bool_spells field.mutable)

-- the parameters, and the results
record AreSpelled (c : Config) (bound : ℕ) (type : FuncType ℕ) : Type 0 where
  params : SpellsList (SpellsValue (offers c) bound) 20 type.params (list_word (value_word c bound) 20 type.params)
  results : SpellsList (SpellsValue (offers c) bound) (max_results c) type.results (list_word (value_word c bound) (max_results c) type.results)

function_spells : (c : Config) (bound : ℕ) → bound < 2 ^ 32 → (type : FuncType ℕ) → is_member_function c bound type ≡ true → AreSpelled c bound type
function_spells c bound low type small =
    let few_params = nat_le (length type.params) 20 in
    let few_results = nat_le (length type.results) (max_results c) in
    let params = list_all (is_enabled c bound) type.params in
    let one = and_parts (few_params && few_results && params) (list_all (is_enabled c bound) type.results) small in
    let two = and_parts (few_params && few_results) params one.0 in
    let three = and_parts few_params few_results two.0 in
    record {
      params = list_spells (is_enabled c bound) (SpellsValue (offers c) bound) (value_word c bound) (value_spells c bound low) 20 type.params two.1 (leb-true (length type.params) 20 three.0);
      results = list_spells (is_enabled c bound) (SpellsValue (offers c) bound) (value_word c bound) (value_spells c bound low) (max_results c) type.results one.1 (leb-true (length type.results) (max_results c) three.1);
    }

composite_spells : (c : Config) (bound : ℕ) → bound < 2 ^ 32 → (composite : CompositeType ℕ) → is_member_composite c bound composite ≡ true → SpellsComposite (offers c) bound composite (composite_word c bound composite)
unfolding composite_word function_word offers
composite_spells c bound low (FuncComposite type) small =
    let parts = function_spells c bound low type small in
    (0 ∷ [], list_word (value_word c bound) 20 type.params, list_word (value_word c bound) (max_results c) type.results, refl, form_spells 0 (omega arith), parts.params, parts.results)
composite_spells c bound low (StructComposite fields) small =
    let both = and_parts (nat_le (length fields) 20) (list_all (is_member_field c bound) fields) small in (
      1 ∷ [],
      list_word (field_word c bound) 20 fields,
      refl,
      form_spells 1 (omega arith),
      list_spells (is_member_field c bound) (SpellsField (offers c) bound) (field_word c bound) (field_spells c bound low) 20 fields both.1 (leb-true (length fields) 20 both.0),
    )
composite_spells c bound low (ArrayComposite field) small = (2 ∷ [], field_word c bound field, refl, form_spells 2 (omega arith), field_spells c bound low field small)
composite_spells c bound low (ContComposite function) small = absurd cc

empty_list : {A : Type 0} (xs : List A) → length xs ≡ 0 → xs ≡ []
empty_list [] none = refl
empty_list (x ∷ xs) none = absurd (omega arith)

type_spells : (c : Config) (bound : ℕ) (asked : Bool) (type : SubType ℕ) → bound < 2 ^ 32 → is_member_type c bound type ≡ true → SpellsType (offers c) bound asked type (type_word c bound asked type)
unfolding type_word
type_spells c bound asked type low small =
    let both = and_parts (length type.supertypes == 0) (is_member_composite c bound type.composite_type) small in (
      no_word asked,
      bool_byte (not type.is_final) ∷ [],
      composite_word c bound type.composite_type,
      refl,
      empty_list type.supertypes (eqb-true (length type.supertypes) 0 both.0),
      no_spells asked,
      bool_spells (not type.is_final),
      composite_spells c bound low type.composite_type both.1,
    )

members_spell : (c : Config) (bound : ℕ) (asked : Bool) (types : List (SubType ℕ)) → bound < 2 ^ 32 → list_all (is_member_type c bound) types ≡ true → SpellsMembers (offers c) bound asked types (members_word c bound asked types)
unfolding members_word
members_spell c bound asked [] low small = refl
members_spell c bound asked (type ∷ types) low small =
    let both = and_parts (is_member_type c bound type) (list_all (is_member_type c bound) types) small in
    (type_word c bound asked type, members_word c bound (asks_then asked type) types, refl, type_spells c bound asked type low both.0, members_spell c bound (asks_then asked type) types low both.1)

-- ---- groups

-- what a group of the family is
record IsSome (c : Config) (end : ℕ) (group : List (SubType ℕ)) : Type 0 where
  some : 0 < length group
  types : list_all (is_member_type c end) group ≡ true

is_some : (c : Config) (end : ℕ) (group : List (SubType ℕ)) → is_member_group c end group ≡ true → IsSome c end group
is_some c end group small =
    let front = and_parts (nat_lt 0 (length group) && list_all (is_member_type c end) group) (c.gc_enabled || is_lone_function group) small in
    let both = and_parts (nat_lt 0 (length group)) (list_all (is_member_type c end) group) front.0 in
    record { some = ltb-true 0 (length group) both.0; types = both.1 }

group_spells : (c : Config) (left : ℕ) (front : Front) (group : List (SubType ℕ)) → length group ≤ left → left < 2 ^ 32 → total front.sizes + length group < 2 ^ 32 → is_member_group c (total front.sizes + length group) group ≡ true
    → SpellsGroup (offers c) left front group (group_word c left (total front.sizes + length group) (list_any (fits left) front.sizes) front.asked group)
unfolding group_word
group_spells c left front group le low few small =
    let end = total front.sizes + length group in
    let member = is_some c end group small in (
      no_word (list_any (fits left) front.sizes),
      int_word (left - 1) (length group - 1),
      members_word c end front.asked group,
      refl,
      no_spells (list_any (fits left) front.sizes),
      size_spells left (length group) member.some le (omega arith),
      members_spell c end front.asked group few member.types,
    )

groups_spell : (c : Config) (max : ℕ) (front : Front) (groups : List (List (SubType ℕ))) → max < 2 ^ 32 → total front.sizes + length (types_of groups) ≤ max → are_member_groups c (total front.sizes) groups ≡ true
    → SpellsGroups (offers c) max front groups (groups_word c max front groups)
unfolding groups_word
groups_spell c max front [] low few small = no_spells (nat_lt (total front.sizes) max)
groups_spell c max front (group ∷ groups) low few small =
    let end = total front.sizes + length group in
    let left = max - total front.sizes in
    let both = and_parts (is_member_group c end group) (are_member_groups c end groups) small in
    let some : 0 < length group = (is_some c end group both.0).some in
    let sum : length (group ++ types_of groups) ≡ length group + length (types_of groups) = length-append group (types_of groups) in
    let more : total (front.sizes ++ length group ∷ []) ≡ end = sum_more front.sizes (length group) in (
      1 ∷ [],
      group_word c left end (list_any (fits left) front.sizes) front.asked group,
      groups_word c max (front_then front group) groups,
      refl,
      omega (arith, sum),
      (1, refl, refl),
      group_spells c left front group (omega (arith, sum)) (omega arith) (omega (arith, sum)) both.0,
      groups_spell c max (front_then front group) groups low (omega (arith, sum, more)) (rw more both.1),
    )

-- ---- without garbage collection

lone_composite_spells : (c : Config) (composite : CompositeType ℕ) → is_member_composite c 0 composite ≡ true → is_function composite ≡ true → SpellsLoneComposite (offers c) composite (lone_composite_word c composite)
unfolding lone_composite_word function_word offers
lone_composite_spells c (FuncComposite type) small is =
    let parts = function_spells c 0 (omega arith) type small in
    (list_word (value_word c 0) 20 type.params, list_word (value_word c 0) (max_results c) type.results, refl, parts.params, parts.results)
lone_composite_spells c (StructComposite fields) small is = absurd cc
lone_composite_spells c (ArrayComposite field) small is = absurd cc
lone_composite_spells c (ContComposite function) small is = absurd cc

lone_spells : (c : Config) (group : List (SubType ℕ)) → is_lone_member c group ≡ true → SpellsLoneFunction (offers c) group (lone_word c group)
unfolding lone_word
lone_spells c [] small = absurd cc
lone_spells c (type ∷ []) small =
    let both = and_parts (is_member_type c 0 type && true) (type.is_final && is_function type.composite_type) small in
    let final = and_parts type.is_final (is_function type.composite_type) both.1 in
    let member = and_parts (length type.supertypes == 0) (is_member_composite c 0 type.composite_type) (and_parts (is_member_type c 0 type) true both.0).0 in (
      final.0,
      empty_list type.supertypes (eqb-true (length type.supertypes) 0 member.0),
      rw (append-nil (lone_composite_word c type.composite_type)) (lone_composite_spells c type.composite_type member.1 final.1),
    )
lone_spells c (type ∷ next ∷ types) small =
    let both = and_parts (list_all (is_member_type c 0) (type ∷ next ∷ types)) false small in
    let wrong : false ≡ true = both.1 in
    absurd cc

-- ---- with and without

pub member_types_spell : (c : Config) (groups : List (List (SubType ℕ))) → c.max_types < 2 ^ 32 → AreMemberGroups c groups → SpellsTypes c.gc_enabled (offers c) c.max_types groups (types_word c groups)
unfolding types_word
member_types_spell c groups low member = by_gc c.gc_enabled refl
  where
    by_gc : (gc : Bool) → c.gc_enabled ≡ gc → SpellsTypes gc (offers c) c.max_types groups (cond gc (groups_word c c.max_types no_groups groups) (list_word (lone_word c) c.max_types groups))
    by_gc true on = groups_spell c c.max_types no_groups groups low (omega (arith, member.few)) member.each
    by_gc false off =
        let all : list_all (is_lone_member c) groups ≡ true = sym (lone_groups c off 0 groups) ∙ member.each in
        let many : length groups ≤ c.max_types = omega (arith, member.few, lone_many c groups all) in
        list_spells (is_lone_member c) (SpellsLoneFunction (offers c)) (lone_word c) (lone_spells c) c.max_types groups all many
