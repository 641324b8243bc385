-- A list that has a spelling is of the family.
use Rattle.std.proofs.Common.{◌≡◌, ℕ, zero, suc, Some, ◌+◌, ◌-◌, ◌≤◌, ◌<◌, Bool, true, false, cond, List, [], ◌∷◌, ◌++◌, length, refl, ◌∙◌, arith}
use Rattle.std.specs.Prelude.{slice_get, ◌&&◌, ◌||◌, ◌==◌, nat_le, nat_lt}
use Rattle.std.specs.List.{AllByRecursion, list_all}
use Rattle.std.proofs.lemmas.Bool.{and_from, lt-ltb, le-leb}
use Rattle.std.proofs.lemmas.List.{length-append}
use Rattle.wasm_spec.specs.Types.{AbstractHeapType, Any, Eq, I31, Struct, Array, None, NoFunc, NoExtern, Exn, NoExn, Cont, NoCont, HeapType, Abstract, Concrete, ValType, I32, I64, F32, F64, V128, Ref, StorageType, I8, I16, Val, FieldType, FuncType, CompositeType, FuncComposite, StructComposite, ArrayComposite, ContComposite, SubType}
use Rattle.wasm_smith_config.specs.declared.config.Config.{Config}
use Rattle.wasm_smith_types.specs.Drawing.{Kind, NumberOrVector, Reference, Front, front_then, asks_then, no_groups, total}
use Rattle.wasm_smith_types.specs.Offering.{common_heaps, max_results, offers}
use Rattle.wasm_smith_types.specs.Spelling.{SpellsInt, SpellsChoice, SpellsEach, SpellsList, SpellsHeap, SpellsValue, SpellsStorage, SpellsField, SpellsComposite, SpellsType, SpellsMembers, SpellsGroups}
use Rattle.wasm_smith_definitions.specs.FunctionTypes.{is_function, function_indexes}
use Rattle.wasm_smith_witness.specs.Spelling.{Spells, SpellsFunctions, SpellsLoneComposite, SpellsLoneFunction, SpellsTypes}
use Rattle.wasm_smith_types.proofs.ListLaws.{all_append, all_if, all_get}
use Rattle.wasm_smith_types.proofs.GroupedLaws.{sum_more}
use Rattle.wasm_smith_witness.specs.Family.{AreMemberGroups, IsMember, is_function_at, is_offered_heap, is_target, is_enabled, is_member_storage, is_member_field, is_member_function, is_member_composite, is_member_type, is_lone_function, is_member_group, are_member_groups, types_of}
use Rattle.wasm_smith_witness.proofs.LoneLaws.{is_lone_member, lone_groups, are_lone}

-- ---- what is offered

abbrev IsEnabledKind : Config → ℕ → Kind → Type 0
IsEnabledKind c bound (NumberOrVector type) = is_enabled c bound type ≡ true
IsEnabledKind c bound Reference = c.reference_types_enabled ≡ true

kinds_enabled : (c : Config) (bound : ℕ) → AllByRecursion (IsEnabledKind c bound) (offers c).kinds
unfolding offers
kinds_enabled c bound = (
  refl,
  (
    refl,
    all_append (IsEnabledKind c bound) (cond c.allow_floats (NumberOrVector F32 ∷ NumberOrVector F64 ∷ []) [] ++ cond c.simd_enabled (NumberOrVector V128 ∷ []) []) (cond c.reference_types_enabled (Reference ∷ []) [])
        (all_append (IsEnabledKind c bound) (cond c.allow_floats (NumberOrVector F32 ∷ NumberOrVector F64 ∷ []) []) (cond c.simd_enabled (NumberOrVector V128 ∷ []) [])
        (all_if (IsEnabledKind c bound) c.allow_floats (NumberOrVector F32 ∷ NumberOrVector F64 ∷ []) (λ on. (on, (on, tt))))
        (all_if (IsEnabledKind c bound) c.simd_enabled (NumberOrVector V128 ∷ []) (λ on. (on, tt))))
        (all_if (IsEnabledKind c bound) c.reference_types_enabled (Reference ∷ []) (λ on. (on, tt))),
  ),
)

abbrev with_gc : List AbstractHeapType
with_gc = Any ∷ Eq ∷ I31 ∷ Struct ∷ Array ∷ None ∷ NoFunc ∷ NoExtern ∷ []

common_offered : (c : Config) → AllByRecursion (λ heap. is_offered_heap c heap ≡ true) (common_heaps c.gc_enabled c.exceptions_enabled)
common_offered c = (
  refl,
  (
    refl,
    all_append (λ heap. is_offered_heap c heap ≡ true) (cond c.gc_enabled with_gc [] ++ cond c.exceptions_enabled (Exn ∷ []) []) (cond (c.gc_enabled && c.exceptions_enabled) (NoExn ∷ []) [])
        (all_append (λ heap. is_offered_heap c heap ≡ true) (cond c.gc_enabled with_gc []) (cond c.exceptions_enabled (Exn ∷ []) [])
        (all_if (λ heap. is_offered_heap c heap ≡ true) c.gc_enabled with_gc (λ on. (on, (on, (on, (on, (on, (on, (on, (on, tt))))))))))
        (all_if (λ heap. is_offered_heap c heap ≡ true) c.exceptions_enabled (Exn ∷ []) (λ on. (on, tt))))
        (all_if (λ heap. is_offered_heap c heap ≡ true) (c.gc_enabled && c.exceptions_enabled) (NoExn ∷ []) (λ on. (on, tt))),
  ),
)

heaps_offered : (c : Config) → AllByRecursion (λ heap. is_offered_heap c heap ≡ true) (offers c).heaps
unfolding offers
heaps_offered c =
    all_append (λ heap. is_offered_heap c heap ≡ true) (common_heaps c.gc_enabled c.exceptions_enabled) (cond c.stack_switching_enabled (Cont ∷ NoCont ∷ []) []) (common_offered c)
    (all_if (λ heap. is_offered_heap c heap ≡ true) c.stack_switching_enabled (Cont ∷ NoCont ∷ []) (λ on. (on, (on, tt))))

kind_enabled : (c : Config) (bound : ℕ) (kind : Kind) (s : List ℕ) → SpellsChoice (offers c).kinds kind s → IsEnabledKind c bound kind
kind_enabled c bound kind s h = all_get (IsEnabledKind c bound) (offers c).kinds h.0 kind (kinds_enabled c bound) h.1

heap_offered : (c : Config) (heap : AbstractHeapType) (s : List ℕ) → SpellsChoice (offers c).heaps heap s → is_offered_heap c heap ≡ true
heap_offered c heap s h = all_get (λ x. is_offered_heap c x ≡ true) (offers c).heaps h.0 heap (heaps_offered c) h.1

target_offered : (c : Config) (bound : ℕ) (heap : HeapType ℕ) (s : List ℕ) → SpellsHeap (offers c) bound heap s → is_target c bound heap ≡ true
unfolding offers
target_offered c bound (Abstract heap) s h = heap_offered c heap h.1 h.4
target_offered c bound (Concrete index) s h = and_from c.gc_enabled (nat_lt index bound) h.3 (lt-ltb index bound h.4)

value_enabled : (c : Config) (bound : ℕ) (type : ValType ℕ) (s : List ℕ) → SpellsValue (offers c) bound type s → is_enabled c bound type ≡ true
value_enabled c bound I32 s h = refl
value_enabled c bound I64 s h = refl
value_enabled c bound F32 s h = kind_enabled c bound (NumberOrVector F32) s h
value_enabled c bound F64 s h = kind_enabled c bound (NumberOrVector F64) s h
value_enabled c bound V128 s h = kind_enabled c bound (NumberOrVector V128) s h
value_enabled c bound (Ref nullable heap) s h =
    let front = and_from nullable c.reference_types_enabled h.4 (kind_enabled c bound Reference h.0 h.5) in
    and_from (nullable && c.reference_types_enabled) (is_target c bound heap) front (target_offered c bound heap h.2 h.7)

storage_small : (c : Config) (bound : ℕ) (storage : StorageType ℕ) (s : List ℕ) → SpellsStorage (offers c) bound storage s → is_member_storage c bound storage ≡ true
storage_small c bound (Val type) s h = value_enabled c bound type h.1 h.4
storage_small c bound I8 s h = refl
storage_small c bound I16 s h = refl

field_small : (c : Config) (bound : ℕ) (field : FieldType ℕ) (s : List ℕ) → SpellsField (offers c) bound field s → is_member_field c bound field ≡ true
field_small c bound field s h = storage_small c bound field.element_type h.0 h.3

-- ---- one after the other

each_passes : {A : Type 0} (test : A → Bool) (SpellsA : A → List ℕ → Type 0) → ((x : A) (s : List ℕ) → SpellsA x s → test x ≡ true) → (xs : List A) (s : List ℕ) → SpellsEach SpellsA xs s → list_all test xs ≡ true
each_passes test SpellsA law [] s h = refl
each_passes test SpellsA law (x ∷ xs) s h = and_from (test x) (list_all test xs) (law x h.1 h.5) (each_passes test SpellsA law xs h.2 h.6)

-- ---- types

function_small : (c : Config) (bound : ℕ) (type : FuncType ℕ) (a b : List ℕ) → SpellsList (SpellsValue (offers c) bound) 20 type.params a → SpellsList (SpellsValue (offers c) bound) (max_results c) type.results b → is_member_function c bound type ≡ true
function_small c bound type a b of_params of_results =
    let few_params = nat_le (length type.params) 20 in
    let few_results = nat_le (length type.results) (max_results c) in
    let params = list_all (is_enabled c bound) type.params in
    let few = and_from few_params few_results (le-leb (length type.params) 20 of_params.5) (le-leb (length type.results) (max_results c) of_results.5) in
    let front = and_from (few_params && few_results) params few (each_passes (is_enabled c bound) (SpellsValue (offers c) bound) (value_enabled c bound) type.params of_params.0 of_params.3) in
    and_from (few_params && few_results && params) (list_all (is_enabled c bound) type.results) front (each_passes (is_enabled c bound) (SpellsValue (offers c) bound) (value_enabled c bound) type.results of_results.0 of_results.3)

composite_small : (c : Config) (bound : ℕ) (composite : CompositeType ℕ) (s : List ℕ) → SpellsComposite (offers c) bound composite s → is_member_composite c bound composite ≡ true
unfolding offers
composite_small c bound (FuncComposite type) s h = function_small c bound type h.1 h.2 h.5 h.6
composite_small c bound (StructComposite fields) s h =
    and_from (nat_le (length fields) 20) (list_all (is_member_field c bound) fields) (le-leb (length fields) 20 h.4.5) (each_passes (is_member_field c bound) (SpellsField (offers c) bound) (field_small c bound) fields h.4.0 h.4.3)
composite_small c bound (ArrayComposite field) s h = field_small c bound field h.1 h.4
composite_small c bound (ContComposite function) s h = absurd h

type_small : (c : Config) (bound : ℕ) (asked : Bool) (type : SubType ℕ) (s : List ℕ) → SpellsType (offers c) bound asked type s → is_member_type c bound type ≡ true
type_small c bound asked type s h =
    let none : (length type.supertypes == 0) ≡ true = rw h.4 refl in
    and_from (length type.supertypes == 0) (is_member_composite c bound type.composite_type) none (composite_small c bound type.composite_type h.2 h.7)

members_small : (c : Config) (bound : ℕ) (asked : Bool) (types : List (SubType ℕ)) (s : List ℕ) → SpellsMembers (offers c) bound asked types s → list_all (is_member_type c bound) types ≡ true
members_small c bound asked [] s h = refl
members_small c bound asked (type ∷ types) s h =
    and_from (is_member_type c bound type) (list_all (is_member_type c bound) types) (type_small c bound asked type h.0 h.3) (members_small c bound (asks_then asked type) types h.1 h.4)

-- ---- groups

size_within : (left n : ℕ) (s : List ℕ) → 0 < left → SpellsInt 1 left n s → (0 < n) × (n ≤ left)
size_within left n s some h = let is = h.1 in (omega arith, omega arith)

groups_small : (c : Config) → c.gc_enabled ≡ true → (max : ℕ) (front : Front) (groups : List (List (SubType ℕ))) (s : List ℕ) → total front.sizes ≤ max → SpellsGroups (offers c) max front groups s
    → (are_member_groups c (total front.sizes) groups ≡ true) × (total front.sizes + length (types_of groups) ≤ max)
groups_small c on max front [] s few h = (refl, omega arith)
groups_small c on max front (group ∷ groups) s few h =
    let end = total front.sizes + length group in
    let lt : total front.sizes < max = h.4 in
    let left : 0 < max - total front.sizes = omega arith in
    let size = size_within (max - total front.sizes) (length group) h.6.1 left h.6.5 in
    let some = and_from (nat_lt 0 (length group)) (list_all (is_member_type c end) group) (lt-ltb 0 (length group) size.0) (members_small c end front.asked group h.6.2 h.6.6) in
    let with_gc : (c.gc_enabled || is_lone_function group) ≡ true = rw on refl in
    let small = and_from (nat_lt 0 (length group) && list_all (is_member_type c end) group) (c.gc_enabled || is_lone_function group) some with_gc in
    let more : total (front.sizes ++ length group ∷ []) ≡ end = sum_more front.sizes (length group) in
    let sum : length (group ++ types_of groups) ≡ length group + length (types_of groups) = length-append group (types_of groups) in
    let others = groups_small c on max (front_then front group) groups h.2 (omega (arith, more, size.1)) h.7 in
    let rest : are_member_groups c end groups ≡ true = rw more at others.0 in
    (and_from (is_member_group c end group) (are_member_groups c end groups) small rest, omega (arith, sum, more, others.1))

-- ---- without garbage collection

lone_composite_small : (c : Config) (composite : CompositeType ℕ) (s : List ℕ) → SpellsLoneComposite (offers c) composite s → (is_member_composite c 0 composite ≡ true) × (is_function composite ≡ true)
unfolding offers
lone_composite_small c (FuncComposite type) s h = (function_small c 0 type h.0 h.1 h.3 h.4, refl)
lone_composite_small c (StructComposite fields) s h = absurd h
lone_composite_small c (ArrayComposite field) s h = absurd h
lone_composite_small c (ContComposite function) s h = absurd h

lone_small : (c : Config) (group : List (SubType ℕ)) (s : List ℕ) → SpellsLoneFunction (offers c) group s → is_lone_member c group ≡ true
lone_small c [] s h = absurd h
lone_small c (type ∷ []) s h =
    let none : (length type.supertypes == 0) ≡ true = rw h.1 refl in
    let of_function = lone_composite_small c type.composite_type s h.2 in
    let member = and_from (length type.supertypes == 0) (is_member_composite c 0 type.composite_type) none of_function.0 in
    and_from (is_member_type c 0 type && true) (type.is_final && is_function type.composite_type) (and_from (is_member_type c 0 type) true member refl)
    (and_from type.is_final (is_function type.composite_type) h.0 of_function.1)
lone_small c (type ∷ next ∷ types) s h = absurd h

-- ---- with and without

types_fit : (c : Config) (groups : List (List (SubType ℕ))) (s : List ℕ) → SpellsTypes c.gc_enabled (offers c) c.max_types groups s → AreMemberGroups c groups
types_fit c groups s h = by_gc c.gc_enabled refl h
  where
    by_gc : (gc : Bool) → c.gc_enabled ≡ gc → SpellsTypes gc (offers c) c.max_types groups s → AreMemberGroups c groups
    by_gc true on h = let small = groups_small c on c.max_types no_groups groups s (omega arith) h in record { each = small.0; few = omega (arith, small.1) }
    by_gc false off h = record {
      each = lone_groups c off 0 groups ∙ each_passes (is_lone_member c) (SpellsLoneFunction (offers c)) (lone_small c) groups h.0 h.3;
      few = rw (are_lone (offers c) groups h.0 h.3).many h.5;
    }

-- ---- functions

indexed : (types : List (SubType ℕ)) (first place index : ℕ) → slice_get (function_indexes first types) place ≡ Some index → (after : ℕ) × (index ≡ first + after) × (is_function_at types after ≡ true)
indexed [] first place index e = absurd cc
indexed (type ∷ types) first place index e = by_kind (is_function type.composite_type) refl place e (λ next. indexed types (suc first) next index)
  where
    by_kind : (kind : Bool) → is_function type.composite_type ≡ kind → (place : ℕ) → slice_get (cond kind (first ∷ function_indexes (suc first) types) (function_indexes (suc first) types)) place ≡ Some index
        → ((next : ℕ) → slice_get (function_indexes (suc first) types) next ≡ Some index → (after : ℕ) × (index ≡ suc first + after) × (is_function_at types after ≡ true))
        → (after : ℕ) × (index ≡ first + after) × (is_function_at (type ∷ types) after ≡ true)
    by_kind true is zero e rest = let same : first ≡ index = cc in (0, omega (arith, same), is)
    by_kind true is (suc next) e rest = let more = rest next e in (suc more.0, omega (arith, more.1), more.2)
    by_kind false is place e rest = let more = rest place e in (suc more.0, omega (arith, more.1), more.2)

choice_small : (types : List (SubType ℕ)) (index : ℕ) (s : List ℕ) → SpellsChoice (function_indexes 0 types) index s → is_function_at types index ≡ true
choice_small types index s h =
    let one = indexed types 0 h.0 index h.1 in
    let k : one.0 ≡ index = omega (arith, one.1) in
    rw k at one.2

functions_small : (types : List (SubType ℕ)) (max : ℕ) (funcs s : List ℕ) → SpellsFunctions (function_indexes 0 types) max funcs s → (list_all (is_function_at types) funcs ≡ true) × (length funcs ≤ max)
functions_small types max funcs s h = by_list (function_indexes 0 types) refl h
  where
    by_list : (indexes : List ℕ) → function_indexes 0 types ≡ indexes → SpellsFunctions indexes max funcs s → (list_all (is_function_at types) funcs ≡ true) × (length funcs ≤ max)
    by_list [] e h = rw h.0 (refl, omega arith)
    by_list (first ∷ others) e h = (each_passes (is_function_at types) (SpellsChoice (first ∷ others)) (λ index s one. choice_small types index s (rw e one)) funcs s h.0, h.1)

-- ---- lists

pub spelled_member : (c : Config) (groups : List (List (SubType ℕ))) (funcs s : List ℕ) → Spells c groups funcs s → IsMember c groups funcs
spelled_member c groups funcs s h =
    let called = functions_small (types_of groups) c.max_funcs funcs h.back h.spells_funcs in
    record { types_fit = types_fit c groups h.front h.spells_groups; functions_fit = record { each = called.0; few = called.1 } }
