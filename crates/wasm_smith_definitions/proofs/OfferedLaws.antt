-- Types that a configuration offers keep the rules under its features.
use Rattle.std.proofs.Common.{◌≡◌, ℕ, zero, suc, ◌-◌, ◌/◌, ◌^◌, ◌<◌, ◌≤◌, Bool, true, false, ◌&&◌, ◌||◌, List, length, refl, ap, sym, ◌∙◌, subst, arith, min, nat_eq, nat_lt, nat_le, if◌then◌else◌, Option, Some, None, is_some}
use Rattle.std.specs.List.{AllByRecursion}
use Rattle.std.proofs.lemmas.Bool.{and_from, and_parts, or_right, lt-ltb}
use Rattle.std.specs.Prelude.{◌≢◌}
use Rattle.wasm_core_types.specs.CoreTypes.{val_type}
use Rattle.wasm_core_types.specs.declared.types.RefType.{RefType}
use Rattle.wasm_core_types.specs.declared.types.ValType as code
use Rattle.wasm_core_types.specs.declared.types.ValType.TheVariants as codes
use Rattle.wasm_spec.specs.Features.{Features, has, MutableGlobal, Memory64, Threads, CustomPageSizes, MultiMemory, GcTypes, ReferenceTypes}
use Rattle.wasm_spec.specs.Gates.{is_allowed_abstract, is_allowed_heap}
use Rattle.wasm_spec.specs.TypeReferences.{val_refs}
use Rattle.wasm_spec.specs.Types as types
use Rattle.wasm_spec.specs.Types.{AbstractHeapType, Func, Extern, Any, NoExtern, NoFunc, Eq, Struct, Array, I31, Exn, NoExn, Cont, NoCont, HeapType, Abstract, Concrete, ValType, I32, I64, F32, F64, V128, Ref, GlobalType, Limits, MemoryType, SubType}
use Rattle.wasm_validity.specs.Rules.{may_cross}
use Rattle.wasm_validity.specs.TypeRules.{implies, are_bounds, most_pages, is_memory_type}
use Rattle.wasm_smith_config.specs.Config.{AreFeaturesOf}
use Rattle.wasm_smith_config.specs.declared.config.Config.{Config}
use Rattle.wasm_smith_types.specs.Drawing.{Offers, bool_if, value_at}
use Rattle.wasm_smith_types.specs.Permitted.{IsPermittedValue, SuitsValues}
use Rattle.wasm_smith_types.proofs.OfferingLaws.{values_suit}
use Rattle.wasm_smith_types.proofs.PermittedLaws.{value_permitted}
use Rattle.wasm_smith_definitions.specs.Kinds.{of_memory}
use Rattle.wasm_smith_definitions.specs.Steps.{Allows}
use Rattle.wasm_smith_validity.specs.Rules.{keeps_memory}
use Rattle.wasm_smith_validity.specs.Spaces.{Spaces, is_named, is_value}
use Rattle.wasm_smith_definitions.specs.Constants.{MayWrite, has_plain}
use Rattle.wasm_smith_definitions.specs.Offered.{AreBoundsWithin, most_pages_for, IsOfferedMemory, HasByteLimits, AreOffersOf, IsPermittedFor, IsOfferedValue, with_null}

pub implies_from : (a b : Bool) → (a ≡ true → b ≡ true) → implies a b ≡ true
implies_from true b h = h refl
implies_from false b h = refl

-- a bool is drawn only where it is asked
pub asked_since : (asked : Bool) (s t : List ℕ) (b : Bool) → bool_if asked s ≡ (b, t) → b ≡ true → asked ≡ true
unfolding bool_if
asked_since true s t b e h = refl
asked_since false s t b e h = let fst : Bool × List ℕ → Bool = λ p. p.0 in let none : false ≡ b = ap fst e in none ∙ h

-- ---- bounds

le_of : (a b : ℕ) → a ≤ b → nat_le a b ≡ true
le_of a b h = grind arith

bounds_are : (limits : Limits) (greatest : ℕ) (o : Option ℕ) → limits.maximum ≡ o → limits.minimum ≤ greatest → ((m : ℕ) → o ≡ Some m → (limits.minimum ≤ m) × (m ≤ greatest)) → are_bounds limits greatest ≡ true
bounds_are limits greatest None e least above = rw e (le_of limits.minimum greatest least)
bounds_are limits greatest (Some m) e least above = rw e (and_from _ _ (le_of limits.minimum m (above m refl).0) (le_of m greatest (above m refl).1))

pub bounds_from : (limits : Limits) (cap greatest : ℕ) → AreBoundsWithin cap limits.minimum limits.maximum → cap ≤ greatest → are_bounds limits greatest ≡ true
bounds_from limits cap greatest h le =
    bounds_are limits greatest limits.maximum refl (let o = h.ordered in omega (arith, o)) (λ m e. let a = h.above m e in (a.0, let b = a.1 in omega (arith, b)))

-- ---- memories

cap_of_bytes : (c : Config) → HasByteLimits c → (is_64 single : Bool)
    → (if is_64 then min (c.max_memory64_bytes / (if single then 1 else 2 ^ 16)) (2 ^ 64 - 1) else min (c.max_memory32_bytes / (if single then 1 else 2 ^ 16)) (2 ^ 32 - 1))
    ≤ (if single then (if is_64 then 2 ^ 64 - 1 else 2 ^ 32) else (if is_64 then 2 ^ 48 else 2 ^ 16))
cap_of_bytes c limits true true = omega (arith, limits.bytes_64)
cap_of_bytes c limits true false = omega (arith, limits.bytes_64)
cap_of_bytes c limits false true = omega (arith, limits.bytes_32)
cap_of_bytes c limits false false = omega (arith, limits.bytes_32)

pages_within : (c : Config) → HasByteLimits c → (is_64 : Bool) (size : Option ℕ) → most_pages_for c is_64 size ≤ most_pages is_64 size
pages_within c limits is_64 None = cap_of_bytes c limits is_64 false
pages_within c limits is_64 (Some size) = cap_of_bytes c limits is_64 (nat_eq size 0)

memory_is : (c : Config) (features : Features) (type : MemoryType) → AreFeaturesOf c features → HasByteLimits c → IsOfferedMemory c type → is_memory_type features type ≡ true
memory_is c features type f limits h =
    and_from _ _ (implies_from type.is_64 _ (λ e. f Memory64 ∙ h.is_64 e))
    (and_from _ _ (implies_from type.shared _ (λ e. and_from _ _ (f Threads ∙ h.shared e) (h.shared_maximum e)))
    (and_from _ _ (implies_from (is_some type.page_size_log2) _ (λ e. f CustomPageSizes ∙ h.sized e))
    (and_from _ _ h.size (bounds_from type (most_pages_for c type.is_64 type.page_size_log2) (most_pages type.is_64 type.page_size_log2) h.bounds (pages_within c limits type.is_64 type.page_size_log2)))))

-- the first of its kind, or one of several where several are on
several : (count most : ℕ) (on : Bool) → count < most → on ≡ nat_lt 1 most → (nat_eq count 0 || on) ≡ true
several zero most on h e = refl
several (suc count) most on h e = or_right _ _ (e ∙ lt-ltb 1 most (omega (arith, h)))

-- an offered memory, imported or own, keeps its rule where there is room
pub memory_keeps : (c : Config) (k : Spaces) (features : Features) (type : MemoryType) → AreFeaturesOf c features → HasByteLimits c → length k.memories < c.max_memories → IsOfferedMemory c type
    → keeps_memory features k type ≡ true
memory_keeps c k features type f limits room h =
    and_from _ _ (memory_is c features type f limits h) (several (length k.memories) c.max_memories (has features MultiMemory) room (f MultiMemory))

pub memory_allowed : (c : Config) (k : Spaces) (type : MemoryType) → HasByteLimits c → length k.memories < c.max_memories → IsOfferedMemory c type → Allows c k (of_memory type)
memory_allowed c k type limits room h features f = memory_keeps c k features type f limits room h

-- ---- value types

null_allowed : (features : Features) (nullable : Bool) (heap : AbstractHeapType) → is_allowed_abstract features nullable heap ≡ true → is_allowed_abstract features true heap ≡ true
null_allowed features nullable Func e = refl
null_allowed features nullable Extern e = and_from (has features GcTypes) true (and_parts (has features GcTypes) _ e).0 refl
null_allowed features nullable Any e = e
null_allowed features nullable types.None e = e
null_allowed features nullable NoExtern e = e
null_allowed features nullable NoFunc e = e
null_allowed features nullable Eq e = e
null_allowed features nullable Struct e = e
null_allowed features nullable Array e = e
null_allowed features nullable I31 e = e
null_allowed features nullable Exn e = e
null_allowed features nullable NoExn e = e
null_allowed features nullable Cont e = e
null_allowed features nullable NoCont e = e

heap_null_allowed : (features : Features) (nullable : Bool) (heap : HeapType ℕ) → is_allowed_heap features nullable heap ≡ true → is_allowed_heap features true heap ≡ true
heap_null_allowed features nullable (Abstract heap) e = null_allowed features nullable heap e
heap_null_allowed features nullable (Concrete index) e = e

-- the nullable form of a permitted type is permitted
pub null_permitted : (features : Features) (count : ℕ) (type : ValType ℕ) → IsPermittedValue features count type → IsPermittedValue features count (with_null type)
null_permitted features count I32 h = h
null_permitted features count I64 h = h
null_permitted features count F32 h = h
null_permitted features count F64 h = h
null_permitted features count V128 h = h
null_permitted features count (Ref nullable heap) h =
    let parts = and_parts (has features ReferenceTypes) (is_allowed_heap features nullable heap) h.allowed in
    record { allowed = and_from (has features ReferenceTypes) (is_allowed_heap features true heap) parts.0 (heap_null_allowed features nullable heap parts.1); in_range = h.in_range }

pub null_plain : (type : ValType ℕ) → has_plain (with_null type) ≡ true
null_plain I32 = refl
null_plain I64 = refl
null_plain F32 = refl
null_plain F64 = refl
null_plain V128 = refl
null_plain (Ref nullable heap) = refl

pub value_offered : (c : Config) (o : Offers) (count : ℕ) (s t : List ℕ) (type : ValType ℕ) → AreOffersOf c o → value_at o count s ≡ (type, t) → IsOfferedValue c count (with_null type)
value_offered c o count s t type are drawn =
    let fst : ValType ℕ × List ℕ → ValType ℕ = λ p. p.0 in
    record {
      permitted = λ features f.
          let suits : SuitsValues features o = subst (SuitsValues features) (sym are) (values_suit c features f) in
          null_permitted features count type (subst (IsPermittedValue features count) (ap fst drawn) (value_permitted features o suits count s));
      plain = null_plain type;
    }

named : (k : Spaces) (count : ℕ) (heap : HeapType ℕ) (nullable : Bool) → AllByRecursion (λ r. r < count) (val_refs (Ref nullable heap)) → count ≤ length k.types → is_named k.types heap ≡ true
named k count (Abstract heap) nullable h le = refl
named k count (Concrete index) nullable h le = lt-ltb index (length k.types) (let lt = h.0 in omega (arith, lt, le))

-- a permitted type is one that the module may write
pub permitted_is_value : (k : Spaces) (features : Features) (count : ℕ) (type : ValType ℕ) → IsPermittedValue features count type → count ≤ length k.types → is_value features k.types type ≡ true
permitted_is_value k features count I32 h le = h.allowed
permitted_is_value k features count I64 h le = h.allowed
permitted_is_value k features count F32 h le = h.allowed
permitted_is_value k features count F64 h le = h.allowed
permitted_is_value k features count V128 h le = h.allowed
permitted_is_value k features count (Ref nullable heap) h le = and_from _ _ h.allowed (named k count heap nullable h.in_range le)

pub permitted_written : (c : Config) (k : Spaces) (count : ℕ) (type : ValType ℕ) → IsPermittedFor c count type → count ≤ length k.types → MayWrite c k type
permitted_written c k count type h le features f = permitted_is_value k features count type (h features f) le

-- an imported global of an offered type keeps its rule
pub global_keeps : (c : Config) (k : Spaces) (features : Features) (count : ℕ) (type : GlobalType ℕ) → AreFeaturesOf c features → IsOfferedValue c count type.value_type → count ≤ length k.types
    → (is_value features k.types type.value_type && may_cross features type) ≡ true
global_keeps c k features count type f h le =
    and_from _ _ (permitted_written c k count type.value_type h.permitted le features f) (implies_from type.mutable _ (λ e. f MutableGlobal))

-- a type that is no reference is its own nullable form
pub no_reference : (type : code.ValType) → ((reference : RefType) → type ≢ codes.Ref reference) → with_null (val_type type) ≡ val_type type
no_reference codes.I32 other = refl
no_reference codes.I64 other = refl
no_reference codes.F32 other = refl
no_reference codes.F64 other = refl
no_reference codes.V128 other = refl
no_reference (codes.Ref reference) other = absurd (other reference refl)
