-- Lengths of the encodings of types.
use Rattle.std.proofs.Common.{ℕ, pos, ◌*◌, ◌<◌, ◌≤◌, ◌^◌, Bool, true, false, List, [], ◌∷◌, length, if◌then◌else◌, arith, length-append}
use Rattle.std.specs.List.{AllByRecursion, flat_map}
use Rattle.wasm_spec.specs.Features.{Features}
use Rattle.wasm_spec.specs.Limits.{Types, most}
use Rattle.wasm_spec.specs.Shortest.{unsigned_encoding, signed_encoding, list_encoding}
use Rattle.wasm_spec.specs.SmallIndexes.{IsSmallIndex, IsSmallValue, IsSmallStorage, IsSmallField, IsSmallComposite, IsSmallSub, IsSmallGroup}
use Rattle.wasm_spec.specs.Syntax.{members}
use Rattle.wasm_spec.specs.TypeEncodings.{val_encoding, storage_encoding, field_encoding, func_encoding, composite_encoding, sub_encoding_of, sub_encoding, group_encoding, rec_group_encoding, rec_groups_encoding}
use Rattle.wasm_spec.specs.Types.{ValType, StorageType, I8, I16, Val, FieldType, CompositeType, FuncComposite, StructComposite, ArrayComposite, ContComposite, SubType, RecGroup, Single, Group}
use Rattle.wasm_spec.proofs.MappedBack.{all_left, all_right}
use Rattle.wasm_spec.proofs.NumberLaws.{positive_spelled}
use Rattle.wasm_spec.proofs.Places.{all_by_place}
use Rattle.wasm_spec.proofs.UnsignedEncodings.{at_most_five}
use Rattle.wasm_smith_types.specs.Bounds.{IsSmallComposite as HasFewItems, IsSmall, AreSmall}
use Rattle.wasm_smith_types.specs.DrawnGroups.{AreSome}
use Rattle.wasm_smith_validity.specs.ValidGroups.{AreValidGroups, types_of}
use Rattle.wasm_smith_validity.proofs.GroupLaws.{all_rules, valid_in_range}
use Rattle.wasm_gen_sessions.proofs.Forms.{all_append, list_length}
use Rattle.wasm_gen_sessions.proofs.Numbers.{signed_length}
use Rattle.wasm_gen_sessions.proofs.SmallTypes.{groups_small}
use Rattle.wasm_gen_sessions.proofs.Values.{encoding_length}

-- ---- references below 2 ^ 32

-- so is each type of a group, or of groups
members_small : (group : RecGroup ℕ) → IsSmallGroup group → AllByRecursion IsSmallSub (members group)
members_small (Single type) h = (h, tt)
members_small (Group types) h = h

types_small : (groups : List (RecGroup ℕ)) → AllByRecursion IsSmallGroup groups → AllByRecursion IsSmallSub (types_of groups)
types_small [] h = tt
types_small (group ∷ groups) h = all_append IsSmallSub (members group) (types_of groups) (members_small group h.0) (types_small groups h.1)

-- ---- lengths of types

values_length : (types : List (ValType ℕ)) → AllByRecursion IsSmallValue types → length types ≤ 20 → length (list_encoding val_encoding types) ≤ 125
values_length types h few = omega (arith, few, list_length val_encoding IsSmallValue 6 encoding_length types h (omega (arith, few)))

storage_length : (type : StorageType ℕ) → IsSmallStorage type → length (storage_encoding type) ≤ 6
unfolding storage_encoding
storage_length I8 h = omega arith
storage_length I16 h = omega arith
storage_length (Val type) h = encoding_length type h

field_length : (field : FieldType ℕ) → IsSmallField field → length (field_encoding field) ≤ 7
unfolding field_encoding
field_length field h = omega (
  arith,
  storage_length field.element_type h,
  length-append (storage_encoding field.element_type) ((if field.mutable then 0x01 else 0x00) ∷ []),
)

composite_length : (type : CompositeType ℕ) → IsSmallComposite type → HasFewItems type → length (composite_encoding type) ≤ 251
unfolding composite_encoding func_encoding
composite_length (FuncComposite type) small few = omega (
  arith,
  values_length type.params small.0 few.0,
  values_length type.results small.1 few.1,
  length-append (list_encoding val_encoding type.params) (list_encoding val_encoding type.results),
)
composite_length (StructComposite fields) small few = omega (arith, few, list_length field_encoding IsSmallField 7 field_length fields small (omega (arith, few)))
composite_length (ArrayComposite field) small few = omega (arith, field_length field small)
composite_length (ContComposite function) small few = omega (arith, signed_length (signed_encoding (pos function)) (pos function) (positive_spelled 33 function small))

indexes_length : (indexes : List ℕ) → AllByRecursion IsSmallIndex indexes → length indexes ≤ 1 → length (list_encoding unsigned_encoding indexes) ≤ 10
indexes_length indexes h few = omega (arith, few, list_length unsigned_encoding IsSmallIndex 5 at_most_five indexes h (omega (arith, few)))

parts_length : (is_final : Bool) (supertypes : List ℕ) (type : CompositeType ℕ) → AllByRecursion IsSmallIndex supertypes → length supertypes ≤ 1
    → length (composite_encoding type) ≤ 251 → length (sub_encoding_of is_final supertypes type) ≤ 262
unfolding sub_encoding_of
parts_length true [] type small one few = omega (arith, few)
parts_length true (index ∷ indexes) type small one few = omega (
  arith,
  few,
  indexes_length (index ∷ indexes) small one,
  length-append (list_encoding unsigned_encoding (index ∷ indexes)) (composite_encoding type),
)
parts_length false supertypes type small one few = omega (
  arith,
  few,
  indexes_length supertypes small one,
  length-append (list_encoding unsigned_encoding supertypes) (composite_encoding type),
)

-- a type with few items and at most one supertype, whose references are small
pub record IsShort (type : SubType ℕ) : Type 0 where
  pub small : IsSmallSub type
  pub few : IsSmall type
  pub one : length type.supertypes ≤ 1

sub_length : (type : SubType ℕ) → IsShort type → length (sub_encoding type) ≤ 262
sub_length type h =
    parts_length type.is_final type.supertypes type.composite_type h.small.0 h.one (composite_length type.composite_type h.small.1 h.few)

-- ---- lengths of groups

group_length : (group : RecGroup ℕ) → 0 < length (members group) → length (members group) ≤ most Types → AllByRecursion IsShort (members group)
    → length (rec_group_encoding group) ≤ 300 * length (members group)
unfolding rec_group_encoding group_encoding
group_length (Single type) some few h = omega (arith, sub_length type h.0)
group_length (Group types) some few h = omega (arith, some, list_length sub_encoding IsShort 262 sub_length types h (omega (arith, few)))

encodings_length : (groups : List (RecGroup ℕ)) → AreSome groups → length (types_of groups) ≤ most Types → AllByRecursion IsShort (types_of groups)
    → length (flat_map rec_group_encoding groups) ≤ 300 * length (types_of groups)
encodings_length [] some few h = omega arith
encodings_length (group ∷ groups) some few h =
    let parts = length-append (members group) (types_of groups) in
    let first = group_length group some.0 (omega (arith, few, parts)) (all_left IsShort (members group) (types_of groups) h) in
    let others = encodings_length groups some.1 (omega (arith, few, parts)) (all_right IsShort (members group) (types_of groups) h) in
    omega (arith, first, others, parts, length-append (rec_group_encoding group) (flat_map rec_group_encoding groups))

-- there are no more groups than types
pub few_groups : (groups : List (RecGroup ℕ)) → AreSome groups → length groups ≤ length (types_of groups)
few_groups [] some = omega arith
few_groups (group ∷ groups) some = omega (arith, some.0, few_groups groups some.1, length-append (members group) (types_of groups))

-- ---- what is written

-- Groups that can be written: there are not too many types, no group is empty, types are short, and references small.
pub record AreShort (groups : List (RecGroup ℕ)) : Type 0 where
  pub few : length (types_of groups) ≤ most Types
  pub some : AreSome groups
  pub small : AllByRecursion IsSmallGroup groups
  pub types : AllByRecursion IsShort (types_of groups)

short_types : (types : List (SubType ℕ)) → AllByRecursion IsSmallSub types → AreSmall types → AllByRecursion (λ type. length type.supertypes ≤ 1) types
    → AllByRecursion IsShort types
short_types [] small few one = tt
short_types (type ∷ types) small few one = (record { small = small.0; few = few.0; one = one.0 }, short_types types small.1 few.1 one.1)

pub groups_short : (features : Features) (groups : List (RecGroup ℕ)) → AreValidGroups features groups → AreSmall (types_of groups) → AreSome groups
    → length (types_of groups) ≤ most Types → AreShort groups
groups_short features groups valid few_items some few =
    let small = groups_small 0 groups (valid_in_range features groups valid) (omega (arith, few)) in
    let rules = all_rules features groups valid in
    let one = all_by_place (λ (type : SubType ℕ). length type.supertypes ≤ 1) (types_of groups) (λ index type at. (rules index type at).extends.at_most_one) in
    record { few = few; some = some; small = small; types = short_types (types_of groups) (types_small groups small) few_items one }

pub groups_length : (groups : List (RecGroup ℕ)) → AreShort groups → length (rec_groups_encoding groups) < 2 ^ 32
unfolding list_encoding
groups_length groups h =
    let count = few_groups groups h.some in
    let short = at_most_five (length groups) (omega (arith, count, h.few)) in
    omega (arith, h.few, short, encodings_length groups h.some h.few h.types, length-append (unsigned_encoding (length groups)) (flat_map rec_group_encoding groups))
