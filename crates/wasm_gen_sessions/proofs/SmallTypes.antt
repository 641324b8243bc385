-- Types and locals whose references are small.
use Rattle.std.proofs.Common.{ℕ, ◌+◌, ◌<◌, ◌≤◌, List, [], ◌∷◌, length, arith, length-append}
use Rattle.std.specs.List.{AllByRecursion, flat_map}
use Rattle.wasm_spec.specs.Limits.{Types, most}
use Rattle.wasm_spec.specs.SmallIndexes.{IsSmallIndex, IsSmallValue, IsSmallStorage, IsSmallField, IsSmallComposite, IsSmallSub, IsSmallGroup}
use Rattle.wasm_spec.specs.Syntax.{members}
use Rattle.wasm_spec.specs.Trees.{AreInRange}
use Rattle.wasm_spec.specs.TypeReferences.{val_refs, storage_refs, field_refs, composite_refs, sub_refs, group_refs}
use Rattle.wasm_spec.specs.Types.{StorageType, I8, I16, Val, FieldType, CompositeType, FuncComposite, StructComposite, ArrayComposite, ContComposite, SubType, RecGroup, Single, Group}
use Rattle.wasm_spec.proofs.MappedBack.{all_left, all_right}
use Rattle.wasm_smith_validity.specs.ValidGroups.{types_of}
use Rattle.wasm_gen_sessions.proofs.Forms.{all_are}
use Rattle.wasm_gen_sessions.proofs.Values.{value_small}

-- ---- references below 2 ^ 32

each_small : {A : Type 0} (refs : A → List ℕ) (P : A → Type 0) → ((x : A) → AllByRecursion IsSmallIndex (refs x) → P x)
    → (xs : List A) → AllByRecursion IsSmallIndex (flat_map refs xs) → AllByRecursion P xs
each_small refs P law [] h = tt
each_small refs P law (x ∷ xs) h = (
  law x (all_left IsSmallIndex (refs x) (flat_map refs xs) h),
  each_small refs P law xs (all_right IsSmallIndex (refs x) (flat_map refs xs) h),
)

storage_small : (type : StorageType ℕ) → AllByRecursion IsSmallIndex (storage_refs type) → IsSmallStorage type
storage_small I8 h = tt
storage_small I16 h = tt
storage_small (Val type) h = value_small type h

field_small : (field : FieldType ℕ) → AllByRecursion IsSmallIndex (field_refs field) → IsSmallField field
field_small field h = storage_small field.element_type h

composite_small : (type : CompositeType ℕ) → AllByRecursion IsSmallIndex (composite_refs type) → IsSmallComposite type
composite_small (FuncComposite type) h = (
  each_small val_refs IsSmallValue value_small type.params (all_left IsSmallIndex (flat_map val_refs type.params) (flat_map val_refs type.results) h),
  each_small val_refs IsSmallValue value_small type.results (all_right IsSmallIndex (flat_map val_refs type.params) (flat_map val_refs type.results) h),
)
composite_small (StructComposite fields) h = each_small field_refs IsSmallField field_small fields h
composite_small (ArrayComposite field) h = field_small field h
composite_small (ContComposite function) h = h.0

sub_small : (type : SubType ℕ) → AllByRecursion IsSmallIndex (sub_refs type) → IsSmallSub type
sub_small type h = (
  all_left IsSmallIndex type.supertypes (composite_refs type.composite_type) h,
  composite_small type.composite_type (all_right IsSmallIndex type.supertypes (composite_refs type.composite_type) h),
)

group_small : (group : RecGroup ℕ) → AllByRecursion IsSmallIndex (group_refs group) → IsSmallGroup group
group_small (Single type) h = sub_small type h
group_small (Group types) h = each_small sub_refs IsSmallSub sub_small types h

pub groups_small : (before : ℕ) (groups : List (RecGroup ℕ)) → AreInRange before groups → before + length (types_of groups) ≤ most Types
    → AllByRecursion IsSmallGroup groups
groups_small before [] range few = tt
groups_small before (group ∷ groups) range few =
    let parts = length-append (members group) (types_of groups) in (
      group_small group
          (all_are (λ index. index < before + length (members group)) IsSmallIndex (λ index below. omega (arith, below, few, parts)) (group_refs group) range.0),
      groups_small (before + length (members group)) groups range.1 (omega (arith, few, parts)),
    )
