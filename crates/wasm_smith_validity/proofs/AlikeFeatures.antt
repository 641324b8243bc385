-- Two sets of features that have the same flags allow the same types, groups and items: the rules ask for flags alone.
use Rattle.std.proofs.Common.{◌≡◌, ℕ, Bool, List, [], ◌∷◌, ◌++◌, length, refl, sym, ap, ◌∙◌, subst}
use Rattle.std.specs.Prelude.{◌+◌, ◌-◌, ◌^◌, ◌&&◌, ◌||◌, nat_eq, nat_le, Option, Some, None, is_some, if◌then◌else◌}
use Rattle.std.specs.List.{list_all}
use Rattle.std.proofs.Math.Path.{fun_ext}
use Rattle.wasm_spec.specs.Features.{Features, Flag, has, MutableGlobal, ReferenceTypes, MultiValue, Simd, Threads, Floats, MultiMemory, Exceptions, Memory64, FunctionReferences, Gc, GcTypes, CustomPageSizes, StackSwitching}
use Rattle.wasm_spec.specs.Gates.{is_allowed, is_allowed_abstract, is_allowed_composite, is_allowed_func, is_allowed_group, is_allowed_heap, is_allowed_storage, is_allowed_sub}
use Rattle.wasm_spec.specs.Syntax.{members}
use Rattle.wasm_spec.specs.Trees.{RefersBelow}
use Rattle.wasm_spec.specs.Types.{AbstractHeapType, Func, Extern, Any, None as NoneHeap, NoExtern, NoFunc, Eq, Struct, Array, I31, Exn, NoExn, Cont, NoCont, HeapType, Abstract, Concrete, ValType, I32, I64, F32, F64, V128, Ref, StorageType, I8, I16, Val, FieldType, FuncType, CompositeType, FuncComposite, StructComposite, ArrayComposite, ContComposite, SubType, RecGroup, Single, Group, MemoryType, TableType, GlobalType, ExternalType, FuncExternal, TableExternal, MemoryExternal, GlobalExternal, TagExternal}
use Rattle.wasm_validity.specs.Rules.{may_cross, may_leave, value_of}
use Rattle.wasm_validity.specs.TypeRules.{implies, are_bounds, is_funcref, is_memory_type, is_page_size, most_pages}
use Rattle.wasm_smith_validity.specs.Rules.{is_table_type, keep_items, keeps_item, keeps_memory, keeps_table, keeps_tag, may_be_thrown}
use Rattle.wasm_smith_validity.specs.Spaces.{Spaces, func_type_at, is_named, is_value, with_item}
use Rattle.wasm_smith_validity.specs.ValidGroups.{AreValidAfter, AreValidGroups, IsValidGroup}

-- two sets have the same flags
abbrev pub HaveSameFlags : Features → Features → Type 0
HaveSameFlags f g = (flag : Flag) → has f flag ≡ has g flag

pub flags_back : (f g : Features) → HaveSameFlags f g → HaveSameFlags g f
flags_back f g same = λ flag. sym (same flag)

pub alike_both : (a b c d : Bool) → a ≡ b → c ≡ d → (a && c) ≡ (b && d)
alike_both a b c d first second = ap (λ x. x && c) first ∙ ap (λ x. b && x) second

alike_either : (a b c d : Bool) → a ≡ b → c ≡ d → (a || c) ≡ (b || d)
alike_either a b c d first second = ap (λ x. x || c) first ∙ ap (λ x. b || x) second

alike_all : {X : Type 0} → (p q : X → Bool) → ((x : X) → p x ≡ q x) → (xs : List X) → list_all p xs ≡ list_all q xs
alike_all {X = X} p q each xs = ap (λ (test : X → Bool). list_all test xs) (fun_ext each)

module _ (f g : Features) (same : HaveSameFlags f g) where
  -- ---- the gates of types

  with_gc_types : (flag : Flag) → (has f GcTypes && has f flag) ≡ (has g GcTypes && has g flag)
  with_gc_types flag = alike_both (has f GcTypes) (has g GcTypes) (has f flag) (has g flag) (same GcTypes) (same flag)

  abstract_alike : (nullable : Bool) (heap : AbstractHeapType) → is_allowed_abstract f nullable heap ≡ is_allowed_abstract g nullable heap
  abstract_alike nullable Func = ap (λ on. nullable || on) (same FunctionReferences)
  abstract_alike nullable Extern =
      alike_both (has f GcTypes) (has g GcTypes) (nullable || has f FunctionReferences) (nullable || has g FunctionReferences)
      (same GcTypes) (ap (λ on. nullable || on) (same FunctionReferences))
  abstract_alike nullable Any = with_gc_types Gc
  abstract_alike nullable NoneHeap = with_gc_types Gc
  abstract_alike nullable NoExtern = with_gc_types Gc
  abstract_alike nullable NoFunc = with_gc_types Gc
  abstract_alike nullable Eq = with_gc_types Gc
  abstract_alike nullable Struct = with_gc_types Gc
  abstract_alike nullable Array = with_gc_types Gc
  abstract_alike nullable I31 = with_gc_types Gc
  abstract_alike nullable Exn = same Exceptions
  abstract_alike nullable NoExn = with_gc_types Exceptions
  abstract_alike nullable Cont = with_gc_types StackSwitching
  abstract_alike nullable NoCont = with_gc_types StackSwitching

  heap_alike : (nullable : Bool) (heap : HeapType ℕ) → is_allowed_heap f nullable heap ≡ is_allowed_heap g nullable heap
  heap_alike nullable (Abstract heap) = abstract_alike nullable heap
  heap_alike nullable (Concrete index) =
      alike_either (has f Gc) (has g Gc) (has f FunctionReferences) (has g FunctionReferences) (same Gc) (same FunctionReferences)

  pub allowed_alike : (type : ValType ℕ) → is_allowed f type ≡ is_allowed g type
  allowed_alike I32 = refl
  allowed_alike I64 = refl
  allowed_alike F32 = same Floats
  allowed_alike F64 = same Floats
  allowed_alike V128 = same Simd
  allowed_alike (Ref nullable heap) =
      alike_both (has f ReferenceTypes) (has g ReferenceTypes) (is_allowed_heap f nullable heap) (is_allowed_heap g nullable heap)
      (same ReferenceTypes) (heap_alike nullable heap)

  all_allowed_alike : (types : List (ValType ℕ)) → list_all (is_allowed f) types ≡ list_all (is_allowed g) types
  all_allowed_alike types = alike_all (is_allowed f) (is_allowed g) allowed_alike types

  func_alike : (type : FuncType ℕ) → is_allowed_func f type ≡ is_allowed_func g type
  func_alike type =
      ap (λ params. params && list_all (is_allowed f) type.results && (nat_le (length type.results) 1 || has f MultiValue)) (all_allowed_alike type.params)
      ∙ ap (λ results. list_all (is_allowed g) type.params && results && (nat_le (length type.results) 1 || has f MultiValue)) (all_allowed_alike type.results)
      ∙ ap (λ on. list_all (is_allowed g) type.params && list_all (is_allowed g) type.results && (nat_le (length type.results) 1 || on)) (same MultiValue)

  storage_alike : (type : StorageType ℕ) → is_allowed_storage f type ≡ is_allowed_storage g type
  storage_alike I8 = refl
  storage_alike I16 = refl
  storage_alike (Val type) = allowed_alike type

  fields_alike : (fields : List (FieldType ℕ))
      → list_all (λ field. is_allowed_storage f field.element_type) fields ≡ list_all (λ field. is_allowed_storage g field.element_type) fields
  fields_alike fields =
      alike_all (λ field. is_allowed_storage f field.element_type) (λ field. is_allowed_storage g field.element_type) (λ field. storage_alike field.element_type) fields

  -- structures and arrays, with garbage collection and its types on
  collected_alike : (a b : Bool) → a ≡ b → (has f Gc && has f GcTypes && a) ≡ (has g Gc && has g GcTypes && b)
  collected_alike a b is =
      ap (λ on. on && has f GcTypes && a) (same Gc) ∙ ap (λ on. has g Gc && on && a) (same GcTypes) ∙ ap (λ x. has g Gc && has g GcTypes && x) is

  composite_alike : (type : CompositeType ℕ) → is_allowed_composite f type ≡ is_allowed_composite g type
  composite_alike (FuncComposite type) = func_alike type
  composite_alike (StructComposite fields) = collected_alike _ _ (fields_alike fields)
  composite_alike (ArrayComposite field) = collected_alike _ _ (storage_alike field.element_type)
  composite_alike (ContComposite function) =
      alike_both (has f StackSwitching) (has g StackSwitching) (has f GcTypes) (has g GcTypes) (same StackSwitching) (same GcTypes)

  sub_alike : (type : SubType ℕ) → is_allowed_sub f type ≡ is_allowed_sub g type
  sub_alike type =
      ap (λ on. (type.is_final && nat_eq (length type.supertypes) 0 || on) && is_allowed_composite f type.composite_type) (same Gc)
      ∙ ap (λ allowed. (type.is_final && nat_eq (length type.supertypes) 0 || has g Gc) && allowed) (composite_alike type.composite_type)

  group_alike : (group : RecGroup ℕ) → is_allowed_group f group ≡ is_allowed_group g group
  group_alike (Single type) = sub_alike type
  group_alike (Group types) =
      alike_both (has f Gc) (has g Gc) (list_all (is_allowed_sub f) types) (list_all (is_allowed_sub g) types)
      (same Gc) (alike_all (is_allowed_sub f) (is_allowed_sub g) sub_alike types)

  -- ---- groups

  valid_group_alike : (before : List (SubType ℕ)) (group : RecGroup ℕ) → IsValidGroup f before group → IsValidGroup g before group
  valid_group_alike before group valid = record {
    allowed = sym (group_alike group) ∙ valid.allowed;
    in_range = subst (λ (on : Bool). RefersBelow (if on then length before + length (members group) else length before) group) (same Gc) valid.in_range;
    rules = valid.rules;
  }

  valid_after_alike : (before : List (SubType ℕ)) (groups : List (RecGroup ℕ)) → AreValidAfter f before groups → AreValidAfter g before groups
  valid_after_alike before [] valid = tt
  valid_after_alike before (group ∷ groups) valid = (valid_group_alike before group valid.0, valid_after_alike (before ++ members group) groups valid.1)

  pub valid_groups_alike : (groups : List (RecGroup ℕ)) → AreValidGroups f groups → AreValidGroups g groups
  valid_groups_alike groups valid = valid_after_alike [] groups valid

  -- ---- items

  pub value_alike : (types : List (SubType ℕ)) (type : ValType ℕ) → is_value f types type ≡ is_value g types type
  value_alike types I32 = refl
  value_alike types I64 = refl
  value_alike types F32 = same Floats
  value_alike types F64 = same Floats
  value_alike types V128 = same Simd
  value_alike types (Ref nullable heap) = ap (λ allowed. allowed && is_named types heap) (allowed_alike (Ref nullable heap))

  table_type_alike : (types : List (SubType ℕ)) (type : TableType ℕ) → is_table_type f types type ≡ is_table_type g types type
  table_type_alike types type =
      ap (λ allowed. by_flags allowed (has f Memory64)) (allowed_alike (value_of type.element_type))
      ∙ ap (λ on. by_flags (is_allowed g (value_of type.element_type)) on) (same Memory64)
    where
      by_flags : Bool → Bool → Bool
      by_flags allowed wide =
          ((is_funcref type.element_type || allowed) && is_named types type.element_type.heap_type)
          && (implies type.limits.is_64 wide && are_bounds type.limits (if type.limits.is_64 then 2 ^ 64 - 1 else 2 ^ 32 - 1))

  pub table_alike : (spaces : Spaces) (type : TableType ℕ) → keeps_table f spaces type ≡ keeps_table g spaces type
  table_alike spaces type =
      alike_both (is_table_type f spaces.types type) (is_table_type g spaces.types type)
      (nat_eq (length spaces.tables) 0 || has f ReferenceTypes) (nat_eq (length spaces.tables) 0 || has g ReferenceTypes)
      (table_type_alike spaces.types type) (ap (λ on. nat_eq (length spaces.tables) 0 || on) (same ReferenceTypes))

  memory_type_alike : (type : MemoryType) → is_memory_type f type ≡ is_memory_type g type
  memory_type_alike type =
      ap (λ on. by_flags on (has f Threads) (has f CustomPageSizes)) (same Memory64)
      ∙ ap (λ on. by_flags (has g Memory64) on (has f CustomPageSizes)) (same Threads)
      ∙ ap (λ on. by_flags (has g Memory64) (has g Threads) on) (same CustomPageSizes)
    where
      by_flags : Bool → Bool → Bool → Bool
      by_flags wide threads sizes =
          implies type.is_64 wide
          && (implies type.shared (threads && is_some type.maximum)
          && (implies (is_some type.page_size_log2) sizes
          && (is_page_size type.page_size_log2 && are_bounds type (most_pages type.is_64 type.page_size_log2))))

  memory_alike : (spaces : Spaces) (type : MemoryType) → keeps_memory f spaces type ≡ keeps_memory g spaces type
  memory_alike spaces type =
      alike_both (is_memory_type f type) (is_memory_type g type)
      (nat_eq (length spaces.memories) 0 || has f MultiMemory) (nat_eq (length spaces.memories) 0 || has g MultiMemory)
      (memory_type_alike type) (ap (λ on. nat_eq (length spaces.memories) 0 || on) (same MultiMemory))

  thrown_alike : (type : Option (FuncType ℕ)) → may_be_thrown f type ≡ may_be_thrown g type
  thrown_alike None = refl
  thrown_alike (Some type) = ap (λ on. nat_eq (length type.results) 0 || on) (same StackSwitching)

  tag_alike : (spaces : Spaces) (index : ℕ) → keeps_tag f spaces index ≡ keeps_tag g spaces index
  tag_alike spaces index =
      alike_both (has f Exceptions) (has g Exceptions) (may_be_thrown f (func_type_at spaces.types index)) (may_be_thrown g (func_type_at spaces.types index))
      (same Exceptions) (thrown_alike (func_type_at spaces.types index))

  cross_alike : (type : GlobalType ℕ) → may_cross f type ≡ may_cross g type
  cross_alike type = ap (λ on. implies type.mutable on) (same MutableGlobal)

  pub leave_alike : (type : Option (ExternalType ℕ)) → may_leave f type ≡ may_leave g type
  leave_alike None = refl
  leave_alike (Some (FuncExternal function)) = refl
  leave_alike (Some (TableExternal type)) = refl
  leave_alike (Some (MemoryExternal type)) = refl
  leave_alike (Some (GlobalExternal type)) = cross_alike type
  leave_alike (Some (TagExternal function)) = refl

  pub item_alike : (spaces : Spaces) (type : ExternalType ℕ) → keeps_item f spaces type ≡ keeps_item g spaces type
  item_alike spaces (FuncExternal function) = refl
  item_alike spaces (TableExternal type) = table_alike spaces type
  item_alike spaces (MemoryExternal type) = memory_alike spaces type
  item_alike spaces (GlobalExternal type) =
      alike_both (is_value f spaces.types type.value_type) (is_value g spaces.types type.value_type) (may_cross f type) (may_cross g type)
      (value_alike spaces.types type.value_type) (cross_alike type)
  item_alike spaces (TagExternal function) = tag_alike spaces function

  pub items_alike : (spaces : Spaces) (types : List (ExternalType ℕ)) → keep_items f spaces types ≡ keep_items g spaces types
  items_alike spaces [] = refl
  items_alike spaces (type ∷ types) =
      alike_both (keeps_item f spaces type) (keeps_item g spaces type) (keep_items f (with_item spaces type) types) (keep_items g (with_item spaces type) types)
      (item_alike spaces type) (items_alike (with_item spaces type) types)
