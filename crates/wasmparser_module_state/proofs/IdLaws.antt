-- Types of items by ids: what they stand for is what is meant by type indexes.
use Rattle.std.proofs.Common.{inl, inr, ◌≡◌, ◌≤◌, ℕ, zero, suc, Bool, true, false, List, [], ◌∷◌, length, Option, Some, None, IfSome, is_some, option_map, if◌then◌else◌, nat_lt, slice_get, refl, sym, ap, subst, ◌∙◌, arith}
use Rattle.wasm_core_read.proofs.Forms.{ltb_tells}
use Rattle.wasm_spec.proofs.Places.{get_some}
use Rattle.wasm_spec.specs.Trees.{DefType, type_at}
use Rattle.wasm_spec.specs.TypeReferences.{heap_map, ref_map, table_map, global_map, val_map}
use Rattle.wasm_spec.specs.Types.{HeapType, Abstract, Concrete, RefType, ValType, I32, I64, F32, F64, V128, Ref, TableType, GlobalType, FuncExternal, TableExternal, GlobalExternal, TagExternal}
use Rattle.wasm_validity_laws.specs.NamedTypes.{names_heap, names_value}
use Rattle.wasmparser_module_state.specs.Entities.{meant_global, meant_item, meant_ref, meant_table}
use Rattle.wasmparser_module_types.specs.ModuleTypes.{KnownTypes, stands_for}
use Rattle.wasmparser_module_types.specs.WithIds.{names_only, names_only_heap}
use Rattle.wasmparser_types.specs.Index.{Index, number_of}
use Rattle.wasmparser_types.specs.ValTypes.{reference_type}

heap_named : (types : List DefType) (heap : HeapType ℕ) → names_only_heap types heap ≡ names_heap types heap
heap_named types (Abstract heap) = refl
heap_named types (Concrete index) = refl

value_named : (types : List DefType) (type : ValType ℕ) → names_only types type ≡ names_value types type
value_named types (Ref nullable heap) = heap_named types heap
value_named types I32 = refl
value_named types I64 = refl
value_named types F32 = refl
value_named types F64 = refl
value_named types V128 = refl

-- ---- references

abbrev as_ref : {R : Type 0} → RefType R → ValType R → RefType R
as_ref other (Ref nullable heap) = record { nullable = nullable; heap_type = heap }
as_ref other _ = other

same_ref : {S : Type 0} (a b : RefType S) → Ref a.nullable a.heap_type ≡ Ref b.nullable b.heap_type → a ≡ b
same_ref a b e = ap (as_ref a) e

module _ (known : KnownTypes) (type : RefType Index) where
  pub no_ref : (found : Option (ValType Index)) → is_some found ≡ names_only known.types (val_map number_of (Ref type.nullable type.heap_type)) → found ≡ None
      → None ≡ meant_ref known.types (ref_map number_of type)
  no_ref found named none =
      let no : false ≡ names_heap known.types (heap_map number_of type.heap_type) = ap is_some (sym none) ∙ named ∙ heap_named known.types (heap_map number_of type.heap_type) in
      rw (← no) refl

  pub some_ref : (found : Option (ValType Index)) (new : ValType Index) → is_some found ≡ names_only known.types (val_map number_of (Ref type.nullable type.heap_type))
      → IfSome found (λ new. val_map (stands_for known) new ≡ val_map (type_at known.types) (val_map number_of (Ref type.nullable type.heap_type))) → found ≡ Some new
      → option_map (ref_map (stands_for known)) (reference_type new) ≡ meant_ref known.types (ref_map number_of type)
  some_ref found new named same some =
      let yes : true ≡ names_heap known.types (heap_map number_of type.heap_type) = ap is_some (sym some) ∙ named ∙ heap_named known.types (heap_map number_of type.heap_type) in
      let meant = subst (λ f. IfSome f (λ new. val_map (stands_for known) new ≡ val_map (type_at known.types) (val_map number_of (Ref type.nullable type.heap_type)))) some same in
      rw (← yes) (of_val new meant)
    where
      of_val : (new : ValType Index) → val_map (stands_for known) new ≡ val_map (type_at known.types) (val_map number_of (Ref type.nullable type.heap_type))
          → option_map (ref_map (stands_for known)) (reference_type new) ≡ Some (ref_map (type_at known.types) (ref_map number_of type))
      of_val (Ref nullable heap) e = ap (λ r. Some r) (same_ref _ _ e)
      of_val I32 e = absurd cc
      of_val I64 e = absurd cc
      of_val F32 e = absurd cc
      of_val F64 e = absurd cc
      of_val V128 e = absurd cc

pub ruleset ref_steps = (no_ref, some_ref)

-- ---- tables and globals

-- what is meant of a part is meant of the whole
of_part : {A B : Type 0} (named : Bool) (f : A → B) (x : A) → option_map f (if named then Some x else None) ≡ (if named then Some (f x) else None)
of_part true f x = refl
of_part false f x = refl

module _ (known : KnownTypes) (type : TableType Index) where
  abbrev whole : RefType DefType → TableType DefType
  whole element = record { element_type = element; limits = type.limits }

  pub no_table : (found : Option (RefType Index)) → option_map (ref_map (stands_for known)) found ≡ meant_ref known.types (ref_map number_of type.element_type) → found ≡ None
      → None ≡ meant_table known.types (table_map number_of type)
  no_table found same none = ap (option_map whole) (sym (ap (option_map (ref_map (stands_for known))) none) ∙ same) ∙ of_part (names_heap known.types (heap_map number_of type.element_type.heap_type)) whole _

  pub some_table : (found : Option (RefType Index)) (new : RefType Index) → option_map (ref_map (stands_for known)) found ≡ meant_ref known.types (ref_map number_of type.element_type) → found ≡ Some new
      → Some (table_map (stands_for known) (record { element_type = new; limits = type.limits })) ≡ meant_table known.types (table_map number_of type)
  some_table found new same some = ap (option_map whole) (sym (ap (option_map (ref_map (stands_for known))) some) ∙ same) ∙ of_part (names_heap known.types (heap_map number_of type.element_type.heap_type)) whole _

module _ (known : KnownTypes) (type : GlobalType Index) where
  pub no_global : (found : Option (ValType Index)) → is_some found ≡ names_only known.types (val_map number_of type.value_type) → found ≡ None
      → None ≡ meant_global known.types (global_map number_of type)
  no_global found named none =
      let no : false ≡ names_value known.types (val_map number_of type.value_type) = ap is_some (sym none) ∙ named ∙ value_named known.types (val_map number_of type.value_type) in
      rw (← no) refl

  pub some_global : (found : Option (ValType Index)) (new : ValType Index) → is_some found ≡ names_only known.types (val_map number_of type.value_type)
      → IfSome found (λ new. val_map (stands_for known) new ≡ val_map (type_at known.types) (val_map number_of type.value_type)) → found ≡ Some new
      → Some (global_map (stands_for known) (record { value_type = new; mutable = type.mutable })) ≡ meant_global known.types (global_map number_of type)
  some_global found new named same some =
      let yes : true ≡ names_value known.types (val_map number_of type.value_type) = ap is_some (sym some) ∙ named ∙ value_named known.types (val_map number_of type.value_type) in
      let meant = subst (λ f. IfSome f (λ new. val_map (stands_for known) new ≡ val_map (type_at known.types) (val_map number_of type.value_type))) some same in
      rw (← yes) (ap (λ t. Some (record { value_type = t; mutable = type.mutable })) meant)

pub ruleset item_steps = (no_table, some_table, no_global, some_global)

-- ---- functions and tags

past : {A : Type 0} (xs : List A) (i : ℕ) → length xs ≤ i → slice_get xs i ≡ None
past [] i le = refl
past (x ∷ xs) zero le = absurd (omega (arith, le))
past (x ∷ xs) (suc i) le = past xs i (omega (arith, le))

named_type : {A : Type 0} (f : DefType → A) (types : List DefType) (index : ℕ) → option_map f (slice_get types index) ≡ (if nat_lt index (length types) then Some (f (type_at types index)) else None)
named_type f types index = elim (ltb_tells index (length types)) [
  | inl (t, within) ↦ let at = get_some types index within in rw (t, at.1) refl
  | inr (t, le) ↦ rw (t, past types index le) refl
]

module _ (types interned : List DefType) (index : ℕ) (found : Option ℕ) (is : slice_get types index ≡ option_map (type_at interned) found) where
  none : {A : Type 0} (f : DefType → A) → found ≡ None → None ≡ (if nat_lt index (length types) then Some (f (type_at types index)) else None)
  none f missing = ap (option_map f) (sym (is ∙ ap (option_map (type_at interned)) missing)) ∙ named_type f types index

  some : {A : Type 0} (f : DefType → A) (id : ℕ) → found ≡ Some id → Some (f (type_at interned id)) ≡ (if nat_lt index (length types) then Some (f (type_at types index)) else None)
  some f id there = ap (option_map f) (sym (is ∙ ap (option_map (type_at interned)) there)) ∙ named_type f types index

  pub no_function : found ≡ None → None ≡ meant_item types (FuncExternal index)
  no_function missing = none (λ type. FuncExternal type) missing

  pub some_function : (id : ℕ) → found ≡ Some id → Some (FuncExternal (type_at interned id)) ≡ meant_item types (FuncExternal index)
  some_function id there = some (λ type. FuncExternal type) id there

  pub no_tag : found ≡ None → None ≡ meant_item types (TagExternal index)
  no_tag missing = none (λ type. TagExternal type) missing

  pub some_tag : (id : ℕ) → found ≡ Some id → Some (TagExternal (type_at interned id)) ≡ meant_item types (TagExternal index)
  some_tag id there = some (λ type. TagExternal type) id there

-- ---- entities

module _ {A : Type 0} (types : List DefType) (type : TableType ℕ) (shows : A → TableType DefType) (found : Option A) (is : option_map shows found ≡ meant_table types type) where
  pub no_table_item : found ≡ None → None ≡ meant_item types (TableExternal type)
  no_table_item missing = ap (option_map (λ t. TableExternal t)) (sym (ap (option_map shows) missing) ∙ is) ∙ of_part (names_heap types type.element_type.heap_type) (λ t. TableExternal t) _

  pub some_table_item : (new : A) → found ≡ Some new → Some (TableExternal (shows new)) ≡ meant_item types (TableExternal type)
  some_table_item new there = ap (option_map (λ t. TableExternal t)) (sym (ap (option_map shows) there) ∙ is) ∙ of_part (names_heap types type.element_type.heap_type) (λ t. TableExternal t) _

module _ {A : Type 0} (types : List DefType) (type : GlobalType ℕ) (shows : A → GlobalType DefType) (found : Option A) (is : option_map shows found ≡ meant_global types type) where
  pub no_global_item : found ≡ None → None ≡ meant_item types (GlobalExternal type)
  no_global_item missing = ap (option_map (λ t. GlobalExternal t)) (sym (ap (option_map shows) missing) ∙ is) ∙ of_part (names_value types type.value_type) (λ t. GlobalExternal t) _

  pub some_global_item : (new : A) → found ≡ Some new → Some (GlobalExternal (shows new)) ≡ meant_item types (GlobalExternal type)
  some_global_item new there = ap (option_map (λ t. GlobalExternal t)) (sym (ap (option_map shows) there) ∙ is) ∙ of_part (names_value types type.value_type) (λ t. GlobalExternal t) _

pub ruleset entity_steps = (no_function, some_function, no_tag, some_tag, no_table_item, some_table_item, no_global_item, some_global_item)
