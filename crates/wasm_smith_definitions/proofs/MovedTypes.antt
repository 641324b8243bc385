-- Types that stand among other types, their references moved, and what names them: value types, table types, functions and tags.
use Rattle.std.proofs.Common.{◌≡◌, ℕ, ◌+◌, ◌<◌, ◌≤◌, ◌^◌, Bool, true, List, [], ◌∷◌, ◌++◌, map, length, Option, Some, None, is_some, slice_get, option_map, option_and_then, refl, sym, ap, ◌∙◌, subst, arith, le-ltb, lt-ltb, ltb-true}
use Rattle.std.specs.Prelude.{◌&&◌, ◌||◌, nat_eq}
use Rattle.std.specs.List.{AllByRecursion}
use Rattle.std.proofs.lemmas.Bool.{and_from, and_parts}
use Rattle.std.proofs.lemmas.List.{length-map}
use Rattle.std.proofs.lemmas.Option.{option_and_then_some, slice_get-map, slice_get_within}
use Rattle.wasm_spec.specs.Features.{Features, has, Exceptions, StackSwitching}
use Rattle.wasm_spec.specs.Gates.{is_allowed}
use Rattle.wasm_spec.specs.TypeReferences.{heap_map, heap_refs, val_map, val_refs, func_map, composite_map, sub_map, sub_refs, table_map, external_map, external_refs}
use Rattle.wasm_spec.specs.Types.{HeapType, Abstract, Concrete, ValType, I32, I64, F32, F64, V128, Ref, FuncType, CompositeType, FuncComposite, StructComposite, ArrayComposite, ContComposite, SubType, TableType, ExternalType, FuncExternal, TableExternal, MemoryExternal, GlobalExternal, TagExternal}
use Rattle.wasm_spec.proofs.Places.{get_left, get_right, get_some}
use Rattle.wasm_spec.proofs.TypeMaps.{sub_map_agree}
use Rattle.wasm_validity.specs.DefinedTypes.{func_in}
use Rattle.wasm_validity.specs.TypeRules.{is_funcref}
use Rattle.wasm_smith_types.specs.Copies.{shifted_index}
use Rattle.wasm_smith_validity.proofs.GroupLaws.{sub_map-id}
use Rattle.wasm_smith_validity.specs.Rules.{is_table_type, keeps_tag, may_be_thrown}
use Rattle.wasm_smith_validity.specs.Spaces.{Spaces, func_type_at, is_named, is_value}

-- ---- places

-- These types stand among others, each at the place that f says, with its references moved by f.
pub record Moves (f : ℕ → ℕ) (types others : List (SubType ℕ)) : Type 0 where
  pub there : (index : ℕ) (type : SubType ℕ) → slice_get types index ≡ Some type → slice_get others (f index) ≡ Some (sub_map f type)

-- types behind others, and before still others
pub moved_behind : (front types back : List (SubType ℕ))
    → Moves (λ r. length front + r) types (front ++ (map (sub_map (λ r. length front + r)) types ++ back))
moved_behind front types back = record {
  there = λ index type is.
      let moved = map (sub_map (λ r. length front + r)) types in
      let within : index < length moved = omega (arith, slice_get_within types index type is, length-map types (sub_map (λ r. length front + r))) in
      get_right front (moved ++ back) index ∙ get_left moved back index within
      ∙ slice_get-map (sub_map (λ r. length front + r)) types index ∙ ap (option_map (sub_map (λ r. length front + r))) is;
}

-- types behind n others
pub moved_among : (n : ℕ) (front types back others : List (SubType ℕ)) → length front ≡ n
    → others ≡ front ++ (map (sub_map (λ r. n + r)) types ++ back) → Moves (λ r. n + r) types others
moved_among n front types back others count are =
    subst (λ ts. Moves (λ r. n + r) types ts) (sym are)
    (subst (λ k. Moves (λ r. k + r) types (front ++ (map (sub_map (λ r. k + r)) types ++ back))) count (moved_behind front types back))

-- types that stay where they are
pub moved_still : (types : List (SubType ℕ)) → Moves (λ r. r) types types
moved_still types = record { there = λ index type is. is ∙ ap (λ t. Some t) (sym (sub_map-id type)) }

-- further types behind change nothing
pub moved_before : (f : ℕ → ℕ) (types others back : List (SubType ℕ)) → Moves f types others → Moves f types (others ++ back)
moved_before f types others back moves = record {
  there = λ index type is.
      let at = moves.there index type is in get_left others back (f index) (slice_get_within others (f index) (sub_map f type) at) ∙ at;
}

-- ---- maps of references

all_such : {A : Type 0} (P : A → Type 0) → ((x : A) → P x) → (xs : List A) → AllByRecursion P xs
all_such P each [] = tt
all_such P each (x ∷ xs) = (each x, all_such P each xs)

all_imply : {A : Type 0} (P Q : A → Type 0) → ((x : A) → P x → Q x) → (xs : List A) → AllByRecursion P xs → AllByRecursion Q xs
all_imply P Q each [] all = tt
all_imply P Q each (x ∷ xs) all = (each x all.0, all_imply P Q each xs all.1)

maps_agree : {X Y : Type 0} (f h : X → Y) (xs : List X) → AllByRecursion (λ x. f x ≡ h x) xs → map f xs ≡ map h xs
maps_agree f h [] all = refl
maps_agree f h (x ∷ xs) all = rw (all.0, maps_agree f h xs all.1) refl

heap_agree : (f h : ℕ → ℕ) (heap : HeapType ℕ) → AllByRecursion (λ r. f r ≡ h r) (heap_refs heap) → heap_map f heap ≡ heap_map h heap
heap_agree f h (Abstract heap) all = refl
heap_agree f h (Concrete r) all = ap (λ q. Concrete q) all.0

val_agree : (f h : ℕ → ℕ) (type : ValType ℕ) → AllByRecursion (λ r. f r ≡ h r) (val_refs type) → val_map f type ≡ val_map h type
val_agree f h I32 all = refl
val_agree f h I64 all = refl
val_agree f h F32 all = refl
val_agree f h F64 all = refl
val_agree f h V128 all = refl
val_agree f h (Ref nullable heap) all = ap (λ q. Ref nullable q) (heap_agree f h heap all)

-- an item is moved alike by maps that agree where it names types
pub item_agree : (f h : ℕ → ℕ) (item : ExternalType ℕ) → AllByRecursion (λ r. f r ≡ h r) (external_refs item) → external_map f item ≡ external_map h item
item_agree f h (FuncExternal function) all = ap (λ q. FuncExternal q) all.0
item_agree f h (TableExternal type) all =
    ap (λ q. TableExternal (record { element_type = record { nullable = type.element_type.nullable; heap_type = q }; limits = type.limits }))
    (heap_agree f h type.element_type.heap_type all)
item_agree f h (MemoryExternal type) all = refl
item_agree f h (GlobalExternal type) all = ap (λ q. GlobalExternal (record { value_type = q; mutable = type.mutable })) (val_agree f h type.value_type all)
item_agree f h (TagExternal function) all = ap (λ q. TagExternal q) all.0

heap_still : (heap : HeapType ℕ) → heap_map (λ r. r) heap ≡ heap
heap_still (Abstract heap) = refl
heap_still (Concrete r) = refl

val_still : (type : ValType ℕ) → val_map (λ r. r) type ≡ type
val_still I32 = refl
val_still I64 = refl
val_still F32 = refl
val_still F64 = refl
val_still V128 = refl
val_still (Ref nullable heap) = ap (λ q. Ref nullable q) (heap_still heap)

-- the map that moves nothing leaves an item as it is
pub item_still : (item : ExternalType ℕ) → external_map (λ r. r) item ≡ item
item_still (FuncExternal function) = refl
item_still (TableExternal type) =
    ap (λ q. TableExternal (record { element_type = record { nullable = type.element_type.nullable; heap_type = q }; limits = type.limits }))
    (heap_still type.element_type.heap_type)
item_still (MemoryExternal type) = refl
item_still (GlobalExternal type) = ap (λ q. GlobalExternal (record { value_type = q; mutable = type.mutable })) (val_still type.value_type)
item_still (TagExternal function) = refl

-- so it does with items
pub items_still : (items : List (ExternalType ℕ)) → map (external_map (λ r. r)) items ≡ items
items_still [] = refl
items_still (item ∷ items) = rw (item_still item, items_still items) refl

-- moving by nothing leaves an item as it is
pub item_unmoved : (item : ExternalType ℕ) → external_map (λ r. 0 + r) item ≡ item
item_unmoved item =
    item_agree (λ r. 0 + r) (λ r. r) item (all_such (λ r. 0 + r ≡ r) (λ r. omega arith) (external_refs item)) ∙ item_still item

-- so it does with items
pub items_unmoved : (items : List (ExternalType ℕ)) → map (external_map (λ r. 0 + r)) items ≡ items
items_unmoved [] = refl
items_unmoved (item ∷ items) = rw (item_unmoved item, items_unmoved items) refl

-- types before all others are moved by nothing
pub moved_first : (types back : List (SubType ℕ)) → Moves (λ r. 0 + r) types (types ++ back)
moved_first types back = record {
  there = λ index type is.
      let place : 0 + index ≡ index = omega arith in
      let still : sub_map (λ r. 0 + r) type ≡ type =
      sub_map_agree 0 (λ r. 0 + r) (λ r. r) type (all_such (λ r. 0 + r ≡ r) (λ r. omega arith) (sub_refs type)) ∙ sub_map-id type in
      ap (λ i. slice_get (types ++ back) i) place ∙ get_left types back index (slice_get_within types index type is) ∙ is ∙ ap (λ t. Some t) (sym still);
}

-- ---- items that name only the first types

-- an item names only types below n
abbrev pub IsBelow : ℕ → ExternalType ℕ → Type 0
IsBelow n item = AllByRecursion (λ r. r < n) (external_refs item)

-- a shift of 32 bits that doesn't wrap is a sum
pub shifted_sum : (m r : ℕ) → m + r < 2 ^ 32 → shifted_index 0 m r ≡ m + r
shifted_sum m r h = rw (le-ltb r 0 (omega arith)) (omega (arith, h))

-- an item is shifted by 32 bits as by a sum, where no sum passes them
pub item_shifted : (m n : ℕ) (item : ExternalType ℕ) → m + n ≤ 2 ^ 32 → IsBelow n item
    → external_map (shifted_index 0 m) item ≡ external_map (λ r. m + r) item
item_shifted m n item few below =
    item_agree (shifted_index 0 m) (λ r. m + r) item
    (all_imply (λ r. r < n) (λ r. shifted_index 0 m r ≡ m + r) (λ r h. shifted_sum m r (omega (arith, h, few))) (external_refs item) below)

-- so are items
pub items_shifted : (m n : ℕ) (items : List (ExternalType ℕ)) → m + n ≤ 2 ^ 32 → AllByRecursion (IsBelow n) items
    → map (external_map (shifted_index 0 m)) items ≡ map (external_map (λ r. m + r)) items
items_shifted m n items few below =
    maps_agree (external_map (shifted_index 0 m)) (external_map (λ r. m + r)) items
    (all_imply (IsBelow n) (λ item. external_map (shifted_index 0 m) item ≡ external_map (λ r. m + r) item) (λ item h. item_shifted m n item few h) items below)

-- ---- gates

-- which types a gate lets through doesn't hang on what their indexes are
pub same_gate : (features : Features) (f : ℕ → ℕ) (type : ValType ℕ) → is_allowed features (val_map f type) ≡ is_allowed features type
same_gate features f I32 = refl
same_gate features f I64 = refl
same_gate features f F32 = refl
same_gate features f F64 = refl
same_gate features f V128 = refl
same_gate features f (Ref nullable (Abstract heap)) = refl
same_gate features f (Ref nullable (Concrete r)) = refl

same_funcref : (f : ℕ → ℕ) (nullable : Bool) (heap : HeapType ℕ)
    → is_funcref (record { nullable = nullable; heap_type = heap_map f heap }) ≡ is_funcref (record { nullable = nullable; heap_type = heap })
same_funcref f nullable (Abstract heap) = refl
same_funcref f nullable (Concrete r) = refl

same_element : (features : Features) (f : ℕ → ℕ) (nullable : Bool) (heap : HeapType ℕ)
    → (is_funcref (record { nullable = nullable; heap_type = heap_map f heap }) || is_allowed features (Ref nullable (heap_map f heap)))
    ≡ (is_funcref (record { nullable = nullable; heap_type = heap }) || is_allowed features (Ref nullable heap))
same_element features f nullable heap =
    ap (λ b. b || is_allowed features (Ref nullable (heap_map f heap))) (same_funcref f nullable heap)
    ∙ ap (λ b. is_funcref (record { nullable = nullable; heap_type = heap }) || b) (same_gate features f (Ref nullable heap))

-- ---- what names types, before they are moved

-- what an option holds
pub found : {A : Type 0} (option : Option A) → is_some option ≡ true → (x : A) × (option ≡ Some x)
found None h = absurd cc
found (Some x) h = (x, refl)

-- a tag has a function type, without results unless continuations are on
abbrev pub is_tag_type : Features → List (SubType ℕ) → ℕ → Bool
is_tag_type features types index = has features Exceptions && may_be_thrown features (func_type_at types index)

-- the function type of what may be thrown
pub thrown_type : (features : Features) (option : Option (FuncType ℕ)) → may_be_thrown features option ≡ true
    → (type : FuncType ℕ) × (option ≡ Some type) × ((nat_eq (length type.results) 0 || has features StackSwitching) ≡ true)
thrown_type features None h = absurd cc
thrown_type features (Some type) h = (type, refl, h)

module _ (types : List (SubType ℕ)) where
  heap_below : (heap : HeapType ℕ) → is_named types heap ≡ true → AllByRecursion (λ r. r < length types) (heap_refs heap)
  heap_below (Abstract heap) h = tt
  heap_below (Concrete r) h = (ltb-true r (length types) h, tt)

  -- the index of a function type is that of a type
  pub function_below : (index : ℕ) → is_some (func_type_at types index) ≡ true → index < length types
  function_below index h =
      let type = found (func_type_at types index) h in
      option_and_then_some (λ (sub : SubType ℕ). func_in sub.composite_type) (slice_get types index) type.0 type.1 (λ sub is _. slice_get_within types index sub is)

  -- a value type that may be written names types that are there
  pub value_below : (features : Features) (type : ValType ℕ) → is_value features types type ≡ true → AllByRecursion (λ r. r < length types) (val_refs type)
  value_below features I32 h = tt
  value_below features I64 h = tt
  value_below features F32 h = tt
  value_below features F64 h = tt
  value_below features V128 h = tt
  value_below features (Ref nullable heap) h = heap_below heap (and_parts (is_allowed features (Ref nullable heap)) (is_named types heap) h).1

  -- so does a table type
  pub table_below : (features : Features) (type : TableType ℕ) → is_table_type features types type ≡ true
      → AllByRecursion (λ r. r < length types) (heap_refs type.element_type.heap_type)
  table_below features type h =
      let element = (and_parts _ _ h).0 in heap_below type.element_type.heap_type (and_parts _ (is_named types type.element_type.heap_type) element).1

  -- so does a tag
  pub tag_below : (features : Features) (index : ℕ) → is_tag_type features types index ≡ true → index < length types
  tag_below features index h =
      let type = thrown_type features (func_type_at types index) (and_parts (has features Exceptions) (may_be_thrown features (func_type_at types index)) h).1 in
      function_below index (ap is_some type.1)

-- ---- what names types, moved with them

module _ (features : Features) (f : ℕ → ℕ) (types others : List (SubType ℕ)) (moves : Moves f types others) where
  -- the index of a type becomes that of a type
  pub index_moved : (index : ℕ) → index < length types → f index < length others
  index_moved index h =
      let at = get_some types index h in slice_get_within others (f index) (sub_map f at.0) (moves.there index at.0 at.1)

  -- a heap type that names a type names one where it is moved
  pub heap_moved : (heap : HeapType ℕ) → is_named types heap ≡ true → is_named others (heap_map f heap) ≡ true
  heap_moved (Abstract heap) h = refl
  heap_moved (Concrete r) h = lt-ltb (f r) (length others) (index_moved r (ltb-true r (length types) h))

  -- a value type that may be written may be where it is moved
  pub value_moved : (type : ValType ℕ) → is_value features types type ≡ true → is_value features others (val_map f type) ≡ true
  value_moved I32 h = h
  value_moved I64 h = h
  value_moved F32 h = h
  value_moved F64 h = h
  value_moved V128 h = h
  value_moved (Ref nullable heap) h =
      let parts = and_parts (is_allowed features (Ref nullable heap)) (is_named types heap) h in
      and_from (is_allowed features (Ref nullable (heap_map f heap))) (is_named others (heap_map f heap)) (same_gate features f (Ref nullable heap) ∙ parts.0)
      (heap_moved heap parts.1)

  -- a table type is one where it is moved
  pub table_type_moved : (type : TableType ℕ) → is_table_type features types type ≡ true → is_table_type features others (table_map f type) ≡ true
  table_type_moved type h =
      let parts = and_parts _ _ h in
      let element = and_parts _ (is_named types type.element_type.heap_type) parts.0 in
      and_from _ _
      (and_from _ (is_named others (heap_map f type.element_type.heap_type)) (same_element features f type.element_type.nullable type.element_type.heap_type ∙ element.0) (heap_moved type.element_type.heap_type element.1))
      parts.1

  func_in_moved : (composite : CompositeType ℕ) (type : FuncType ℕ) → func_in composite ≡ Some type → func_in (composite_map f composite) ≡ Some (func_map f type)
  func_in_moved (FuncComposite own) type h = ap (option_map (func_map f)) h
  func_in_moved (StructComposite fields) type h = absurd cc
  func_in_moved (ArrayComposite field) type h = absurd cc
  func_in_moved (ContComposite function) type h = absurd cc

  -- a function type is that type, moved
  pub func_type_moved : (index : ℕ) (type : FuncType ℕ) → func_type_at types index ≡ Some type → func_type_at others (f index) ≡ Some (func_map f type)
  func_type_moved index type h =
      option_and_then_some (λ (sub : SubType ℕ). func_in sub.composite_type) (slice_get types index) type h (λ sub is at.
      ap (option_and_then (λ (t : SubType ℕ). func_in t.composite_type)) (moves.there index sub is) ∙ func_in_moved sub.composite_type type at)

  -- the index of a function type becomes that of one
  pub function_moved : (index : ℕ) → is_some (func_type_at types index) ≡ true → is_some (func_type_at others (f index)) ≡ true
  function_moved index h = let type = found (func_type_at types index) h in ap is_some (func_type_moved index type.0 type.1)

  -- so does that of a tag's type
  pub tag_type_moved : (index : ℕ) → is_tag_type features types index ≡ true → is_tag_type features others (f index) ≡ true
  tag_type_moved index h =
      let parts = and_parts (has features Exceptions) (may_be_thrown features (func_type_at types index)) h in
      let type = thrown_type features (func_type_at types index) parts.1 in
      let thrown : may_be_thrown features (func_type_at others (f index)) ≡ true =
      ap (may_be_thrown features) (func_type_moved index type.0 type.1)
      ∙ ap (λ n. nat_eq n 0 || has features StackSwitching) (length-map type.0.results (val_map f)) ∙ type.2 in
      and_from (has features Exceptions) (may_be_thrown features (func_type_at others (f index))) parts.0 thrown

  -- a tag keeps its rule in any index spaces with these types
  pub tag_moved : (spaces new : Spaces) (index : ℕ) → spaces.types ≡ types → new.types ≡ others → keeps_tag features spaces index ≡ true
      → keeps_tag features new (f index) ≡ true
  tag_moved spaces new index known there h =
      let before : is_tag_type features types index ≡ true = subst (λ ts. is_tag_type features ts index ≡ true) known h in
      subst (λ ts. is_tag_type features ts (f index) ≡ true) (sym there) (tag_type_moved index before)
