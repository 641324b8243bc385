-- Draws of types from the bytes that are left: the type, and the bytes that are left then. References go to types with indexes below bound.
use Rattle.std.specs.Prelude.{ℕ, zero, suc, ◌+◌, ◌-◌, ◌++◌, [], ◌∷◌, ◌||◌, nat_le, Bool, true, false, ◌&&◌, List, length, Option, Some, None, nat_lt, ◌==◌, if◌then◌else◌, not}
use Rattle.std.specs.List.{list_any}
use Rattle.wasm_spec.specs.Types.{AbstractHeapType, Func, HeapType, Abstract, Concrete, ValType, I32, Ref, StorageType, I8, I16, Val, FieldType, FuncType, CompositeType, FuncComposite, StructComposite, ArrayComposite, ContComposite, SubType}
use Rattle.wasm_smith_unstructured.specs.Draws.{bool_at, int_at, choose_at}
use Rattle.wasm_smith_types.specs.Copies.{varied_at, narrowed_field_at}
use Rattle.wasm_smith_types.specs.Growing.{grow_at, each_at, with_front}

-- what is drawn first of a value type: a number or vector type, or that it is a reference
pub data Kind : Type 0 where
  NumberOrVector : ValType ℕ → Kind
  Reference : Kind

-- what value types, and then what references refer to, are drawn from; whether there is garbage collection; the most results of a function type
pub record Offers : Type 0 where
  pub kinds : List Kind
  pub heaps : List AbstractHeapType
  pub gc : Bool
  pub most_results : ℕ

-- a bool where it is asked, else false
unfoldable pub bool_if : Bool → List ℕ → Bool × List ℕ
bool_if asked s = if asked then bool_at s else (false, s)

abbrev pub heap_of : Option AbstractHeapType → HeapType ℕ
heap_of (Some heap) = Abstract heap
heap_of None = Abstract Func

-- what a reference refers to: an index, where a bool says so, or an abstract type
unfoldable pub heap_at : Offers → ℕ → List ℕ → HeapType ℕ × List ℕ
heap_at o bound s =
    let concrete = bool_if (o.gc && nat_lt 0 bound) s in
    if concrete.0 then (let i = int_at 0 (bound - 1) concrete.1 in (Concrete i.0, i.1)) else (let c = choose_at o.heaps concrete.1 in (heap_of c.0, c.1))

unfoldable pub reference_at : Offers → ℕ → List ℕ → ValType ℕ × List ℕ
reference_at o bound s =
    let non_null = bool_if o.gc s in
    let heap = heap_at o bound non_null.1 in
    (Ref (not non_null.0) heap.0, heap.1)

abbrev pub value_of : Offers → ℕ → Option Kind → List ℕ → ValType ℕ × List ℕ
value_of o bound (Some (NumberOrVector type)) s = (type, s)
value_of o bound (Some Reference) s = reference_at o bound s
value_of o bound None s = (I32, s)

unfoldable pub value_at : Offers → ℕ → List ℕ → ValType ℕ × List ℕ
value_at o bound s = value_of o bound (choose_at o.kinds s).0 (choose_at o.kinds s).1

unfoldable pub values_at : Offers → ℕ → ℕ → List ℕ → List (ValType ℕ) × List ℕ
values_at o bound max s = grow_at (value_at o bound) 0 max 0 s

unfoldable pub storage_at : Offers → ℕ → List ℕ → StorageType ℕ × List ℕ
storage_at o bound s =
    let form = int_at 0 2 s in
    if form.0 == 0 then (let v = value_at o bound form.1 in (Val v.0, v.1)) else (if form.0 == 1 then (I8, form.1) else (I16, form.1))

unfoldable pub field_at : Offers → ℕ → List ℕ → FieldType ℕ × List ℕ
field_at o bound s =
    let storage = storage_at o bound s in
    let mutable = bool_at storage.1 in
    (record { element_type = storage.0; mutable = mutable.0 }, mutable.1)

-- the fields after count of them
unfoldable pub fields_at : Offers → ℕ → ℕ → List ℕ → List (FieldType ℕ) × List ℕ
fields_at o bound count s = grow_at (field_at o bound) 0 20 count s

unfoldable pub function_at : Offers → ℕ → List ℕ → CompositeType ℕ × List ℕ
function_at o bound s =
    let params = values_at o bound 20 s in
    let results = values_at o bound o.most_results params.1 in
    (FuncComposite (record { params = params.0; results = results.0 }), results.1)

unfoldable pub structure_at : Offers → ℕ → List ℕ → CompositeType ℕ × List ℕ
structure_at o bound s = let fields = fields_at o bound 0 s in (StructComposite fields.0, fields.1)

unfoldable pub array_at : Offers → ℕ → List ℕ → CompositeType ℕ × List ℕ
array_at o bound s = let field = field_at o bound s in (ArrayComposite field.0, field.1)

unfoldable pub composite_at : Offers → ℕ → List ℕ → CompositeType ℕ × List ℕ
composite_at o bound s =
    let form = int_at 0 2 s in
    if form.0 == 0 then function_at o bound form.1 else (if form.0 == 1 then structure_at o bound form.1 else array_at o bound form.1)

-- a function type that may have this one as its supertype: parameters may become nullable, and results non-null
unfoldable pub function_copy_at : FuncType ℕ → List ℕ → FuncType ℕ × List ℕ
function_copy_at type s =
    let params = each_at (varied_at true) type.params s in
    let results = each_at (varied_at false) type.results params.1 in
    (record { params = params.0; results = results.0 }, results.1)

-- a composite type that may have this one as its supertype: a structure gets further fields
unfoldable pub copy_at : Offers → ℕ → CompositeType ℕ → List ℕ → CompositeType ℕ × List ℕ
copy_at o bound (FuncComposite type) s = let f = function_copy_at type s in (FuncComposite f.0, f.1)
copy_at o bound (StructComposite fields) s =
    let front = each_at narrowed_field_at fields s in
    let all = with_front front.0 (fields_at o bound (length front.0) front.1) in
    (StructComposite all.0, all.1)
copy_at o bound (ArrayComposite field) s = let f = narrowed_field_at field s in (ArrayComposite f.0, f.1)
copy_at o bound (ContComposite function) s = (ContComposite function, s)

-- the first, and what follows
abbrev pub with_first : {A : Type 0} → Option (A × List ℕ) → (A × List ℕ → Option (List A × List ℕ)) → Option (List A × List ℕ)
with_first None next = None
with_first (Some first) next = add_first first.0 (next first)
  where
    add_first : {A : Type 0} → A → Option (List A × List ℕ) → Option (List A × List ℕ)
    add_first x None = None
    add_first x (Some others) = Some (x ∷ others.0, others.1)

-- a type without supertype
unfoldable pub plain_type_at : Offers → ℕ → List ℕ → SubType ℕ × List ℕ
plain_type_at o bound s =
    let open_ = bool_at s in
    let c = composite_at o bound open_.1 in
    (record { is_final = not open_.0; supertypes = []; composite_type = c.0 }, c.1)

-- A type, unless it has a supertype: asked says whether there is one to choose.
unfoldable pub type_at : Offers → ℕ → Bool → List ℕ → Option (SubType ℕ × List ℕ)
type_at o bound asked s = let under = bool_if asked s in if under.0 then None else Some (plain_type_at o bound under.1)

abbrev pub asks_then : Bool → SubType ℕ → Bool
asks_then asked type = asked || not type.is_final

abbrev pub asked_after : Bool → List (SubType ℕ) → Bool
asked_after asked [] = asked
asked_after asked (type ∷ types) = asked_after (asks_then asked type) types

-- so many types, unless one has a supertype
unfoldable pub members_at : Offers → ℕ → Bool → ℕ → List ℕ → Option (List (SubType ℕ) × List ℕ)
members_at o bound asked zero s = Some ([], s)
members_at o bound asked (suc n) s = with_first (type_at o bound asked s) (λ first. members_at o bound (asks_then asked first.0) n first.1)

abbrev pub total : List ℕ → ℕ
total [] = 0
total (n ∷ ns) = n + total ns

-- the groups so far: how many types each has, and whether one of these is open
pub record Front : Type 0 where
  pub sizes : List ℕ
  pub asked : Bool

abbrev pub front_then : Front → List (SubType ℕ) → Front
front_then front group = record { sizes = front.sizes ++ length group ∷ []; asked = asked_after front.asked group }

-- a group of at most so many types
abbrev pub fits : ℕ → ℕ → Bool
fits left size = nat_le size left

-- a group of at most so many types, unless it is a clone or a type has a supertype
unfoldable pub group_at : Offers → ℕ → Front → List ℕ → Option (List (SubType ℕ) × List ℕ)
group_at o left front s =
    let clone = bool_if (list_any (fits left) front.sizes) s in
    if clone.0 then None else (let size = int_at 1 left clone.1 in members_at o (total front.sizes + size.0) front.asked size.0 size.1)

-- Groups, at most so many types in all, unless one is a clone or a type has a supertype. There are at most fuel groups.
unfoldable pub groups_at : Offers → ℕ → ℕ → Front → List ℕ → Option (List (List (SubType ℕ)) × List ℕ)
groups_at o max zero front s = Some ([], s)
groups_at o max (suc fuel) front s =
    let more = bool_if (nat_lt (total front.sizes) max) s in
    if more.0 then with_first (group_at o (max - total front.sizes) front more.1) (λ first. groups_at o max fuel (front_then front first.0) first.1) else Some
    ([], more.1)

abbrev pub no_groups : Front
no_groups = record { sizes = []; asked = false }

-- without garbage collection, a final function type
unfoldable pub function_type_at : Offers → List ℕ → SubType ℕ × List ℕ
function_type_at o s = let f = function_at o 0 s in (record { is_final = true; supertypes = []; composite_type = f.0 }, f.1)
