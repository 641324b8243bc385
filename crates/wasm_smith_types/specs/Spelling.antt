-- How a list of groups is spelled with garbage collection: by one spelling after another of the draws on the way to it. No group is a clone, no
-- type has a supertype, and references may be null. Seeds are bytes; what is said here holds of any numbers. A reader has to believe it to know
-- which seeds make a list.
use Rattle.std.specs.Prelude.{◌≡◌, ℕ, zero, suc, ◌+◌, ◌-◌, ◌%◌, ◌<◌, ◌≤◌, Bool, true, false, not, ◌&&◌, nat_lt, List, [], ◌∷◌, ◌++◌, length, Some, slice_get}
use Rattle.std.specs.List.{list_any}
use Rattle.wasm_spec.specs.Types.{HeapType, Abstract, Concrete, ValType, Ref, StorageType, I8, I16, Val, FieldType, CompositeType, FuncComposite, StructComposite, ArrayComposite, ContComposite, SubType}
use Rattle.wasm_smith_unstructured.specs.Draws.{big_number, width}
use Rattle.wasm_smith_types.specs.Drawing.{NumberOrVector, Reference, Offers, Front, front_then, asks_then, fits, total}

-- ---- draws

abbrev pub parity : Bool → ℕ
parity true = 1
parity false = 0

-- any one byte of its parity
abbrev pub SpellsBool : Bool → List ℕ → Type 0
SpellsBool b s = (byte : ℕ) × (s ≡ byte ∷ []) × (byte % 2 ≡ parity b)

-- false where it is asked, and else nothing
abbrev pub SpellsNo : Bool → List ℕ → Type 0
SpellsNo true s = SpellsBool false s
SpellsNo false s = s ≡ []

-- of a number from a to b: as many bytes as b - a takes, of any number with that remainder
abbrev pub SpellsInt : ℕ → ℕ → ℕ → List ℕ → Type 0
SpellsInt a b n s = (length s ≡ width (b - a)) × (a + big_number s % (b - a + 1) ≡ n)

-- of a thing among others: the number of an index at which it stands
abbrev pub SpellsChoice : {A : Type 0} → List A → A → List ℕ → Type 0
SpellsChoice xs x s = (index : ℕ) × (slice_get xs index ≡ Some x) × SpellsInt 0 (length xs - 1) index s

-- true before each thing
abbrev pub SpellsEach : {A : Type 0} → (A → List ℕ → Type 0) → List A → List ℕ → Type 0
SpellsEach SpellsA [] s = s ≡ []
SpellsEach SpellsA (x ∷ xs) s = (more a b : List ℕ) × (s ≡ more ++ (a ++ b)) × SpellsBool true more × SpellsA x a × SpellsEach SpellsA xs b

-- false where room is left
abbrev pub SpellsEnd : ℕ → List ℕ → Type 0
SpellsEnd zero s = s ≡ []
SpellsEnd (suc room) s = SpellsBool false s

-- of at most so many things
abbrev pub SpellsList : {A : Type 0} → (A → List ℕ → Type 0) → ℕ → List A → List ℕ → Type 0
SpellsList SpellsA max xs s = (a b : List ℕ) × (s ≡ a ++ b) × SpellsEach SpellsA xs a × SpellsEnd (max - length xs) b × (length xs ≤ max)

-- ---- types; references go to types with indexes below bound

-- an abstract type, or an index: a bool tells them apart where there are types to refer to
abbrev pub SpellsHeap : Offers → ℕ → HeapType ℕ → List ℕ → Type 0
SpellsHeap o bound (Abstract heap) s = (a b : List ℕ) × (s ≡ a ++ b) × SpellsNo (o.gc && nat_lt 0 bound) a × SpellsChoice o.heaps heap b
SpellsHeap o bound (Concrete index) s = (a b : List ℕ) × (s ≡ a ++ b) × (o.gc ≡ true) × (index < bound) × SpellsBool true a × SpellsInt 0 (bound - 1) index b

abbrev pub SpellsValue : Offers → ℕ → ValType ℕ → List ℕ → Type 0
SpellsValue o bound (Ref nullable heap) s =
    (a b c : List ℕ) × (s ≡ a ++ (b ++ c)) × (nullable ≡ true) × SpellsChoice o.kinds Reference a × SpellsNo o.gc b × SpellsHeap o bound heap c
SpellsValue o bound type s = SpellsChoice o.kinds (NumberOrVector type) s

-- a value type, or one of the two packed types
abbrev pub SpellsStorage : Offers → ℕ → StorageType ℕ → List ℕ → Type 0
SpellsStorage o bound (Val type) s = (a b : List ℕ) × (s ≡ a ++ b) × SpellsInt 0 2 0 a × SpellsValue o bound type b
SpellsStorage o bound I8 s = SpellsInt 0 2 1 s
SpellsStorage o bound I16 s = SpellsInt 0 2 2 s

abbrev pub SpellsField : Offers → ℕ → FieldType ℕ → List ℕ → Type 0
SpellsField o bound field s = (a b : List ℕ) × (s ≡ a ++ b) × SpellsStorage o bound field.element_type a × SpellsBool field.mutable b

-- a function, a structure or an array
abbrev pub SpellsComposite : Offers → ℕ → CompositeType ℕ → List ℕ → Type 0
SpellsComposite o bound (FuncComposite type) s =
    (a b c : List ℕ) × (s ≡ a ++ (b ++ c)) × SpellsInt 0 2 0 a × SpellsList (SpellsValue o bound) 20 type.params b × SpellsList
    (SpellsValue o bound) o.most_results type.results c
SpellsComposite o bound (StructComposite fields) s = (a b : List ℕ) × (s ≡ a ++ b) × SpellsInt 0 2 1 a × SpellsList (SpellsField o bound) 20 fields b
SpellsComposite o bound (ArrayComposite field) s = (a b : List ℕ) × (s ≡ a ++ b) × SpellsInt 0 2 2 a × SpellsField o bound field b
SpellsComposite o bound (ContComposite function) s = ⊥

-- asked: whether an earlier type is open, so that a bool for a supertype is asked
abbrev pub SpellsType : Offers → ℕ → Bool → SubType ℕ → List ℕ → Type 0
SpellsType o bound asked type s =
    (a b c : List ℕ) × (s ≡ a ++ (b ++ c)) × (type.supertypes ≡ []) × SpellsNo asked a × SpellsBool
    (not type.is_final) b × SpellsComposite o bound type.composite_type c

-- the types of a group
abbrev pub SpellsMembers : Offers → ℕ → Bool → List (SubType ℕ) → List ℕ → Type 0
SpellsMembers o bound asked [] s = s ≡ []
SpellsMembers o bound asked (type ∷ types) s =
    (a b : List ℕ) × (s ≡ a ++ b) × SpellsType o bound asked type a × SpellsMembers o bound (asks_then asked type) types b

-- ---- groups

-- that it is no clone, its size, and its types
abbrev pub SpellsGroup : Offers → ℕ → Front → List (SubType ℕ) → List ℕ → Type 0
SpellsGroup o left front group s =
    (a b c : List ℕ) × (s ≡ a ++ (b ++ c)) × SpellsNo (list_any (fits left) front.sizes) a × SpellsInt 1 left (length group) b × SpellsMembers o
    (total front.sizes + length group) front.asked group c

-- groups of at most so many types in all
abbrev pub SpellsGroups : Offers → ℕ → Front → List (List (SubType ℕ)) → List ℕ → Type 0
SpellsGroups o max front [] s = SpellsNo (nat_lt (total front.sizes) max) s
SpellsGroups o max front (group ∷ groups) s =
    (a b c : List ℕ) × (s ≡ a ++ (b ++ c)) × (total front.sizes < max) × SpellsBool true a × SpellsGroup o
    (max - total front.sizes) front group b × SpellsGroups o max (front_then front group) groups c
