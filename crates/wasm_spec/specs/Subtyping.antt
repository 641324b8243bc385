-- Subtyping, over any kind R of references to defined types: sub_at gives the sub type that a reference stands for, its references being of
-- the same kind. Core Specification 3.0, Validation, "Matching"; what it says of continuations is as in their proposal.
use Rattle.std.specs.Prelude.{◌≡◌, ⊤, Bool, true, false, Option, Some}
use Rattle.std.specs.List.{Contains}
use Rattle.wasm_spec.specs.Types.{AbstractHeapType, Func, Extern, Any, None, NoExtern, NoFunc, Eq, Struct, Array, I31, Exn, NoExn, Cont, NoCont, HeapType, Abstract, Concrete, RefType, ValType, I32, I64, F32, F64, V128, Ref, CompositeType, FuncComposite, StructComposite, ArrayComposite, ContComposite, SubType}

-- the sub type that a reference stands for, if it stands for one
abbrev pub SubTypes : Type 0 → Type 0
SubTypes R = R → Option (SubType R)

-- the reflexive transitive closure of a relation
pub data Closure {X : Type 0} (Rel : X → X → Type 0) : X → X → Type 0 where
  same : {x : X} → Closure Rel x x
  step : {x y z : X} → Rel x y → Closure Rel y z → Closure Rel x z

-- ---- direct steps

-- from an abstract heap type to one right above it (Matching, "Heap Types")
pub data AbstractStep : AbstractHeapType → AbstractHeapType → Type 0 where
  none_i31 : AbstractStep None I31
  none_struct : AbstractStep None Struct
  none_array : AbstractStep None Array
  i31_eq : AbstractStep I31 Eq
  struct_eq : AbstractStep Struct Eq
  array_eq : AbstractStep Array Eq
  eq_any : AbstractStep Eq Any
  nofunc_func : AbstractStep NoFunc Func
  noextern_extern : AbstractStep NoExtern Extern
  noexn_exn : AbstractStep NoExn Exn
  nocont_cont : AbstractStep NoCont Cont

-- the abstract type right above all types of a kind, which tells the kinds apart
abbrev pub abstract_of : {R : Type 0} → CompositeType R → AbstractHeapType
abstract_of (FuncComposite type) = Func
abstract_of (StructComposite fields) = Struct
abstract_of (ArrayComposite field) = Array
abstract_of (ContComposite function) = Cont

-- the abstract type below all types of a kind
abbrev pub bottom_of : {R : Type 0} → CompositeType R → AbstractHeapType
bottom_of (FuncComposite type) = NoFunc
bottom_of (StructComposite fields) = None
bottom_of (ArrayComposite field) = None
bottom_of (ContComposite function) = NoCont

-- a reference stands for a type whose composite type has a property
pub record Defined {R : Type 0} (sub_at : SubTypes R) (r : R) (Holds : CompositeType R → Type 0) : Type 0 where
  pub type : SubType R
  pub is : sub_at r ≡ Some type
  pub holds : Holds type.composite_type

-- A reference stands for a type of the kind that has this abstract type. No type is of the kind `any` or `eq`: `abstract_of` gives neither.
abbrev pub IsOfKind : {R : Type 0} → SubTypes R → R → AbstractHeapType → Type 0
IsOfKind sub_at r kind = Defined sub_at r (λ c. abstract_of c ≡ kind)

-- t is declared as a supertype of r
pub record Declared {R : Type 0} (sub_at : SubTypes R) (r t : R) : Type 0 where
  pub type : SubType R
  pub is : sub_at r ≡ Some type
  pub among : Contains type.supertypes t

-- A declared link counts only between types of one kind, which validity asks for. Among all trees there are also structures that are declared
-- below a function; if these links counted, `none` would be below each function type.
pub record Link {R : Type 0} (sub_at : SubTypes R) (r t : R) : Type 0 where
  pub declared : Declared sub_at r t
  pub kind : IsOfKind sub_at t (abstract_of declared.type.composite_type)

abbrev pub HeapStep : {R : Type 0} → SubTypes R → HeapType R → HeapType R → Type 0
HeapStep sub_at (Abstract a) (Abstract b) = AbstractStep a b
HeapStep sub_at (Abstract a) (Concrete r) = Defined sub_at r (λ c. bottom_of c ≡ a)
HeapStep sub_at (Concrete r) (Abstract b) = IsOfKind sub_at r b
HeapStep sub_at (Concrete r) (Concrete t) = Link sub_at r t

-- ---- subtyping

-- (Matching, "Heap Types", "Defined Types")
abbrev pub HeapBelow : {R : Type 0} → SubTypes R → HeapType R → HeapType R → Type 0
HeapBelow sub_at a b = Closure (HeapStep sub_at) a b

-- a reference that may be null is never below one that may not (Matching, "Reference Types")
pub record RefBelow {R : Type 0} (sub_at : SubTypes R) (a b : RefType R) : Type 0 where
  pub null : a.nullable ≡ true → b.nullable ≡ true
  pub heap : HeapBelow sub_at a.heap_type b.heap_type

-- numbers and vectors are below themselves alone (Matching, "Number Types", "Vector Types", "Value Types")
abbrev pub ValBelow : {R : Type 0} → SubTypes R → ValType R → ValType R → Type 0
ValBelow sub_at I32 I32 = ⊤
ValBelow sub_at I64 I64 = ⊤
ValBelow sub_at F32 F32 = ⊤
ValBelow sub_at F64 F64 = ⊤
ValBelow sub_at V128 V128 = ⊤
ValBelow sub_at (Ref n a) (Ref m b) = RefBelow sub_at (record { nullable = n; heap_type = a }) (record { nullable = m; heap_type = b })
ValBelow sub_at _ _ = ⊥

-- ---- the closure, worked out

-- whether one abstract heap type is below another
abbrev pub is_abstract_below : AbstractHeapType → AbstractHeapType → Bool
is_abstract_below None None = true
is_abstract_below None I31 = true
is_abstract_below None Struct = true
is_abstract_below None Array = true
is_abstract_below None Eq = true
is_abstract_below None Any = true
is_abstract_below I31 I31 = true
is_abstract_below I31 Eq = true
is_abstract_below I31 Any = true
is_abstract_below Struct Struct = true
is_abstract_below Struct Eq = true
is_abstract_below Struct Any = true
is_abstract_below Array Array = true
is_abstract_below Array Eq = true
is_abstract_below Array Any = true
is_abstract_below Eq Eq = true
is_abstract_below Eq Any = true
is_abstract_below Any Any = true
is_abstract_below NoFunc NoFunc = true
is_abstract_below NoFunc Func = true
is_abstract_below Func Func = true
is_abstract_below NoExtern NoExtern = true
is_abstract_below NoExtern Extern = true
is_abstract_below Extern Extern = true
is_abstract_below NoExn NoExn = true
is_abstract_below NoExn Exn = true
is_abstract_below Exn Exn = true
is_abstract_below NoCont NoCont = true
is_abstract_below NoCont Cont = true
is_abstract_below Cont Cont = true
is_abstract_below _ _ = false

-- one heap type is below another, by that table and the links from type to type; a law ties it to the closure
abbrev pub HeapTest : {R : Type 0} → SubTypes R → HeapType R → HeapType R → Type 0
HeapTest sub_at (Abstract a) (Abstract b) = is_abstract_below a b ≡ true
HeapTest sub_at (Abstract a) (Concrete r) = Defined sub_at r (λ c. bottom_of c ≡ a)
HeapTest sub_at (Concrete r) (Abstract b) = Defined sub_at r (λ c. is_abstract_below (abstract_of c) b ≡ true)
HeapTest sub_at (Concrete r) (Concrete t) = Closure (Link sub_at) r t
