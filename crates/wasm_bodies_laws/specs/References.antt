-- The context of a body, over another kind of references to defined types: all references are replaced by a map, as where a validator's ids, or
-- a module's type indexes, are replaced by the defined types that they stand for. The typing of bodies asks of references only whether one type is
-- below another, so this is given for the new kind.
use Rattle.std.specs.Prelude.{◌≡◌, ⊤, ℕ, Bool, true, false, ◌||◌, List, [], map, Some, slice_get}
use Rattle.std.specs.List.{AllByRecursion}
use Rattle.wasm_bodies.specs.Bodies.{Entered}
use Rattle.wasm_bodies.specs.BodyContext.{NamedType, ModuleItems, Local, BodyContext, written, unpacked, func_at, fields_at, element_at, reference_at}
use Rattle.wasm_bodies.specs.Effects.{Labels}
use Rattle.wasm_bodies.specs.Operands.{Operand, Known, Unknown, UnknownRef, State}
use Rattle.wasm_bodies.specs.OperatorRows.{NumberType, value_type}
use Rattle.wasm_bodies.specs.Operators.{BlockType, Empty, Value, Indexed}
use Rattle.wasm_bodies.specs.Signatures.{table_item}
use Rattle.wasm_bodies_laws.specs.Machine.{Frame, Machine}
use Rattle.wasm_spec.specs.Features.{Features, has, FunctionReferences, Gc, needs_type_canonicalization}
use Rattle.wasm_spec.specs.TypeReferences.{ref_map, val_map, func_map, composite_map, table_map, global_map, func_refs, table_refs, global_refs}
use Rattle.wasm_spec.specs.Types.{AbstractHeapType, HeapType, Abstract, Concrete, ValType, Ref, FieldType, FuncType, TableType, GlobalType}

-- whether the first type is below the second
abbrev pub Below : Type 0 → Type 0
Below R = ValType R → ValType R → Bool

-- ---- what bodies are judged in

abbrev pub named_map : {R S : Type 0} → (R → S) → NamedType R → NamedType S
named_map f named = record { reference = f named.reference; composite = composite_map f named.composite }

-- the same items over the other references, of which this says what is below what
abbrev pub items_map : {R S : Type 0} → (R → S) → ModuleItems R → Below S → ModuleItems S
items_map f items below = record {
  types = map (named_map f) items.types;
  functions = items.functions;
  tables = map (table_map f) items.tables;
  memories = items.memories;
  globals = map (global_map f) items.globals;
  tags = items.tags;
  elements = map (ref_map f) items.elements;
  data_count = items.data_count;
  declared = items.declared;
  is_below = below;
}

abbrev pub local_map : {R S : Type 0} → (R → S) → Local R → Local S
local_map f local = record { is_set = local.is_set; type = val_map f local.type }

abbrev pub context_map : {R S : Type 0} → (R → S) → BodyContext R → Below S → BodyContext S
context_map f cx below = record {
  features = cx.features;
  items = items_map f cx.items below;
  locals = map (local_map f) cx.locals;
  results = map (val_map f) cx.results;
}

-- ---- what they lead to

abbrev pub operand_map : {R S : Type 0} → (R → S) → Operand R → Operand S
operand_map f (Known type) = Known (val_map f type)
operand_map f Unknown = Unknown
operand_map f UnknownRef = UnknownRef

abbrev pub state_map : {R S : Type 0} → (R → S) → State R → State S
state_map f s = record { known = map (operand_map f) s.known; is_open = s.is_open; assigned = s.assigned }

abbrev pub labels_map : {R S : Type 0} → (R → S) → Labels R → Labels S
labels_map f labels = map (map (val_map f)) labels

abbrev pub entered_map : {R S : Type 0} → (R → S) → Entered R → Entered S
entered_map f b = record { signature = func_map f b.signature; below = state_map f b.below }

-- ---- bodies operator by operator

abbrev pub block_map : {R S : Type 0} → (R → S) → BlockType R → BlockType S
block_map f Empty = Empty
block_map f (Value type) = Value (val_map f type)
block_map f (Indexed index) = Indexed index

abbrev pub frame_map : {R S : Type 0} → (R → S) → Frame R → Frame S
frame_map f frame = record { kind = frame.kind; block_type = block_map f frame.block_type; below = state_map f frame.below }

abbrev pub machine_map : {R S : Type 0} → (R → S) → Machine R → Machine S
machine_map f m = record { now = state_map f m.now; frames = map (frame_map f) m.frames }

-- these labels and this state are the map of some of which this holds
abbrev pub AreMapped : {R S : Type 0} → (R → S) → Labels S → State S → (Labels R → State R → Type 0) → Type 0
AreMapped {R} f labels s Holds = (from : Labels R) × (reached : State R) × (labels ≡ labels_map f from) × (s ≡ state_map f reached) × Holds from reached

-- ---- the premise

-- f takes types to types of which the same is said.
abbrev pub Agree : {R S : Type 0} → (R → S) → ModuleItems R → Below S → Type 0
Agree {R} f items below = (a b : ValType R) → below (val_map f a) (val_map f b) ≡ items.is_below a b

-- The same where the second type is one that may be wanted of an operand. What operands are only given, as `ref.func` gives a reference to a defined type, is
-- never the second.
abbrev pub AgreeOn : {R S : Type 0} → (ValType R → Type 0) → (R → S) → ModuleItems R → Below S → Type 0
AgreeOn {R} Wanted f items below = (a b : ValType R) → Wanted b → below (val_map f a) (val_map f b) ≡ items.is_below a b

-- ---- which types are wanted

-- each of these
abbrev pub AreAllWanted : {R : Type 0} → (ValType R → Type 0) → List (ValType R) → Type 0
AreAllWanted Wanted types = AllByRecursion Wanted types

-- what a function type takes and gives
abbrev pub TakesAndGives : {R : Type 0} → (ValType R → Type 0) → FuncType R → Type 0
TakesAndGives Wanted type = AreAllWanted Wanted type.params × AreAllWanted Wanted type.results

-- The types that operators may want of their operands, in any body: each with the rules that want it. What belongs to a feature is wanted only where the
-- features have it.
pub record AreWanted {R : Type 0} (Wanted : ValType R → Type 0) (features : Features) (items : ModuleItems R) : Type 0 where
  -- operators on numbers, conditions, lengths, addresses of memories, indexes of tables
  pub numbers : (type : NumberType) → Wanted (value_type type)
  -- calls through a table, which has to hold functions; `ref.eq`, `any.convert_extern` and `extern.convert_any`
  pub abstract_references : (heap : AbstractHeapType) → Wanted (Ref true (Abstract heap))
  -- `select` with a type, blocks that give a value, and locals that a body declares
  pub written : (type : ValType ℕ) (stands_for : ValType R) → written features items type ≡ Some stands_for → Wanted stands_for
  -- calls want parameters; blocks whose type is an index want them too, and at their ends the results
  pub functions : (index : ℕ) (type : FuncType R) → func_at items index ≡ Some type → TakesAndGives Wanted type
  -- `global.set`
  pub globals : (index : ℕ) (type : GlobalType R) → slice_get items.globals index ≡ Some type → type.mutable ≡ true → Wanted type.value_type
  -- `table.set`, `table.grow` and `table.fill`; `table.copy` and `table.init`, of the table that they write to
  pub tables : (index : ℕ) (type : TableType R) → slice_get items.tables index ≡ Some type → Wanted (table_item type)
  -- `call_ref` and `return_call_ref`
  pub references : has features FunctionReferences ≡ true → (index : ℕ) (type : ValType R) → reference_at items true index ≡ Some type → Wanted type
  -- `br_on_non_null`, whose operand may be null where its label takes one that isn't
  pub nullable : has features FunctionReferences ≡ true → (nullable : Bool) (heap : HeapType R) → Wanted (Ref nullable heap) → Wanted (Ref true heap)
  -- `struct.new`
  pub fields : has features Gc ≡ true → (index : ℕ) (fields : List (FieldType R)) → fields_at items index ≡ Some fields → AreAllWanted Wanted (map unpacked fields)
  -- `array.new` and `array.new_fixed`
  pub elements : has features Gc ≡ true → (index : ℕ) (field : FieldType R) → element_at items index ≡ Some field → Wanted (unpacked field)

-- The types that one body wants beside this: its locals' types where they are assigned, and its results at its end and where it returns.
pub record AreWantedIn {R : Type 0} (Wanted : ValType R → Type 0) (cx : BodyContext R) : Type 0 where
  pub items : AreWanted Wanted cx.features cx.items
  pub locals : AllByRecursion (λ local. Wanted local.type) cx.locals
  pub results : AreAllWanted Wanted cx.results

-- what jumps want
abbrev pub AreLabelsWanted : {R : Type 0} → (ValType R → Type 0) → Labels R → Type 0
AreLabelsWanted Wanted labels = AllByRecursion (AreAllWanted Wanted) labels

-- what an open block wants at its end, and jumps to it: of a type that a body wrote, or whose index names one, it is wanted in any body
abbrev pub IsBlockWanted : {R : Type 0} → (ValType R → Type 0) → BlockType R → Type 0
IsBlockWanted Wanted Empty = ⊤
IsBlockWanted Wanted (Value type) = Wanted type
IsBlockWanted Wanted (Indexed index) = ⊤

abbrev pub AreFramesWanted : {R : Type 0} → (ValType R → Type 0) → List (Frame R) → Type 0
AreFramesWanted Wanted frames = AllByRecursion (λ frame. IsBlockWanted Wanted frame.block_type) frames

-- ---- wanted types

-- those that a test lets through
abbrev pub WantedBy : {R : Type 0} → (ValType R → Bool) → ValType R → Type 0
WantedBy is_wanted type = is_wanted type ≡ true

-- every type
abbrev pub is_any : {R : Type 0} → ValType R → Bool
is_any type = true

-- a number, a vector or a reference to an abstract type: what refers to no defined type
abbrev pub is_abstract : {R : Type 0} → ValType R → Bool
is_abstract (Ref nullable (Concrete r)) = false
is_abstract type = true

-- Under these features: every type where equal types are known to be equal, and else none that refers to a defined type.
abbrev pub is_wanted_under : {R : Type 0} → Features → ValType R → Bool
is_wanted_under features type = needs_type_canonicalization features || is_abstract type

-- All types that a module wants of operands refer to no defined type. Structures and arrays aren't asked, for no operator wants their fields without
-- garbage collection; nor are continuation types, for no operator wants what they refer to.
pub record HasNoReferences {R : Type 0} (items : ModuleItems R) : Type 0 where
  pub functions : (index : ℕ) (type : FuncType R) → func_at items index ≡ Some type → func_refs type ≡ []
  pub tables : (index : ℕ) (type : TableType R) → slice_get items.tables index ≡ Some type → table_refs type ≡ []
  pub globals : (index : ℕ) (type : GlobalType R) → slice_get items.globals index ≡ Some type → global_refs type ≡ []
