-- The operands of a body, and which locals were assigned: how operators take and give them. Core Specification 3.0, Validation, "Instructions", and
-- appendix "Validation Algorithm". After an operator that never goes on, operands may be unknown: what is taken then fits each type.
use Rattle.std.specs.Prelude.{ℕ, Bool, true, false, not, ◌||◌, List, [], ◌∷◌, ◌++◌, map, reverse, Option, Some, None, option_map, if◌then◌else◌}
use Rattle.std.specs.Option.{option_and_then}
use Rattle.wasm_bodies.specs.BodyContext.{ModuleItems, Local, provided, is_among}
use Rattle.wasm_spec.specs.Types.{AbstractHeapType, Abstract, ValType, I32, I64, F32, F64, V128, Ref, FuncType, is_ref}

-- an operand: of a type, or unknown, or unknown but a reference that isn't null
pub data Operand (R : Type 0) : Type 0 where
  Known : ValType R → Operand R
  Unknown : Operand R
  UnknownRef : Operand R

-- The operands above what is open, the last one first; whether the list is open below them; the locals without a value at the start that were
-- assigned.
pub record State (R : Type 0) : Type 0 where
  pub known : List (Operand R)
  pub is_open : Bool
  pub assigned : List ℕ

-- ---- taking

-- the last operand, and what lies below it: of an open list whose known part is empty, an unknown one
abbrev pub popped_from : {R : Type 0} → List (Operand R) → State R → Option (Operand R × State R)
popped_from (x ∷ xs) s = Some (x, record s { known = xs })
popped_from [] s = if s.is_open then Some (Unknown, s) else None

abbrev pub popped : {R : Type 0} → State R → Option (Operand R × State R)
popped s = popped_from s.known s

-- an unknown operand is below every type, an unknown reference below every reference type
abbrev pub fits : {R : Type 0} → ModuleItems R → ValType R → Operand R → Bool
fits items type (Known known) = items.is_below known type
fits items type Unknown = true
fits items type UnknownRef = is_ref type

-- one operand of the type is taken
abbrev pub taken : {R : Type 0} → ModuleItems R → ValType R → State R → Option (State R)
taken items type s = option_and_then (λ p. provided (fits items type p.0) (Some p.1)) (popped s)

-- operands of these types are taken, that of the first type first
abbrev pub each_taken : {R : Type 0} → ModuleItems R → List (ValType R) → State R → Option (State R)
each_taken items [] s = Some s
each_taken items (type ∷ types) s = option_and_then (each_taken items types) (taken items type s)

-- operands of these types, which were given in this order, are taken
abbrev pub all_taken : {R : Type 0} → ModuleItems R → List (ValType R) → State R → Option (State R)
all_taken items types s = each_taken items (reverse types) s

-- ---- giving

abbrev pub put : {R : Type 0} → Operand R → State R → State R
put x s = record s { known = x ∷ s.known }

-- operands of these types are given in this order
abbrev pub given : {R : Type 0} → List (ValType R) → State R → State R
given types s = record s { known = reverse (map (λ type. Known type) types) ++ s.known }

-- an inner list begins with these operands alone
abbrev pub fresh : {R : Type 0} → List (ValType R) → List ℕ → State R
fresh types assigned = given types (record { known = []; is_open = false; assigned = assigned })

-- what a type of functions says is taken and given
abbrev pub applied : {R : Type 0} → ModuleItems R → FuncType R → State R → Option (State R)
applied items type s = option_map (given type.results) (all_taken items type.params s)

-- nothing is known after an operator that never goes on
abbrev pub nothing_known : {R : Type 0} → State R → State R
nothing_known s = record s { known = []; is_open = true }

-- The local has a value from now on. One that had a value from the start isn't kept among the assigned ones.
abbrev pub with_assigned : {R : Type 0} → Local R → ℕ → State R → State R
with_assigned local index s = if local.is_set || is_among s.assigned index then s else record s { assigned = s.assigned ++ index ∷ [] }

-- ---- operators on operands of several types

-- a number or a vector, and two of one type
abbrev pub is_plain : {R : Type 0} → ValType R → Bool
is_plain type = not (is_ref type)

abbrev pub are_same_plain : {R : Type 0} → ValType R → ValType R → Bool
are_same_plain I32 I32 = true
are_same_plain I64 I64 = true
are_same_plain F32 F32 = true
are_same_plain F64 F64 = true
are_same_plain V128 V128 = true
are_same_plain _ _ = false

-- Of two operands, what a choice without a type gives: they are numbers or vectors of one type. An unknown reference is none. The second is on top, and no unknown
-- operand is on top of a known one.
abbrev pub selected : {R : Type 0} → Operand R → Operand R → Option (Operand R)
selected (Known a) (Known b) = provided (are_same_plain a b) (Some (Known a))
selected Unknown (Known b) = provided (is_plain b) (Some (Known b))
selected Unknown Unknown = Some Unknown
selected _ _ = None

-- whether an operand may be a reference
abbrev pub may_be_ref : {R : Type 0} → Operand R → Bool
may_be_ref (Known type) = is_ref type
may_be_ref Unknown = true
may_be_ref UnknownRef = true

-- the reference, which isn't null
abbrev pub non_null : {R : Type 0} → Operand R → Option (Operand R)
non_null (Known (Ref nullable heap)) = Some (Known (Ref false heap))
non_null (Known type) = None
non_null Unknown = Some UnknownRef
non_null UnknownRef = Some UnknownRef

-- A reference of one kind, as one of another kind: it may be null where it might be. What is unknown is one that isn't null.
abbrev pub converted : {R : Type 0} → ModuleItems R → AbstractHeapType → AbstractHeapType → Operand R → Option (Operand R)
converted items from to (Known (Ref nullable heap)) =
    provided (items.is_below (Ref nullable heap) (Ref true (Abstract from))) (Some (Known (Ref nullable (Abstract to))))
converted items from to (Known type) = None
converted items from to Unknown = Some (Known (Ref false (Abstract to)))
converted items from to UnknownRef = Some (Known (Ref false (Abstract to)))
