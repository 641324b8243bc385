-- Which bodies are well typed: a judgement on the tree of a body's operators, in which each block holds its inner list; and the bytes of
-- bodies. Core Specification 3.0, Validation, "Instructions" and Modules, "Functions"; Binary Format, Modules, "Code Section".
use Rattle.std.specs.Prelude.{◌≡◌, ◌⊎◌, ◌≤◌, ◌+◌, ℕ, Bool, true, false, List, [], ◌∷◌, ◌++◌, length, map, replicate, sum_by, nat_eq, Option, Some, None, option_map, is_some}
use Rattle.std.specs.List.{AllByRecursion}
use Rattle.std.specs.Option.{option_and_then}
use Rattle.wasm_bodies.specs.BodyContext.{ModuleItems, BodyContext, Local, written, is_defaultable, func_at, provided}
use Rattle.wasm_bodies.specs.Effects.{Labels, effect}
use Rattle.wasm_bodies.specs.Operands.{State, taken, all_taken, given, fresh}
use Rattle.wasm_bodies.specs.OperatorGates.{is_on}
use Rattle.wasm_bodies.specs.OperatorGrammar.{IsOperators, IsOtherCode}
use Rattle.wasm_bodies.specs.Operators.{BlockType, Empty, Value, Indexed, Operator, Block, Loop, If, Else, End}
use Rattle.wasm_bodies.specs.Signatures.{from_to, gives_one}
use Rattle.wasm_spec.specs.Bytes.{IsU32, IsPair, IsItems, IsList}
use Rattle.wasm_spec.specs.Features.{Features}
use Rattle.wasm_spec.specs.Limits.{Locals, IsPassedBy}
use Rattle.wasm_spec.specs.TypeGrammar.{IsValType}
use Rattle.wasm_spec.specs.Types.{ValType, I32, FuncType}

-- ---- trees

-- A list of operators: its first one, with the lists that it holds, and then the rest.
pub data Code : Type 0 where
  done : Code
  simple : Operator ℕ → Code → Code
  block : BlockType ℕ → Code → Code → Code
  loop : BlockType ℕ → Code → Code → Code
  if_then : BlockType ℕ → Code → Code → Code
  if_else : BlockType ℕ → Code → Code → Code → Code

-- the operators of the code in the order of the encoding, and then those that follow
abbrev pub flat : Code → List (Operator ℕ) → List (Operator ℕ)
flat done after = after
flat (simple operator rest) after = operator ∷ flat rest after
flat (block type inner rest) after = Block type ∷ flat inner (End ∷ flat rest after)
flat (loop type inner rest) after = Loop type ∷ flat inner (End ∷ flat rest after)
flat (if_then type inner rest) after = If type ∷ flat inner (End ∷ flat rest after)
flat (if_else type inner other rest) after = If type ∷ flat inner (Else ∷ flat other (End ∷ flat rest after))

-- ---- blocks

-- what a block takes and gives, if its type stands for something ("Control Instructions", "Block Types")
abbrev pub block_signature : {R : Type 0} → BodyContext R → BlockType ℕ → Option (FuncType R)
block_signature cx Empty = Some (from_to [] [])
block_signature cx (Value type) = option_map gives_one (written cx.features cx.items type)
block_signature cx (Indexed index) = func_at cx.items index

-- A block that was entered: what it takes and gives, and the list around it, below the operands that it took.
pub record Entered (R : Type 0) : Type 0 where
  pub signature : FuncType R
  pub below : State R

abbrev pub entered_with : {R : Type 0} → ModuleItems R → FuncType R → State R → Option (Entered R)
entered_with items signature s = option_map (λ m. record { signature = signature; below = m }) (all_taken items signature.params s)

-- what opens a block with this operator enters, if it may
abbrev pub entered : {R : Type 0} → BodyContext R → Operator ℕ → BlockType ℕ → State R → Option (Entered R)
entered cx operator type s =
    provided (is_on cx.features operator) (option_and_then (λ signature. entered_with cx.items signature s) (block_signature cx type))

-- the list that the block begins with, and the one around it after its end
abbrev pub start_of : {R : Type 0} → Entered R → State R
start_of b = fresh b.signature.params b.below.assigned

abbrev pub after_block : {R : Type 0} → Entered R → State R
after_block b = given b.signature.results b.below

-- ---- the judgement

abbrev pub is_used_up : {R : Type 0} → Option (State R) → Bool
is_used_up None = false
is_used_up (Some s) = nat_eq (length s.known) 0

-- the list ends with exactly these types, of which an open one supplies what isn't known
abbrev pub is_exactly : {R : Type 0} → ModuleItems R → List (ValType R) → State R → Bool
is_exactly items types s = is_used_up (all_taken items types s)

abbrev pub IsExactly : {R : Type 0} → ModuleItems R → List (ValType R) → State R → Type 0
IsExactly items types s = is_exactly items types s ≡ true

-- an inner list leads to some last state, and ends there with exactly these types
abbrev pub EndsWith : {R : Type 0} → ModuleItems R → List (ValType R) → (State R → Type 0) → Type 0
EndsWith {R} items types Leads = (e : State R) × Leads e × IsExactly items types e

-- from a state, with these labels, the code leads to another
abbrev pub Judged : {R : Type 0} → BodyContext R → Labels R → State R → Code → State R → Type 0
Judged cx labels s done last = last ≡ s
Judged {R} cx labels s (simple operator rest) last = (m : State R) × (effect cx labels s operator ≡ Some m) × Judged cx labels m rest last
-- a jump to a block goes to its end, so it takes what the block gives
Judged {R} cx labels s (block type inner rest) last =
    (b : Entered R) × (entered cx (Block type) type s ≡ Some b)
    × EndsWith cx.items b.signature.results (λ e. Judged cx (b.signature.results ∷ labels) (start_of b) inner e)
    × Judged cx labels (after_block b) rest last
-- a jump to a loop goes to its start
Judged {R} cx labels s (loop type inner rest) last =
    (b : Entered R) × (entered cx (Loop type) type s ≡ Some b)
    × EndsWith cx.items b.signature.results (λ e. Judged cx (b.signature.params ∷ labels) (start_of b) inner e)
    × Judged cx labels (after_block b) rest last
-- without another list, the other one is empty: what is taken serves as what is given
Judged {R} cx labels s (if_then type inner rest) last =
    (b : Entered R) × (option_and_then (entered cx (If type) type) (taken cx.items I32 s) ≡ Some b)
    × EndsWith cx.items b.signature.results (λ e. Judged cx (b.signature.results ∷ labels) (start_of b) inner e)
    × IsExactly cx.items b.signature.results (start_of b)
    × Judged cx labels (after_block b) rest last
-- the other list begins as the first one did
Judged {R} cx labels s (if_else type inner other rest) last =
    (b : Entered R) × (option_and_then (entered cx (If type) type) (taken cx.items I32 s) ≡ Some b)
    × EndsWith cx.items b.signature.results (λ e. Judged cx (b.signature.results ∷ labels) (start_of b) inner e)
    × EndsWith cx.items b.signature.results (λ e. Judged cx (b.signature.results ∷ labels) (start_of b) other e)
    × Judged cx labels (after_block b) rest last

-- The code is that of a body. It begins without operands, for parameters are locals, and ends with what the function gives.
abbrev pub IsTyped : {R : Type 0} → BodyContext R → Code → Type 0
IsTyped cx code = EndsWith cx.items cx.results (λ e. Judged cx (cx.results ∷ []) (fresh [] []) code e)

-- The operators are those of a body, the last one being its end.
pub record IsBodyOf {R : Type 0} (cx : BodyContext R) (operators : List (Operator ℕ)) : Type 0 where
  pub code : Code
  pub is_flat : operators ≡ flat code (End ∷ [])
  pub typed : IsTyped cx code

-- ---- the first operators of a body

-- the operators are those in front, and after them others, which lead on
abbrev pub Passes : List (Operator ℕ) → (List (Operator ℕ) → List (Operator ℕ)) → (List (Operator ℕ) → Type 0) → Type 0
Passes operators in_front Leads = (others : List (Operator ℕ)) × (operators ≡ in_front others) × Leads others

-- The first operators of the code lead from a state, with these labels, to another one, where the labels are these. One that opens a block leads into
-- its list, and past the block if its list is among them; whether the list may end there is asked of the whole code (`Judged`).
abbrev pub LeadsTo : {R : Type 0} → BodyContext R → Labels R → State R → Code → List (Operator ℕ) → Labels R → State R → Type 0
LeadsTo cx labels s code [] at last = (at ≡ labels) × (last ≡ s)
LeadsTo cx labels s done (operator ∷ operators) at last = ⊥
LeadsTo {R} cx labels s (simple first rest) (operator ∷ operators) at last =
    (operator ≡ first) × ((m : State R) × (effect cx labels s first ≡ Some m) × LeadsTo cx labels m rest operators at last)
LeadsTo {R} cx labels s (block type inner rest) (operator ∷ operators) at last =
    (operator ≡ Block type) × ((b : Entered R) × (entered cx (Block type) type s ≡ Some b)
    × (LeadsTo cx (b.signature.results ∷ labels) (start_of b) inner operators at last
    ⊎ Passes operators (λ others. flat inner (End ∷ others)) (λ others. LeadsTo cx labels (after_block b) rest others at last)))
LeadsTo {R} cx labels s (loop type inner rest) (operator ∷ operators) at last =
    (operator ≡ Loop type) × ((b : Entered R) × (entered cx (Loop type) type s ≡ Some b)
    × (LeadsTo cx (b.signature.params ∷ labels) (start_of b) inner operators at last
    ⊎ Passes operators (λ others. flat inner (End ∷ others)) (λ others. LeadsTo cx labels (after_block b) rest others at last)))
LeadsTo {R} cx labels s (if_then type inner rest) (operator ∷ operators) at last =
    (operator ≡ If type) × ((b : Entered R) × (option_and_then (entered cx (If type) type) (taken cx.items I32 s) ≡ Some b)
    × (LeadsTo cx (b.signature.results ∷ labels) (start_of b) inner operators at last
    ⊎ Passes operators (λ others. flat inner (End ∷ others)) (λ others. LeadsTo cx labels (after_block b) rest others at last)))
LeadsTo {R} cx labels s (if_else type inner other rest) (operator ∷ operators) at last =
    (operator ≡ If type) × ((b : Entered R) × (option_and_then (entered cx (If type) type) (taken cx.items I32 s) ≡ Some b)
    × (LeadsTo cx (b.signature.results ∷ labels) (start_of b) inner operators at last
    ⊎ (Passes operators (λ others. flat inner (Else ∷ others)) (λ others. LeadsTo cx (b.signature.results ∷ labels) (start_of b) other others at last)
    ⊎ Passes operators (λ others. flat inner (Else ∷ flat other (End ∷ others))) (λ others. LeadsTo cx labels (after_block b) rest others at last))))

-- Some body begins with these operators, and they aren't yet the whole. They lead to this state, where the labels are these.
pub record IsBegun {R : Type 0} (cx : BodyContext R) (operators : List (Operator ℕ)) (labels : Labels R) (s : State R) : Type 0 where
  pub ending : List (Operator ℕ)
  pub whole : IsBodyOf cx (operators ++ ending)
  pub leads : LeadsTo cx (cx.results ∷ []) (fresh [] []) whole.code operators labels s

-- ---- locals

-- a run of locals: how many, and of which type
pub record Run : Type 0 where
  pub count : ℕ
  pub type : ValType ℕ

abbrev pub IsRun : List ℕ → Run → Type 0
IsRun bytes run = IsPair IsU32 IsValType bytes (run.count, run.type)

-- how many locals a function has, its parameters counted
abbrev pub local_count : {R : Type 0} → FuncType R → List Run → ℕ
local_count type runs = length type.params + sum_by (λ run. run.count) runs

-- the type of a run stands for one that the features allow, also where the run is of no locals
abbrev pub IsWritten : {R : Type 0} → Features → ModuleItems R → Run → Type 0
IsWritten features items run = is_some (written features items run.type) ≡ true

-- parameters have values from the start, and so have locals of a type with a default (Modules, "Locals")
abbrev pub parameter : {R : Type 0} → ValType R → Local R
parameter type = record { is_set = true; type = type }

abbrev pub declared_local : {R : Type 0} → ValType R → Local R
declared_local type = record { is_set = is_defaultable type; type = type }

-- the locals of a run, none where its type stands for none
abbrev pub locals_of_run : {R : Type 0} → ℕ → Option (ValType R) → List (Local R)
locals_of_run count None = []
locals_of_run count (Some type) = replicate count (declared_local type)

abbrev pub locals_of_runs : {R : Type 0} → Features → ModuleItems R → List Run → List (Local R)
locals_of_runs features items [] = []
locals_of_runs features items (run ∷ runs) = locals_of_run run.count (written features items run.type) ++ locals_of_runs features items runs

-- what a body of a function of this type with these runs of locals is judged in
abbrev pub in_function : {R : Type 0} → Features → ModuleItems R → FuncType R → List Run → BodyContext R
in_function features items type runs = record {
  features = features;
  items = items;
  locals = map parameter type.params ++ locals_of_runs features items runs;
  results = type.results;
}

-- ---- the bytes of bodies

-- the encoding is that of runs of locals of types that may be written, within the limit on locals
pub record AreLocals {R : Type 0} (features : Features) (items : ModuleItems R) (type : FuncType R) (bytes : List ℕ) (runs : List Run) : Type 0 where
  pub declared : IsList IsRun bytes runs
  pub written : AllByRecursion (IsWritten features items) runs
  pub within : ¬ (IsPassedBy Locals (local_count type runs))

-- The bytes are the body of a function of this type, an entry of a code section without its size: locals, and the operators of a body.
pub record IsFunctionBody {R : Type 0} (features : Features) (items : ModuleItems R) (type : FuncType R) (bytes : List ℕ) : Type 0 where
  pub runs : List Run
  pub operators : List (Operator ℕ)
  pub locals_encoding : List ℕ
  pub code_encoding : List ℕ
  pub begins : bytes ≡ locals_encoding ++ code_encoding
  pub locals : AreLocals features items type locals_encoding runs
  pub spelled : IsOperators features code_encoding operators
  pub typed : IsBodyOf (in_function features items type runs) operators

-- The parameters and the first runs of locals, of types that may be written, add up past the limit, whatever follows.
pub record HasManyLocals {R : Type 0} (features : Features) (items : ModuleItems R) (type : FuncType R) (bytes : List ℕ) : Type 0 where
  pub stated : ℕ
  pub runs : List Run
  pub count_encoding : List ℕ
  pub runs_encoding : List ℕ
  pub rest : List ℕ
  pub begins : bytes ≡ count_encoding ++ (runs_encoding ++ rest)
  pub counted : IsU32 count_encoding stated
  pub among : length runs ≤ stated
  pub declared : IsItems IsRun runs_encoding runs
  pub written : AllByRecursion (IsWritten features items) runs
  pub passes : IsPassedBy Locals (local_count type runs)

-- After locals that keep the rules stand operators that some body begins with, and that aren't yet the whole; and then a code that no operator has,
-- whatever the features.
pub record HasOtherOperator {R : Type 0} (features : Features) (items : ModuleItems R) (type : FuncType R) (bytes : List ℕ) : Type 0 where
  pub runs : List Run
  pub operators : List (Operator ℕ)
  pub labels : Labels R
  pub reached : State R
  pub other : List ℕ
  pub locals_encoding : List ℕ
  pub code_encoding : List ℕ
  pub rest : List ℕ
  pub begins : bytes ≡ locals_encoding ++ (code_encoding ++ (other ++ rest))
  pub locals : AreLocals features items type locals_encoding runs
  pub spelled : IsOperators features code_encoding operators
  pub begun : IsBegun (in_function features items type runs) operators labels reached
  pub is_other : IsOtherCode other
