-- The results of validating the bytes of a body.
use Rattle.std.specs.Prelude.{◌≡◌, ◌≤◌, ◌<◌, ◌⊎◌, ◌+◌, ◌-◌, ℕ, List, ◌++◌, length, map, Result, Ok, Err, IfErr, OnOk}
use Rattle.wasm_bodies.specs.Bodies.{Run, IsRun, IsFunctionBody, HasManyLocals, HasOtherOperator, parameter}
use Rattle.wasm_bodies.specs.BodyContext.{ModuleItems, BodyContext, Local}
use Rattle.wasm_bodies.specs.OperatorGrammar.{IsOperator, IsOperators}
use Rattle.wasm_bodies.specs.Operators.{Indexed, Operator}
use Rattle.wasm_bodies_laws.specs.Machine.{at_start, frame_type}
use Rattle.wasm_core_types.specs.declared.limits.Limit.TheVariants as core
use Rattle.wasm_core_read.specs.Input.{Input, IsWithin, end}
use Rattle.wasm_spec.specs.Bytes.{IsItems, IsList, IsU32}
use Rattle.wasm_spec.specs.Features.{Features}
use Rattle.wasm_spec.specs.Types.{FuncType}
use Rattle.wasmparser_error.specs.declared.error.Error.{Error}
use Rattle.wasmparser_error.specs.declared.error.ErrorKind.{ErrorKind}
use Rattle.wasmparser_error.specs.declared.error.ErrorKind.TheVariants as kinds
use Rattle.wasmparser_types.specs.Index.{packable}
use Rattle.wasmparser_bodies.specs.CodeReading.{BodyOutcome, Fine, ManyLocals, OtherOperator, Broken, code_outcome}
use Rattle.wasmparser_bodies.specs.LocalsReading.{LocalsOutcome, Locals, TooMany, NoLocals, locals_outcome}

-- ---- outcomes of bytes

-- a body of a function of this type with these locals, its parameters among them
abbrev pub context_of : {R : Type 0} → Features → ModuleItems R → FuncType R → List (Local R) → BodyContext R
context_of features items type locals = record { features = features; items = items; locals = locals; results = type.results }

-- operators after the locals
abbrev pub with_code : {R : Type 0} → LocalsOutcome R → (List (Local R) → List ℕ → BodyOutcome) → BodyOutcome
with_code (Locals locals rest) code = code locals rest
with_code TooMany code = ManyLocals
with_code NoLocals code = Broken

-- a body of a function of this type, which has this type index
abbrev pub typed_outcome : {R : Type 0} → Features → ModuleItems R → ℕ → FuncType R → List ℕ → BodyOutcome
typed_outcome features items index type bytes =
    with_code (locals_outcome features items (map parameter type.params) bytes) (λ locals rest. code_outcome (context_of features items type locals) (at_start index) rest)

-- a body of a function whose type has this index
unfoldable pub body_outcome : {R : Type 0} → Features → ModuleItems R → ℕ → List ℕ → BodyOutcome
body_outcome features items index bytes = typed_outcome features items index (frame_type items (Indexed index)) bytes

-- ---- what calls return

-- There are more types than type indexes that can be packed, so that the bytes of a body may name one that its reader can't.
abbrev pub HasManyTypes : {R : Type 0} → ModuleItems R → Type 0
HasManyTypes items = packable < length items.types

-- The fault that a refusal names. `Body` may also come for a right body that names a type which can't be packed; `Memory` comes with so_far.
abbrev pub NamesFault : Type 0 → Type 0 → ErrorKind → BodyOutcome → Type 0
NamesFault unpacked so_far kinds.Body outcome = (outcome ≡ Broken) ⊎ unpacked
NamesFault unpacked so_far kinds.Operator outcome = outcome ≡ OtherOperator
NamesFault unpacked so_far (kinds.Limit core.Locals) outcome = outcome ≡ ManyLocals
NamesFault unpacked so_far kinds.Memory outcome = so_far
NamesFault unpacked so_far _ outcome = ⊥

-- the number of a reader's bytes from a place on
abbrev pub left_at : Input → ℕ → ℕ
left_at old place = end old - place

-- The result of validating a reader's remaining bytes. An error is placed among them or at their end; so_far takes the number of bytes from there on.
abbrev pub AnswersOutcome : {X : Type 0} → Type 0 → (ℕ → Type 0) → Input → Result X Error → BodyOutcome → Type 0
AnswersOutcome unpacked so_far old (Ok x) outcome = outcome ≡ Fine
AnswersOutcome unpacked so_far old (Err e) outcome = NamesFault unpacked (so_far (left_at old e.offset)) e.kind outcome × IsWithin old e.offset

-- ---- what they mean

-- The answer to the bytes of a body of a function of this type, the first of which stands at a position of the input.
pub record IsBodyValidated {R : Type 0} (features : Features) (items : ModuleItems R) (type : FuncType R) (bytes : List ℕ) (position : ℕ) (answer : Result (Unit {0}) Error) : Type 0 where
  -- a yes is right, and each body gets one, unless memory runs out
  pub right : OnOk answer (IsFunctionBody features items type bytes)
  pub complete : IfErr answer (λ e. IsFunctionBody features items type bytes → e.kind ≡ kinds.Memory)
  -- each refusal comes only with its cause, and there is one alone
  pub operator : IfErr answer (λ e. e.kind ≡ kinds.Operator → HasOtherOperator features items type bytes)
  pub limit : IfErr answer (λ e. e.kind ≡ kinds.Limit core.Locals → HasManyLocals features items type bytes)
  pub broken : IfErr answer (λ e. e.kind ≡ kinds.Body
      → (¬ (IsFunctionBody features items type bytes)) × (¬ (HasManyLocals features items type bytes)) × (¬ (HasOtherOperator features items type bytes)))
  pub others : IfErr answer (λ e. (e.kind ≡ kinds.Operator) ⊎ (e.kind ≡ kinds.Limit core.Locals) ⊎ (e.kind ≡ kinds.Body) ⊎ (e.kind ≡ kinds.Memory))
  -- the place is among the body's bytes, or at their end
  pub from : IfErr answer (λ e. position ≤ e.offset)
  pub to : IfErr answer (λ e. e.offset ≤ position + length bytes)

-- ---- how far a body is right where memory runs out

-- Before the item stand the number of runs and fewer runs than that; the item is a run.
pub record StandsAtRun (before item : List ℕ) : Type 0 where
  pub stated : ℕ
  pub runs : List Run
  pub run : Run
  pub count_encoding : List ℕ
  pub runs_encoding : List ℕ
  pub parts : before ≡ count_encoding ++ runs_encoding
  pub counted : IsU32 count_encoding stated
  pub declared : IsItems IsRun runs_encoding runs
  pub fewer : length runs < stated
  pub is_run : IsRun item run

-- Before the item stand all runs and some operators; the item is an operator.
pub record StandsAtOperator (features : Features) (before item : List ℕ) : Type 0 where
  pub runs : List Run
  pub operators : List (Operator ℕ)
  pub operator : Operator ℕ
  pub locals_encoding : List ℕ
  pub code_encoding : List ℕ
  pub parts : before ≡ locals_encoding ++ code_encoding
  pub declared : IsList IsRun locals_encoding runs
  pub spelled : IsOperators features code_encoding operators
  pub is_operator : IsOperator features item operator

abbrev pub StandsAtItem : Features → List ℕ → List ℕ → Type 0
StandsAtItem features before item = StandsAtRun before item ⊎ StandsAtOperator features before item

-- An item stands at a place of the bytes, and some body of a function of this type begins with the bytes up to the item's end.
pub record IsRightUpTo {R : Type 0} (features : Features) (items : ModuleItems R) (type : FuncType R) (Stands : List ℕ → List ℕ → Type 0) (bytes : List ℕ) (place : ℕ) : Type 0 where
  pub before : List ℕ
  pub item : List ℕ
  pub after : List ℕ
  pub others : List ℕ
  pub parts : bytes ≡ before ++ (item ++ after)
  pub placed : place ≡ length before
  pub stands : Stands before item
  pub begins : IsFunctionBody features items type (before ++ (item ++ others))

-- The result of validating bytes that begin at this position: `Memory` comes only at an item, and some body begins with the bytes up to the item's end.
abbrev pub HasRightFront : {R : Type 0} → Features → ModuleItems R → FuncType R → (List ℕ → List ℕ → Type 0) → List ℕ → ℕ → Result (Unit {0}) Error → Type 0
HasRightFront features items type Stands bytes position answer = IfErr answer (λ e. e.kind ≡ kinds.Memory → IsRightUpTo features items type Stands bytes (e.offset - position))
