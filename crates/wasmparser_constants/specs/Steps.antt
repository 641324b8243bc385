-- What calls return that do with the operands what an operator does.
use Rattle.std.specs.Prelude.{◌≡◌, ◌⊎◌, ⊤, ℕ, true, List, [], ◌∷◌, ◌++◌, Option, Some, None, Result, Ok, Err}
use Rattle.wasm_spec.specs.Constants.{ConstantExpression, ConstantOperator}
use Rattle.wasm_spec.specs.Features.{Features}
use Rattle.wasm_spec.specs.Gates.{is_allowed}
use Rattle.wasm_spec.specs.Trees.{DefType}
use Rattle.wasm_spec.specs.TypeReferences.{ref_refs, val_refs}
use Rattle.wasm_spec.specs.Types as spec
use Rattle.wasm_validity.specs.ConstantTyping.{ConvertsLast, Does, Effect, Runs, TakesOff, effect, puts, Operands as Standing}
use Rattle.wasm_validity.specs.Context.{Context}
use Rattle.wasmparser_constants.specs.Operands.{Operands, AreKnown, meant, meant_type}
use Rattle.wasmparser_error.specs.declared.error.Error.{Error}
use Rattle.wasmparser_error.specs.declared.error.ErrorKind.{ErrorKind}
use Rattle.wasmparser_error.specs.declared.error.ErrorKind.TheVariants as kinds
use Rattle.wasmparser_module_types.specs.ModuleTypes.{KnownTypes, AreIds, CanCompare}
use Rattle.wasmparser_types.specs.Index.{Index}

-- a refusal at a place of what is wrong, or at 0 for memory of what is right so far
abbrev pub Refuses : ℕ → Type 0 → Type 0 → ErrorKind → ℕ → Type 0
Refuses place Wrong Right kinds.Invalid offset = Wrong × (offset ≡ place)
Refuses place Wrong Right kinds.Memory offset = Right × (offset ≡ 0)
Refuses place Wrong Right _ offset = ⊥

-- a type with which any operand can be compared
pub record IsWanted (known : KnownTypes) (type : spec.ValType Index) : Type 0 where
  pub ids : AreIds known (val_refs type)
  pub comparable : (lower : List Index) → CanCompare known.features lower (val_refs type)

-- A type with which any operand can be compared once ids stand in place of its type indexes: it may be written, or it names no type.
abbrev pub CanBeWanted : Features → spec.ValType Index → Type 0
CanBeWanted features type = (is_allowed features type ≡ true) ⊎ (val_refs type ≡ [])

-- ---- operands that are taken off

-- the result of a call that takes operands of these types off, the last one first, which takes no memory
abbrev pub TakesAll : KnownTypes → ℕ → List (spec.ValType DefType) → Operands → Result (Unit {0}) Error → Operands → Type 0
TakesAll known place types old (Ok x) new = TakesOff types (meant known old) (λ others. others ≡ meant known new) × AreKnown known new
TakesAll known place types old (Err e) new = Refuses place (¬ (TakesOff types (meant known old) (λ others. ⊤))) ⊥ e.kind e.offset

abbrev pub Takes : KnownTypes → ℕ → spec.ValType DefType → Operands → Result (Unit {0}) Error → Operands → Type 0
Takes known place type old result new = TakesAll known place (type ∷ []) old result new

-- a reference of one kind as one of another, if it is one, which may be null where that might
abbrev pub IsConverted : KnownTypes → spec.AbstractHeapType → spec.AbstractHeapType → spec.ValType Index → Option (spec.RefType Index) → Type 0
IsConverted known from to operand None = ¬ (ConvertsLast from to (meant_type known operand ∷ []) (λ others. ⊤))
IsConverted known from to operand (Some type) =
    ConvertsLast from to (meant_type known operand ∷ []) (λ others. others ≡ meant_type known (spec.Ref type.nullable type.heap_type) ∷ []) × AreIds known (ref_refs type)

-- ---- operators

-- the operands that an operator leaves
abbrev pub Leads : Option Effect → Standing → Standing → Type 0
Leads effect old new = Does effect old (λ next. next ≡ new)

-- the operator may stand there
abbrev pub MayStand : Option Effect → Standing → Type 0
MayStand effect old = Does effect old (λ next. ⊤)

abbrev pub IsStuck : Option Effect → Standing → Type 0
IsStuck effect old = ¬ (MayStand effect old)

-- The result of a call that does what an operator does. Memory runs out only for one that may stand there.
abbrev pub Steps : KnownTypes → ℕ → Option Effect → Operands → Result (Unit {0}) Error → Operands → Type 0
Steps known place effect old (Ok x) new = Leads effect (meant known old) (meant known new) × AreKnown known new
Steps known place effect old (Err e) new = Refuses place (IsStuck effect (meant known old)) (MayStand effect (meant known old)) e.kind e.offset

-- the expression is a single operator, which takes no operands and gives a value of this type
abbrev pub IsAlone : Features → Context → spec.ValType DefType → ConstantExpression → Type 0
IsAlone features cx type (operator ∷ []) = effect features cx operator ≡ Some (puts type)
IsAlone features cx type _ = ⊥

-- Operators at the front of an expression may stand one after the other, up to the one for which memory ran out.
pub record BeginsRightly (features : Features) (cx : Context) (expression : ConstantExpression) : Type 0 where
  pub front : ConstantExpression
  pub last : ConstantOperator
  pub rest : ConstantExpression
  pub parts : expression ≡ front ++ last ∷ rest
  pub run : Runs features cx (front ++ last ∷ []) [] (λ operands. ⊤)

-- The result of a call that checks that something holds, and runs out of memory only where it is right so far.
abbrev pub Judges : ℕ → Type 0 → Type 0 → Result (Unit {0}) Error → Type 0
Judges place Holds Right (Ok x) = Holds
Judges place Holds Right (Err e) = Refuses place (¬ Holds) Right e.kind e.offset
