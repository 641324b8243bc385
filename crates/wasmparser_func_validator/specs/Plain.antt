-- Plain operators, validated from their bytes.
use Rattle.std.specs.Prelude.{◌≡◌, ◌≢◌, ◌<◌, ◌≤◌, ◌-◌, ◌^◌, ℕ, ℤ, Bool, true, false, List, [], ◌∷◌, Option, Some}
use Rattle.std.specs.List.{AllByRecursion}
use Rattle.wasm_bodies.specs.BodyContext.{BodyContext, ModuleItems}
use Rattle.wasm_bodies.specs.OperatorGrammar.{is_prefix}
use Rattle.wasm_bodies.specs.OperatorRows.{Byte, NumberType, value_type}
use Rattle.wasm_bodies.specs.Operands.{State}
use Rattle.wasm_bodies.specs.Operators.{BlockType, Operator}
use Rattle.wasm_bodies_laws.specs.Machine.{Machine, stepped}
use Rattle.wasm_spec.specs.Types.{ValType}
use Rattle.wasm_bodies.specs.OperatorGates.{block_gate}
use Rattle.wasm_bodies.specs.Operators.{Scalar}
use Rattle.wasm_core_read.specs.Reading.{float_at, signed_at}
use Rattle.wasm_spec.specs.Features.{Features}
use Rattle.wasmparser_func_validator.specs.NumericForms.{form_gives, form_takes}
use Rattle.wasmparser_func_validator.specs.declared.numeric.NumericForm.{NumericForm}
use Rattle.wasmparser_operators.specs.CodeTables.{row_of}
use Rattle.wasmparser_operators.specs.OperatorReading.{All, Bare, Number, OfBlock, Shape, block_type_at, operator_at, shape_of}
use Rattle.wasmparser_operators.specs.OperatorValues.{IsBlockOfModule, block_type}
use Rattle.wasmparser_operators.specs.ScalarValues.{row_or_none}
use Rattle.wasmparser_operators.specs.declared.immediates.BlockType as code
use Rattle.wasmparser_types.specs.Index.{Index}

-- ---- types

abbrev pub IsNumber : ValType Index → Type 0
IsNumber type = (n : NumberType) × (type ≡ value_type n)

-- each type of numbers is below itself
abbrev pub NumbersFit : ModuleItems Index → Type 0
NumbersFit items = (n : NumberType) → items.is_below (value_type n) (value_type n) ≡ true

-- each of the types is below itself
abbrev pub AreItself : ModuleItems Index → List (ValType Index) → Type 0
AreItself items types = AllByRecursion (λ type. items.is_below type type ≡ true) types

-- ---- what is done, or left as it was

abbrev pub TriesEffect : Option (State Index) → Machine Index → Machine Index → Bool → Type 0
TriesEffect wanted old new true = (wanted ≡ Some new.now) × (new.frames ≡ old.frames)
TriesEffect wanted old new false = new ≡ old

-- the code is a byte, after which something of this shape stands
abbrev pub IsCoded : ℕ → Shape → Type 0
IsCoded code shape = (is_prefix code ≡ false) × (shape_of (Byte code) ≡ Some shape)

-- the operator leads from one machine to another, in which a block is open
abbrev pub LeadsTo : BodyContext Index → Machine Index → Machine Index → Operator ℕ → Type 0
LeadsTo cx old new operator = (stepped cx old operator ≡ Some new) × (new.frames ≢ [])

-- the code's operator, after which nothing stands
abbrev pub TriesBare : BodyContext Index → Machine Index → Machine Index → ℕ → Bool → Type 0
TriesBare cx old new code true = (operator : Operator ℕ) × IsCoded code (Bare operator) × LeadsTo cx old new operator
TriesBare cx old new code false = new ≡ old

-- the code's operator with a number
abbrev pub TriesNumber : BodyContext Index → Machine Index → Machine Index → ℕ → ℕ → Bool → Type 0
TriesNumber cx old new code number true = (make : ℕ → Operator ℕ) × IsCoded code (Number make) × LeadsTo cx old new (make number)
TriesNumber cx old new code number false = new ≡ old

-- the code's operator with a block type
abbrev pub TriesBlock : BodyContext Index → Machine Index → Machine Index → ℕ → BlockType ℕ → Bool → Type 0
TriesBlock cx old new code type true = (make : BlockType ℕ → Operator ℕ) × IsCoded code (OfBlock make) × LeadsTo cx old new (make type)
TriesBlock cx old new code type false = new ≡ old

-- the operator at the front of some bytes, after which these bytes are left
abbrev pub IsStep : BodyContext Index → Machine Index → Machine Index → List ℕ → List ℕ → Type 0
IsStep cx old new bytes rest = (operator : Operator ℕ) × (operator_at cx.features bytes ≡ Some (operator, rest)) × LeadsTo cx old new operator

-- these bytes are left after a signed number of so many bits
abbrev pub IsPast : ℕ → List ℕ → List ℕ → Type 0
IsPast bits bytes rest = (value : ℤ) × (signed_at bits bytes ≡ Some (value, rest))

-- a byte below 128 is the whole of a signed number of so many bits
abbrev pub IsSignedEnd : ℕ → ℕ → Type 0
IsSignedEnd bits byte = (byte < 128) × ((byte < 64) → (byte < 2 ^ (bits - 1))) × ((64 ≤ byte) → (127 - byte < 2 ^ (bits - 1)))

-- these bytes are left after a float of so many bytes
abbrev pub IsPastFloat : ℕ → List ℕ → List ℕ → Type 0
IsPastFloat len bytes rest = (value : ℕ) × (float_at len bytes ≡ Some (value, rest))

-- ---- rows

-- the code's operator is on numbers as the form says, and no proposal brought it
abbrev pub IsScalarForm : ℕ → NumericForm → Type 0
IsScalarForm code form =
    IsCoded code (Bare (Scalar (row_or_none (row_of (Byte code))))) × (form_takes form ≡ (row_or_none (row_of (Byte code))).takes) × (form_gives form ≡ (row_or_none (row_of (Byte code))).gives)
    × ((row_or_none (row_of (Byte code))).gate ≡ [])

-- the byte is a block type that asks for no feature
abbrev pub IsPlainBlock : ℕ → code.BlockType → Type 0
IsPlainBlock byte type =
    ((features : Features) (rest : List ℕ) → block_type_at All features (byte ∷ rest) ≡ Some (block_type type, rest)) × (block_gate (block_type type) ≡ []) × IsBlockOfModule type
