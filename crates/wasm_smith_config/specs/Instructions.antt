-- Kinds of instructions, sets of them, and their texts.
use Rattle.std.specs.Prelude.{ℕ, ◌-◌, ◌^◌, Bool, true, false, ◌==◌, List, [], ◌∷◌, Option, Some, option_map, find, bit_and, bit_or, codes}
use Rattle.std.specs.List.{list_any, slice_split}
use Rattle.std.specs.Option.{option_and_then}
use Rattle.std.specs.Str.{str_eq_ignore_ascii_case}
use Rattle.wasm_smith_config.specs.declared.instruction_kinds.InstructionKind.{InstructionKind}
use Rattle.wasm_smith_config.specs.declared.instruction_kinds.InstructionKind.TheVariants.{NumericInt, Numeric, VectorInt, Vector, Reference, Parametric, Variable, Table, MemoryInt, Memory, Control, Aggregate}
use Rattle.wasm_smith_config.specs.declared.instruction_kinds.InstructionKinds.{InstructionKinds}

-- A bit for each kind that a kind contains: its own, and where it has floats, that of the kind without them.
abbrev pub bits_of : InstructionKind → ℕ
bits_of NumericInt = 0x1
bits_of Numeric = 0x3
bits_of VectorInt = 0x4
bits_of Vector = 0xc
bits_of Reference = 0x10
bits_of Parametric = 0x20
bits_of Variable = 0x40
bits_of Table = 0x80
bits_of MemoryInt = 0x100
bits_of Memory = 0x300
bits_of Control = 0x400
bits_of Aggregate = 0x800

-- whether a kind contains another one
abbrev pub contains_kind : InstructionKind → InstructionKind → Bool
contains_kind whole kind = bit_and (bits_of whole) (bits_of kind) == bits_of kind

-- whether a set has a kind
abbrev pub has : InstructionKinds → InstructionKind → Bool
has kinds kind = bit_and kinds.bits (bits_of kind) == bits_of kind

-- the set of no kinds, and that of all
abbrev pub no_kinds : InstructionKinds
no_kinds = record { bits = 0 }

abbrev pub all_kinds : InstructionKinds
all_kinds = record { bits = 0xfff }

-- a set with one more kind and those that it contains
abbrev pub with_kind : InstructionKinds → InstructionKind → InstructionKinds
with_kind kinds kind = record { bits = bit_or kinds.bits (bits_of kind) }

-- a set with further kinds
abbrev pub with_kinds : InstructionKinds → List InstructionKind → InstructionKinds
with_kinds set [] = set
with_kinds set (kind ∷ kinds) = with_kinds (with_kind set kind) kinds

-- the set of kinds
abbrev pub kinds_of : List InstructionKind → InstructionKinds
kinds_of kinds = with_kinds no_kinds kinds

-- whether a kind needs no floats
abbrev pub is_without_floats : InstructionKind → Bool
is_without_floats Numeric = false
is_without_floats Vector = false
is_without_floats Memory = false
is_without_floats NumericInt = true
is_without_floats VectorInt = true
is_without_floats Reference = true
is_without_floats Parametric = true
is_without_floats Variable = true
is_without_floats Table = true
is_without_floats MemoryInt = true
is_without_floats Control = true
is_without_floats Aggregate = true

-- the own bits of the kinds that need floats
abbrev pub float_bits : ℕ
float_bits = 0x20a

-- a set without these
abbrev pub without_floats : InstructionKinds → InstructionKinds
without_floats kinds = record { bits = bit_and kinds.bits (2 ^ 16 - 1 - float_bits) }

-- the names of a kind
abbrev pub names_of : InstructionKind → List (List ℕ)
names_of NumericInt = codes "NumericInt" ∷ codes "numeric_non_float" ∷ []
names_of Numeric = codes "Numeric" ∷ []
names_of VectorInt = codes "VectorInt" ∷ codes "vector_non_float" ∷ []
names_of Vector = codes "Vector" ∷ []
names_of Reference = codes "Reference" ∷ []
names_of Parametric = codes "Parametric" ∷ []
names_of Variable = codes "Variable" ∷ []
names_of Table = codes "Table" ∷ []
names_of MemoryInt = codes "MemoryInt" ∷ codes "memory_non_float" ∷ []
names_of Memory = codes "Memory" ∷ []
names_of Control = codes "Control" ∷ []
names_of Aggregate = codes "Aggregate" ∷ []

-- each kind
abbrev pub each_kind : List InstructionKind
each_kind = NumericInt ∷ Numeric ∷ VectorInt ∷ Vector ∷ Reference ∷ Parametric ∷ Variable ∷ Table ∷ MemoryInt ∷ Memory ∷ Control ∷ Aggregate ∷ []

-- whether a text is a name, whichever of its ASCII letters are capitals
unfoldable pub is_name : List ℕ → List ℕ → Bool
is_name text name = str_eq_ignore_ascii_case name text

-- whether a text is a name of a kind
abbrev pub is_named : List ℕ → InstructionKind → Bool
is_named text kind = list_any (is_name text) (names_of kind)

-- the kind that a text names
unfoldable pub kind_named : List ℕ → Option InstructionKind
kind_named text = find (is_named text) each_kind

-- the kinds that texts name, if each names one
abbrev pub each_named : List (List ℕ) → Option (List InstructionKind)
each_named [] = Some []
each_named (text ∷ texts) = option_and_then (λ kind. option_map (λ kinds. kind ∷ kinds) (each_named texts)) (kind_named text)

-- the set of the kinds that a text names, parted by commas
unfoldable pub kinds_named : List ℕ → Option InstructionKinds
kinds_named text = option_map kinds_of (each_named (slice_split (λ b. b == 44) text))
