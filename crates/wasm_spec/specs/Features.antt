-- Features: parts of WebAssembly that can be switched on and off. Most flags stand for proposals that the Core Specification 3.0
-- contains (appendix "Change History"; mutable globals in imports and exports are older). Threads, custom page sizes, compact
-- imports, wide arithmetic and stack switching are proposals outside of it.
use Rattle.std.specs.Prelude.{ℕ, Bool, true, false, ◌==◌, ◌||◌, ◌^◌, ◌-◌}
use Rattle.std.specs.Int.RustNames.{bit_and}

pub data Flag : Type 0 where
  -- mutable globals that are imported or exported
  MutableGlobal : Flag
  -- conversions from floats that saturate
  SaturatingFloatToInt : Flag
  -- operators that extend the sign
  SignExtension : Flag
  -- reference types, several tables, and operators on them
  ReferenceTypes : Flag
  -- several results of functions and blocks, and parameters of blocks
  MultiValue : Flag
  -- passive and declared segments, data counts, and operators on whole ranges
  BulkMemory : Flag
  -- vectors
  Simd : Flag
  -- vector operators whose results are left open; gates nothing here
  RelaxedSimd : Flag
  -- shared memories
  Threads : Flag
  -- calls in place of a return
  TailCall : Flag
  -- floats: where it is off, no type or operator of floats is allowed
  Floats : Flag
  -- several memories
  MultiMemory : Flag
  -- tags and exception references
  Exceptions : Flag
  -- memories and tables of 64 bits
  Memory64 : Flag
  -- addition, subtraction and multiplication in constant expressions
  ExtendedConst : Flag
  -- references to functions of a known type, and ones that are not null
  FunctionReferences : Flag
  -- structures, arrays, recursive groups and subtypes
  Gc : Flag
  -- where it is off, no abstract heap type but func and exn is allowed, and no structure, array or continuation type, whatever else is on
  GcTypes : Flag
  -- memories whose pages have another size
  CustomPageSizes : Flag
  -- imports that share a module name or a type
  CompactImports : Flag
  -- operators on 128 bits; gates nothing here
  WideArithmetic : Flag
  -- continuation types
  StackSwitching : Flag

-- the bit that a flag is
abbrev pub bit_of : Flag → ℕ
bit_of MutableGlobal = 0x1
bit_of SaturatingFloatToInt = 0x2
bit_of SignExtension = 0x4
bit_of ReferenceTypes = 0x8
bit_of MultiValue = 0x10
bit_of BulkMemory = 0x20
bit_of Simd = 0x40
bit_of RelaxedSimd = 0x80
bit_of Threads = 0x100
bit_of TailCall = 0x200
bit_of Floats = 0x400
bit_of MultiMemory = 0x800
bit_of Exceptions = 0x1000
bit_of Memory64 = 0x2000
bit_of ExtendedConst = 0x4000
bit_of FunctionReferences = 0x8000
bit_of Gc = 0x10000
bit_of GcTypes = 0x20000
bit_of CustomPageSizes = 0x40000
bit_of CompactImports = 0x80000
bit_of WideArithmetic = 0x100000
bit_of StackSwitching = 0x200000

-- a set of features: the number whose bits are those of its flags; further bits have no meaning
abbrev pub Features : Type 0
Features = ℕ

-- whether a set has a flag
abbrev pub has : Features → Flag → Bool
has features flag = bit_and features (bit_of flag) == bit_of flag

-- whether a flag is on where nothing else is said
abbrev pub is_default : Flag → Bool
is_default MutableGlobal = true
is_default SaturatingFloatToInt = true
is_default SignExtension = true
is_default ReferenceTypes = true
is_default MultiValue = true
is_default BulkMemory = true
is_default Simd = true
is_default RelaxedSimd = true
is_default Threads = true
is_default TailCall = true
is_default Floats = true
is_default MultiMemory = true
is_default Exceptions = true
is_default Memory64 = true
is_default ExtendedConst = true
is_default FunctionReferences = true
is_default Gc = true
is_default GcTypes = true
is_default CustomPageSizes = false
is_default CompactImports = false
is_default WideArithmetic = false
is_default StackSwitching = false

-- the set of these flags
abbrev pub default_features : Features
default_features = 2 ^ 18 - 1

-- Whether two types are one where their recursive groups are equal once rolled up, references into the own group being places in it and
-- others the types themselves, and they stand at one place (Validation: Conventions, "Rolling and Unrolling", and Matching, "Defined
-- Types"), and not only where they are one definition.
abbrev pub needs_type_canonicalization : Features → Bool
needs_type_canonicalization features = has features FunctionReferences || has features Gc || has features StackSwitching
