-- The grammar of constant expressions. Core Specification 3.0, Binary Format, "Instructions". There any expression reads, and that it is constant
-- is a matter of validity; here an operator that isn't constant doesn't read.
use Rattle.std.specs.Prelude.{◌≡◌, ℕ, List, [], ◌∷◌, ◌++◌}
use Rattle.wasm_spec.specs.Bytes.{IsBytesOf, IsU32, IsS32, IsS64, IsF32, IsF64, IsPair, IsMarked, IsNumbered, IsItems}
use Rattle.wasm_spec.specs.Constants.{ConstantOperator, I32Const, I64Const, F32Const, F64Const, V128Const, RefNull, RefFunc, GlobalGet, I32Add, I32Sub, I32Mul, I64Add, I64Sub, I64Mul, StructNew, StructNewDefault, ArrayNew, ArrayNewDefault, ArrayNewFixed, AnyConvertExtern, ExternConvertAny, RefI31, ConstantExpression}
use Rattle.wasm_spec.specs.TypeGrammar.{IsHeapType}

-- An operator: its code, and what it has (Instructions, "Numeric Instructions", "Vector Instructions", "Reference Instructions", "Variable
-- Instructions", "Aggregate Instructions"). The second code after 0xfb or 0xfd is a u32.
abbrev pub IsConstantOperator : List ℕ → ConstantOperator → Type 0
IsConstantOperator encoding (I32Const n) = IsMarked 0x41 IsS32 encoding n
IsConstantOperator encoding (I64Const n) = IsMarked 0x42 IsS64 encoding n
IsConstantOperator encoding (F32Const bits) = IsMarked 0x43 IsF32 encoding bits
IsConstantOperator encoding (F64Const bits) = IsMarked 0x44 IsF64 encoding bits
IsConstantOperator encoding (V128Const bytes) = IsMarked 0xfd (IsNumbered 12 (IsBytesOf 16)) encoding bytes
IsConstantOperator encoding (RefNull heap) = IsMarked 0xd0 IsHeapType encoding heap
IsConstantOperator encoding (RefFunc function) = IsMarked 0xd2 IsU32 encoding function
IsConstantOperator encoding (GlobalGet global) = IsMarked 0x23 IsU32 encoding global
IsConstantOperator encoding I32Add = encoding ≡ 0x6a ∷ []
IsConstantOperator encoding I32Sub = encoding ≡ 0x6b ∷ []
IsConstantOperator encoding I32Mul = encoding ≡ 0x6c ∷ []
IsConstantOperator encoding I64Add = encoding ≡ 0x7c ∷ []
IsConstantOperator encoding I64Sub = encoding ≡ 0x7d ∷ []
IsConstantOperator encoding I64Mul = encoding ≡ 0x7e ∷ []
IsConstantOperator encoding (StructNew type) = IsMarked 0xfb (IsNumbered 0 IsU32) encoding type
IsConstantOperator encoding (StructNewDefault type) = IsMarked 0xfb (IsNumbered 1 IsU32) encoding type
IsConstantOperator encoding (ArrayNew type) = IsMarked 0xfb (IsNumbered 6 IsU32) encoding type
IsConstantOperator encoding (ArrayNewDefault type) = IsMarked 0xfb (IsNumbered 7 IsU32) encoding type
IsConstantOperator encoding (ArrayNewFixed type count) = IsMarked 0xfb (IsNumbered 8 (IsPair IsU32 IsU32)) encoding (type, count)
IsConstantOperator encoding AnyConvertExtern = IsMarked 0xfb IsU32 encoding 26
IsConstantOperator encoding ExternConvertAny = IsMarked 0xfb IsU32 encoding 27
IsConstantOperator encoding RefI31 = IsMarked 0xfb IsU32 encoding 28

-- the byte that ends an expression
abbrev pub end_code : ℕ
end_code = 0x0b

-- the operators, and the end (Instructions, "Expressions")
abbrev pub IsConstantExpression : List ℕ → ConstantExpression → Type 0
IsConstantExpression bytes operators =
    (body : List ℕ) × (bytes ≡ body ++ (end_code ∷ [])) × IsItems IsConstantOperator body operators
