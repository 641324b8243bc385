-- The operands and results of operators on numbers, as the code has them.
use Rattle.std.specs.Prelude.{List, [], ◌∷◌}
use Rattle.wasm_bodies.specs.OperatorRows as rows
use Rattle.wasmparser_func_validator.specs.declared.number_type.NumberType.{NumberType}
use Rattle.wasmparser_func_validator.specs.declared.number_type.NumberType.TheVariants.{I32, I64, F32, F64}
use Rattle.wasmparser_func_validator.specs.declared.numeric.NumericForm.{NumericForm}
use Rattle.wasmparser_func_validator.specs.declared.numeric.NumericForm.TheVariants.{Unary, Binary}

abbrev pub number : NumberType → rows.NumberType
number I32 = rows.Int32
number I64 = rows.Int64
number F32 = rows.Float32
number F64 = rows.Float64

abbrev pub form_takes : NumericForm → List rows.NumberType
form_takes (Unary from to) = number from ∷ []
form_takes (Binary of to) = number of ∷ number of ∷ []

abbrev pub form_gives : NumericForm → rows.NumberType
form_gives (Unary from to) = number to
form_gives (Binary of to) = number to
