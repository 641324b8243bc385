-- Tables by the codes of operators.
use Rattle.std.specs.Prelude.{List, [], ◌∷◌, Option, Some, None, if◌then◌else◌}
use Rattle.wasm_bodies.specs.OperatorRows.{OperatorCode, Byte, is_same_code, ScalarRow, AccessRow, scalar_rows, load_rows, store_rows}

-- the first item of a code, if there is one
abbrev pub first_of : {X : Type 0} → (X → OperatorCode) → List X → OperatorCode → Option X
first_of key [] code = None
first_of key (x ∷ xs) code = if is_same_code code (key x) then Some x else first_of key xs code

abbrev pub scalar_code : ScalarRow → OperatorCode
scalar_code row = row.code

abbrev pub access_code : AccessRow → OperatorCode
access_code row = Byte row.code

-- the row of a code, if it has one
unfoldable pub row_of : OperatorCode → Option ScalarRow
row_of code = first_of scalar_code scalar_rows code

abbrev pub load_of : OperatorCode → Option AccessRow
load_of code = first_of access_code load_rows code

abbrev pub store_of : OperatorCode → Option AccessRow
store_of code = first_of access_code store_rows code
