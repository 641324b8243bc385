-- The names of operators in the text format. Core Specification 3.0, Text Format, "Instructions".
use Rattle.std.specs.Prelude.{ℕ, zero, suc, ◌-◌, List, [], ◌∷◌, codes, nat_lt, nat_eq, if◌then◌else◌}

-- the name at a place, if there is one, and else nothing
abbrev pub name_at : List (List ℕ) → ℕ → List ℕ
name_at [] place = []
name_at (name ∷ others) zero = name
name_at (name ∷ others) (suc place) = name_at others place

-- flow of control, from 0x00 on
abbrev pub control_names : List (List ℕ)
control_names =
    codes "unreachable" ∷ codes "nop" ∷ codes "block" ∷ codes "loop" ∷ codes "if" ∷ codes "else" ∷ [] ∷ [] ∷ [] ∷ [] ∷ [] ∷ codes "end" ∷
    codes "br" ∷ codes "br_if" ∷ codes "br_table" ∷ codes "return" ∷ codes "call" ∷ codes "call_indirect" ∷ codes "return_call" ∷
    codes "return_call_indirect" ∷ codes "call_ref" ∷ codes "return_call_ref" ∷ []

-- operands, locals, globals and elements of tables, from 0x1a on
abbrev pub variable_names : List (List ℕ)
variable_names =
    codes "drop" ∷ codes "select" ∷ codes "select" ∷ [] ∷ [] ∷ [] ∷ codes "local.get" ∷ codes "local.set" ∷ codes "local.tee" ∷
    codes "global.get" ∷ codes "global.set" ∷ codes "table.get" ∷ codes "table.set" ∷ []

-- loads, from 0x28 on
abbrev pub load_names : List (List ℕ)
load_names =
    codes "i32.load" ∷ codes "i64.load" ∷ codes "f32.load" ∷ codes "f64.load" ∷ codes "i32.load8_s" ∷ codes "i32.load8_u" ∷
    codes "i32.load16_s" ∷ codes "i32.load16_u" ∷ codes "i64.load8_s" ∷ codes "i64.load8_u" ∷ codes "i64.load16_s" ∷ codes "i64.load16_u" ∷
    codes "i64.load32_s" ∷ codes "i64.load32_u" ∷ []

-- stores, sizes of memories, and constants, from 0x36 on
abbrev pub store_names : List (List ℕ)
store_names =
    codes "i32.store" ∷ codes "i64.store" ∷ codes "f32.store" ∷ codes "f64.store" ∷ codes "i32.store8" ∷ codes "i32.store16" ∷
    codes "i64.store8" ∷ codes "i64.store16" ∷ codes "i64.store32" ∷ codes "memory.size" ∷ codes "memory.grow" ∷ codes "i32.const" ∷
    codes "i64.const" ∷ codes "f32.const" ∷ codes "f64.const" ∷ []

-- tests and comparisons of integers, from 0x45 on
abbrev pub integer_comparison_names : List (List ℕ)
integer_comparison_names =
    codes "i32.eqz" ∷ codes "i32.eq" ∷ codes "i32.ne" ∷ codes "i32.lt_s" ∷ codes "i32.lt_u" ∷ codes "i32.gt_s" ∷ codes "i32.gt_u" ∷
    codes "i32.le_s" ∷ codes "i32.le_u" ∷ codes "i32.ge_s" ∷ codes "i32.ge_u" ∷ codes "i64.eqz" ∷ codes "i64.eq" ∷ codes "i64.ne" ∷
    codes "i64.lt_s" ∷ codes "i64.lt_u" ∷ codes "i64.gt_s" ∷ codes "i64.gt_u" ∷ codes "i64.le_s" ∷ codes "i64.le_u" ∷ codes "i64.ge_s" ∷
    codes "i64.ge_u" ∷ []

-- comparisons of floats, from 0x5b on
abbrev pub float_comparison_names : List (List ℕ)
float_comparison_names =
    codes "f32.eq" ∷ codes "f32.ne" ∷ codes "f32.lt" ∷ codes "f32.gt" ∷ codes "f32.le" ∷ codes "f32.ge" ∷ codes "f64.eq" ∷ codes "f64.ne" ∷
    codes "f64.lt" ∷ codes "f64.gt" ∷ codes "f64.le" ∷ codes "f64.ge" ∷ []

-- numbers of 32 bits, from 0x67 on
abbrev pub i32_names : List (List ℕ)
i32_names =
    codes "i32.clz" ∷ codes "i32.ctz" ∷ codes "i32.popcnt" ∷ codes "i32.add" ∷ codes "i32.sub" ∷ codes "i32.mul" ∷ codes "i32.div_s" ∷
    codes "i32.div_u" ∷ codes "i32.rem_s" ∷ codes "i32.rem_u" ∷ codes "i32.and" ∷ codes "i32.or" ∷ codes "i32.xor" ∷ codes "i32.shl" ∷
    codes "i32.shr_s" ∷ codes "i32.shr_u" ∷ codes "i32.rotl" ∷ codes "i32.rotr" ∷ []

-- numbers of 64 bits, from 0x79 on
abbrev pub i64_names : List (List ℕ)
i64_names =
    codes "i64.clz" ∷ codes "i64.ctz" ∷ codes "i64.popcnt" ∷ codes "i64.add" ∷ codes "i64.sub" ∷ codes "i64.mul" ∷ codes "i64.div_s" ∷
    codes "i64.div_u" ∷ codes "i64.rem_s" ∷ codes "i64.rem_u" ∷ codes "i64.and" ∷ codes "i64.or" ∷ codes "i64.xor" ∷ codes "i64.shl" ∷
    codes "i64.shr_s" ∷ codes "i64.shr_u" ∷ codes "i64.rotl" ∷ codes "i64.rotr" ∷ []

-- floats of 32 bits, from 0x8b on
abbrev pub f32_names : List (List ℕ)
f32_names =
    codes "f32.abs" ∷ codes "f32.neg" ∷ codes "f32.ceil" ∷ codes "f32.floor" ∷ codes "f32.trunc" ∷ codes "f32.nearest" ∷ codes "f32.sqrt" ∷
    codes "f32.add" ∷ codes "f32.sub" ∷ codes "f32.mul" ∷ codes "f32.div" ∷ codes "f32.min" ∷ codes "f32.max" ∷ codes "f32.copysign" ∷ []

-- floats of 64 bits, from 0x99 on
abbrev pub f64_names : List (List ℕ)
f64_names =
    codes "f64.abs" ∷ codes "f64.neg" ∷ codes "f64.ceil" ∷ codes "f64.floor" ∷ codes "f64.trunc" ∷ codes "f64.nearest" ∷ codes "f64.sqrt" ∷
    codes "f64.add" ∷ codes "f64.sub" ∷ codes "f64.mul" ∷ codes "f64.div" ∷ codes "f64.min" ∷ codes "f64.max" ∷ codes "f64.copysign" ∷ []

-- conversions to integers, from 0xa7 on
abbrev pub integer_conversion_names : List (List ℕ)
integer_conversion_names =
    codes "i32.wrap_i64" ∷ codes "i32.trunc_f32_s" ∷ codes "i32.trunc_f32_u" ∷ codes "i32.trunc_f64_s" ∷ codes "i32.trunc_f64_u" ∷
    codes "i64.extend_i32_s" ∷ codes "i64.extend_i32_u" ∷ codes "i64.trunc_f32_s" ∷ codes "i64.trunc_f32_u" ∷ codes "i64.trunc_f64_s" ∷
    codes "i64.trunc_f64_u" ∷ []

-- conversions to floats, other views of bits, and sign extensions, from 0xb2 on
abbrev pub float_conversion_names : List (List ℕ)
float_conversion_names =
    codes "f32.convert_i32_s" ∷ codes "f32.convert_i32_u" ∷ codes "f32.convert_i64_s" ∷ codes "f32.convert_i64_u" ∷
    codes "f32.demote_f64" ∷ codes "f64.convert_i32_s" ∷ codes "f64.convert_i32_u" ∷ codes "f64.convert_i64_s" ∷
    codes "f64.convert_i64_u" ∷ codes "f64.promote_f32" ∷ codes "i32.reinterpret_f32" ∷ codes "i64.reinterpret_f64" ∷
    codes "f32.reinterpret_i32" ∷ codes "f64.reinterpret_i64" ∷ codes "i32.extend8_s" ∷ codes "i32.extend16_s" ∷ codes "i64.extend8_s" ∷
    codes "i64.extend16_s" ∷ codes "i64.extend32_s" ∷ []

-- references, from 0xd0 on
abbrev pub reference_names : List (List ℕ)
reference_names =
    codes "ref.null" ∷ codes "ref.is_null" ∷ codes "ref.func" ∷ codes "ref.eq" ∷ codes "ref.as_non_null" ∷ codes "br_on_null" ∷
    codes "br_on_non_null" ∷ []

-- structures and arrays, after 0xfb
abbrev pub aggregate_names : List (List ℕ)
aggregate_names =
    codes "struct.new" ∷ codes "struct.new_default" ∷ [] ∷ [] ∷ [] ∷ [] ∷ codes "array.new" ∷ codes "array.new_default" ∷
    codes "array.new_fixed" ∷ []

-- conversions of references, from 26 on after 0xfb
abbrev pub internal_names : List (List ℕ)
internal_names =
    codes "any.convert_extern" ∷ codes "extern.convert_any" ∷ codes "ref.i31" ∷ []

-- saturating conversions, and what is on ranges, after 0xfc
abbrev pub range_names : List (List ℕ)
range_names =
    codes "i32.trunc_sat_f32_s" ∷ codes "i32.trunc_sat_f32_u" ∷ codes "i32.trunc_sat_f64_s" ∷ codes "i32.trunc_sat_f64_u" ∷
    codes "i64.trunc_sat_f32_s" ∷ codes "i64.trunc_sat_f32_u" ∷ codes "i64.trunc_sat_f64_s" ∷ codes "i64.trunc_sat_f64_u" ∷
    codes "memory.init" ∷ codes "data.drop" ∷ codes "memory.copy" ∷ codes "memory.fill" ∷ codes "table.init" ∷ codes "elem.drop" ∷
    codes "table.copy" ∷ codes "table.grow" ∷ codes "table.size" ∷ codes "table.fill" ∷ []

-- vectors, after 0xfd
abbrev pub vector_names : List (List ℕ)
vector_names =
    [] ∷ [] ∷ [] ∷ [] ∷ [] ∷ [] ∷ [] ∷ [] ∷ [] ∷ [] ∷ [] ∷ [] ∷ codes "v128.const" ∷ []

-- the name of a byte that is a code of its own
abbrev pub byte_name : ℕ → List ℕ
byte_name b =
    if nat_lt b 0x1a then name_at control_names b
    else if nat_lt b 0x28 then name_at variable_names (b - 0x1a)
    else if nat_lt b 0x36 then name_at load_names (b - 0x28)
    else if nat_lt b 0x45 then name_at store_names (b - 0x36)
    else if nat_lt b 0x5b then name_at integer_comparison_names (b - 0x45)
    else if nat_lt b 0x67 then name_at float_comparison_names (b - 0x5b)
    else if nat_lt b 0x79 then name_at i32_names (b - 0x67)
    else if nat_lt b 0x8b then name_at i64_names (b - 0x79)
    else if nat_lt b 0x99 then name_at f32_names (b - 0x8b)
    else if nat_lt b 0xa7 then name_at f64_names (b - 0x99)
    else if nat_lt b 0xb2 then name_at integer_conversion_names (b - 0xa7)
    else if nat_lt b 0xd0 then name_at float_conversion_names (b - 0xb2)
    else name_at reference_names (b - 0xd0)

-- the name of a code that is this byte, or this prefix and this second code; a code that no operator has is called nothing
abbrev pub name_of : ℕ → ℕ → List ℕ
name_of byte second =
    if nat_eq byte 0xfb then (if nat_lt second 26 then name_at aggregate_names second else name_at internal_names (second - 26))
    else if nat_eq byte 0xfc then name_at range_names second
    else if nat_eq byte 0xfd then name_at vector_names second
    else byte_name byte
