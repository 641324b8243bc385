-- Bytes that are the code of no operator, or of none of a kind.
use Rattle.std.proofs.Common.{◌≡◌, ◌≤◌, ◌<◌, ℕ, true, false, List, Option, Some, None, refl, arith}
use Rattle.std.proofs.lemmas.Bool.{ne_eqb}
use Rattle.std.specs.List.{list_all}
use Rattle.std.specs.Option.{option_map}
use Rattle.wasm_bodies.specs.OperatorGrammar.{is_prefix}
use Rattle.wasm_bodies.specs.Operators.{Scalar}
use Rattle.wasm_bodies.specs.OperatorRows.{Byte, scalar_rows, load_rows, store_rows, ScalarRow}
use Rattle.wasm_spec.specs.Features.{Features}
use Rattle.wasmparser_operators.specs.CodeTables.{row_of, scalar_code, access_code}
use Rattle.wasmparser_operators.specs.OperatorReading.{Kept, entry_code, form_entries, or_shape, shape_of, operator_from, scalar_shape}
use Rattle.wasmparser_operators.proofs.CodeTables.{misses, gap}

pub no_row_below : (b : ℕ) → b ≤ 0x44 → row_of (Byte b) ≡ None
unfolding row_of
no_row_below b h = gap scalar_code scalar_rows 0 0x44 b refl (omega arith) h

pub no_row_above : (b : ℕ) → 0xc5 ≤ b → b ≤ 0xff → row_of (Byte b) ≡ None
unfolding row_of
no_row_above b l h = gap scalar_code scalar_rows 0xc5 0xff b refl l h

pub ruleset no_rows = (no_row_below, no_row_above)

-- ---- bytes between those of operators

gap_in : (kept : Kept) (features : Features) (low high b : ℕ) (rest : List ℕ) → list_all (λ entry. misses low high (entry_code entry)) form_entries ≡ true → list_all (λ row. misses low high (scalar_code row)) scalar_rows ≡ true
    → list_all (λ row. misses low high (access_code row)) load_rows ≡ true → list_all (λ row. misses low high (access_code row)) store_rows ≡ true → is_prefix b ≡ false → low ≤ b → b ≤ high → operator_from kept features b rest ≡ None
unfolding shape_of row_of
gap_in kept features low high b rest f s l t p below above =
    rw (p, gap entry_code form_entries low high b f below above, gap scalar_code scalar_rows low high b s below above, gap access_code load_rows low high b l below above, gap access_code store_rows low high b t below above) refl

not_prefix : (b : ℕ) → b < 0xfb → is_prefix b ≡ false
not_prefix b lt = rw (ne_eqb b 0xfb (omega (arith, lt)), ne_eqb b 0xfc (omega (arith, lt)), ne_eqb b 0xfd (omega (arith, lt))) refl

past_prefix : (b : ℕ) → 0xfd < b → is_prefix b ≡ false
past_prefix b lt = rw (ne_eqb b 0xfb (omega (arith, lt)), ne_eqb b 0xfc (omega (arith, lt)), ne_eqb b 0xfd (omega (arith, lt))) refl

pub gap_06 : (kept : Kept) (features : Features) (b : ℕ) (rest : List ℕ) → 0x06 ≤ b → b ≤ 0x0a → operator_from kept features b rest ≡ None
gap_06 kept features b rest l h = gap_in kept features 0x06 0x0a b rest refl refl refl refl (not_prefix b (omega (arith, l, h))) l h

pub gap_16 : (kept : Kept) (features : Features) (b : ℕ) (rest : List ℕ) → 0x16 ≤ b → b ≤ 0x19 → operator_from kept features b rest ≡ None
gap_16 kept features b rest l h = gap_in kept features 0x16 0x19 b rest refl refl refl refl (not_prefix b (omega (arith, l, h))) l h

pub gap_1d : (kept : Kept) (features : Features) (b : ℕ) (rest : List ℕ) → 0x1d ≤ b → b ≤ 0x1f → operator_from kept features b rest ≡ None
gap_1d kept features b rest l h = gap_in kept features 0x1d 0x1f b rest refl refl refl refl (not_prefix b (omega (arith, l, h))) l h

pub gap_27 : (kept : Kept) (features : Features) (b : ℕ) (rest : List ℕ) → 0x27 ≤ b → b ≤ 0x27 → operator_from kept features b rest ≡ None
gap_27 kept features b rest l h = gap_in kept features 0x27 0x27 b rest refl refl refl refl (not_prefix b (omega (arith, l, h))) l h

pub gap_c5 : (kept : Kept) (features : Features) (b : ℕ) (rest : List ℕ) → 0xc5 ≤ b → b ≤ 0xcf → operator_from kept features b rest ≡ None
gap_c5 kept features b rest l h = gap_in kept features 0xc5 0xcf b rest refl refl refl refl (not_prefix b (omega (arith, l, h))) l h

pub gap_d7 : (kept : Kept) (features : Features) (b : ℕ) (rest : List ℕ) → 0xd7 ≤ b → b ≤ 0xfa → operator_from kept features b rest ≡ None
gap_d7 kept features b rest l h = gap_in kept features 0xd7 0xfa b rest refl refl refl refl (not_prefix b (omega (arith, l, h))) l h

pub gap_fe : (kept : Kept) (features : Features) (b : ℕ) (rest : List ℕ) → 0xfe ≤ b → b ≤ 0xff → operator_from kept features b rest ≡ None
gap_fe kept features b rest l h = gap_in kept features 0xfe 0xff b rest refl refl refl refl (past_prefix b (omega (arith, l, h))) l h

pub ruleset gaps = (gap_06, gap_16, gap_1d, gap_27, gap_c5, gap_d7, gap_fe)

-- ---- bytes of operators on numbers alone

scalar_shape_is : (b : ℕ) → 0x45 ≤ b → b ≤ 0xc4 → shape_of (Byte b) ≡ option_map scalar_shape (row_of (Byte b))
unfolding shape_of
scalar_shape_is b l h =
    rw (gap entry_code form_entries 0x45 0xc4 b refl l h, gap access_code load_rows 0x45 0xc4 b refl l h, gap access_code store_rows 0x45 0xc4 b refl l h) (by_row (row_of (Byte b)))
  where
    by_row : (row : Option ScalarRow) → or_shape (option_map scalar_shape row) None ≡ option_map scalar_shape row
    by_row None = refl
    by_row (Some row) = refl

pub scalar_read : (kept : Kept) (features : Features) (b : ℕ) (rest : List ℕ) (row : ScalarRow) → 0x45 ≤ b → b ≤ 0xc4 → row_of (Byte b) ≡ Some row → operator_from kept features b rest ≡ Some (Scalar row, rest)
scalar_read kept features b rest row l h e = rw (not_prefix b (omega (arith, h)), scalar_shape_is b l h, e) refl

pub scalar_unread : (kept : Kept) (features : Features) (b : ℕ) (rest : List ℕ) → 0x45 ≤ b → b ≤ 0xc4 → row_of (Byte b) ≡ None → operator_from kept features b rest ≡ None
scalar_unread kept features b rest l h e = rw (not_prefix b (omega (arith, h)), scalar_shape_is b l h, e) refl

pub ruleset scalars = (scalar_read, scalar_unread)
