-- After a code that no operator has, none reads.
use Rattle.std.proofs.Common.{◌≡◌, ℕ, Bool, true, false, not, ◌||◌, List, ◌++◌, map, Option, Some, None, Err, refl, sym, ap, ◌∙◌, arith}
use Rattle.std.proofs.lemmas.List.Folds.{list_any-append}
use Rattle.std.specs.List.{list_any}
use Rattle.wasm_bodies.specs.OperatorGrammar.{codes, is_among_codes, IsOtherCode}
use Rattle.wasm_bodies.specs.OperatorRows.{OperatorCode, is_same_code, scalar_rows, load_rows, store_rows}
use Rattle.wasm_core_read.specs.Reading.{◌>>=◌}
use Rattle.wasm_spec.specs.Bytes.{AreBytes}
use Rattle.wasm_spec.specs.Features.{Features}
use Rattle.wasmparser_error.specs.declared.error.ErrorKind.TheVariants as kinds
use Rattle.wasmparser_operators.specs.CodeTables.{first_of, scalar_code, access_code, row_of}
use Rattle.wasmparser_operators.specs.OperatorAnswers.{OperatorsLeft, is_other, is_other_code, BeginsOther}
use Rattle.wasmparser_operators.specs.OperatorReading.{All, entry_code, form_entries, shape_of, coded_at, code_at, kept_operator_at, operator_at}
use Rattle.wasmparser_operators.proofs.CodeTables.{not_some, tells_some}
use Rattle.wasmparser_operators.proofs.OperatorForms.{reads_code}
use Rattle.wasmparser_operators.proofs.ReaderLaws.{next_by_grammar}

is_off : (b : Bool) → not b ≡ true → b ≡ false
is_off true e = absurd cc
is_off false e = refl

neither : (a b : Bool) → (a || b) ≡ false → (a ≡ false) × (b ≡ false)
neither true b e = absurd cc
neither false b e = (refl, e)

none_of_both : {X : Type 0} (test : X → Bool) (xs ys : List X) → list_any test (xs ++ ys) ≡ false → (list_any test xs ≡ false) × (list_any test ys ≡ false)
none_of_both test xs ys e = neither (list_any test xs) (list_any test ys) (sym (list_any-append test xs ys) ∙ e)

-- all codes, table by table
by_table : codes ≡ map entry_code form_entries ++ (map scalar_code scalar_rows ++ (map access_code load_rows ++ map access_code store_rows))
by_table = refl

unlisted : {X : Type 0} (key : X → OperatorCode) (xs : List X) (code : OperatorCode) → list_any (is_same_code code) (map key xs) ≡ false → first_of key xs code ≡ None
unlisted key xs code e = not_some (first_of key xs code) (tells_some key xs code ∙ e)

no_shape : (code : OperatorCode) → is_among_codes code ≡ false → shape_of code ≡ None
unfolding shape_of row_of
no_shape code e =
    let test = is_same_code code in
    let a = none_of_both test (map entry_code form_entries) (map scalar_code scalar_rows ++ (map access_code load_rows ++ map access_code store_rows)) (sym (ap (list_any test) by_table) ∙ e) in
    let b = none_of_both test (map scalar_code scalar_rows) (map access_code load_rows ++ map access_code store_rows) a.1 in
    let c = none_of_both test (map access_code load_rows) (map access_code store_rows) b.1 in
    rw (unlisted entry_code form_entries code a.0, unlisted scalar_code scalar_rows code b.0, unlisted access_code load_rows code c.0, unlisted access_code store_rows code c.1) refl

pub other_unread : (features : Features) (bytes : List ℕ) → is_other (code_at bytes) ≡ true → operator_at features bytes ≡ None
unfolding kept_operator_at is_other_code
other_unread features bytes e = by_read (code_at bytes) e
  where
    by_read : (read : Option (OperatorCode × List ℕ)) → is_other read ≡ true → (read >>= λ code. coded_at All features code.0 code.1) ≡ None
    by_read None f = refl
    by_read (Some code) f = rw (no_shape code.0 (is_off (is_among_codes code.0) f)) refl

-- ---- by the grammar

pub other_begins : (features : Features) (bytes : List ℕ) → AreBytes bytes → is_other (code_at bytes) ≡ true → BeginsOther bytes
other_begins features bytes are e =
    let here : OperatorsLeft = record { input = record { rest = bytes; position = 0; features = features }; is_ended = false } in
    next_by_grammar here here (Err (record { offset = 0; kind = kinds.Operator })) are (e, record { from = omega arith; to = omega arith }, refl)

pub other_stands : (other rest : List ℕ) → IsOtherCode other → is_other (code_at (other ++ rest)) ≡ true
unfolding is_other_code
other_stands other rest o = ap is_other (reads_code.again other o.0 rest o.1) ∙ ap not o.2
