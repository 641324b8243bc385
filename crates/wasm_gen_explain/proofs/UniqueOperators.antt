-- A place is in one operator of a body at most.
use Rattle.std.proofs.Common.{◌≡◌, inl, inr, ℕ, Bool, true, false, not, ◌||◌, List, [], ◌∷◌, ◌++◌, map, Option, Some, None, refl, sym, ap, ◌∙◌}
use Rattle.std.proofs.Common.{cond}
use Rattle.std.proofs.lemmas.List.Folds.{list_any-append}
use Rattle.std.specs.List.{list_any}
use Rattle.wasm_bodies.specs.OperatorGrammar.{is_among_codes}
use Rattle.wasm_bodies.specs.OperatorRows.{OperatorCode, is_same_code, load_rows, scalar_rows, store_rows}
use Rattle.wasm_bodies.specs.Operators.{Operator}
use Rattle.wasm_core_read.specs.Input.{Input}
use Rattle.wasm_core_read.specs.Reading.{◌>>=◌}
use Rattle.wasm_core_read.proofs.ReadingLaws.{some_is}
use Rattle.wasm_spec.specs.Features.{Features}
use Rattle.wasmparser_error.specs.declared.error.ErrorKind.{ErrorKind}
use Rattle.wasmparser_error.specs.declared.error.ErrorKind.TheVariants as kinds
use Rattle.wasmparser_operators.specs.CodeTables.{access_code, first_of, row_of, scalar_code}
use Rattle.wasmparser_operators.specs.OperatorAnswers.{IsOperatorRefusal, is_other, is_other_code}
use Rattle.wasmparser_operators.specs.OperatorReading.{All, code_at, coded_at, entry_code, form_entries, kept_operator_at, operator_at, shape_of}
use Rattle.wasmparser_readers.specs.Passing.{rest_of}
use Rattle.wasm_gen_explain.specs.LargeIndexes.{IsLargeOperator, IsLargeRefusal}
use Rattle.wasm_gen_explain.specs.Operators.{BodyLeft, EndsBody, IsUnpassed, PassesOperator, open_after}
use Rattle.wasm_gen_explain.proofs.UniqueItems.{IsFunctional, IsLast, not_past, same_after}

same_left : (a b : BodyLeft) → a.input ≡ b.input → a.blocks ≡ b.blocks → a ≡ b
same_left a b e f = ap (λ (i : Input). record { input = i; blocks = a.blocks }) e ∙ ap (λ (k : ℕ). record { input = b.input; blocks = k }) f

pub operators_functional : (offset : ℕ) → IsFunctional (PassesOperator offset)
operators_functional offset s a b p q =
    let same = some_is (p.operator, a.input.rest) (q.operator, b.input.rest) (sym p.reads ∙ q.reads) in
    let input = same_after s.input a.input b.input p.goes_on q.goes_on (ap (λ x. x.1) same) in
    same_left a b input (p.opens ∙ ap (λ (x : Operator ℕ × List ℕ). open_after x.0 s.blocks) same ∙ sym q.opens)

refused_unread : (kind : ErrorKind) (features : Features) (bytes : List ℕ) (h : IsOperatorRefusal kind features bytes) → (is_other (code_at bytes) ≡ true → operator_at features bytes ≡ None) → ¬ (IsLargeRefusal kind features bytes h) → operator_at features bytes ≡ None
refused_unread kinds.Operator features bytes h other small = other h
refused_unread kinds.Body features bytes (inl h) other small = h.0
refused_unread kinds.Body features bytes (inr h) other small = absurd (small tt)
refused_unread _ features bytes h other small = absurd h

-- ---- codes that no operator has

first_none : {X : Type 0} (key : X → OperatorCode) (xs : List X) (code : OperatorCode) → list_any (is_same_code code) (map key xs) ≡ false → first_of key xs code ≡ None
first_none key [] code e = refl
first_none key (x ∷ xs) code e = by_test (is_same_code code (key x)) e (first_none key xs code)
  where
    by_test : (b : Bool) → (b || list_any (is_same_code code) (map key xs)) ≡ false → (list_any (is_same_code code) (map key xs) ≡ false → first_of key xs code ≡ None) → cond b (Some x) (first_of key xs code) ≡ None
    by_test true f others = absurd cc
    by_test false f others = others f

neither : (a b : Bool) → (a || b) ≡ false → (a ≡ false) × (b ≡ false)
neither true b e = absurd cc
neither false b e = (refl, e)

is_off : (b : Bool) → not b ≡ true → b ≡ false
is_off true e = absurd cc
is_off false e = refl

abbrev form_codes : List OperatorCode
form_codes = map entry_code form_entries

abbrev scalar_codes : List OperatorCode
scalar_codes = map scalar_code scalar_rows

abbrev load_codes : List OperatorCode
load_codes = map access_code load_rows

abbrev store_codes : List OperatorCode
store_codes = map access_code store_rows

-- a code in neither of two lists
in_neither : (code : OperatorCode) (xs ys : List OperatorCode) → list_any (is_same_code code) (xs ++ ys) ≡ false → (list_any (is_same_code code) xs ≡ false) × (list_any (is_same_code code) ys ≡ false)
in_neither code xs ys e = neither (list_any (is_same_code code) xs) (list_any (is_same_code code) ys) (sym (list_any-append (is_same_code code) xs ys) ∙ e)

no_shape : (code : OperatorCode) → is_among_codes code ≡ false → shape_of code ≡ None
unfolding shape_of row_of
no_shape code e =
    let forms = in_neither code form_codes (scalar_codes ++ (load_codes ++ store_codes)) e in
    let scalars = in_neither code scalar_codes (load_codes ++ store_codes) forms.1 in
    let accesses = in_neither code load_codes store_codes scalars.1 in
    rw (first_none entry_code form_entries code forms.0, first_none scalar_code scalar_rows code scalars.0, first_none access_code load_rows code accesses.0, first_none access_code store_rows code accesses.1) refl

other_unread : (features : Features) (bytes : List ℕ) → is_other (code_at bytes) ≡ true → operator_at features bytes ≡ None
unfolding kept_operator_at is_other_code
other_unread features bytes e = by_code (code_at bytes) e
  where
    by_code : (read : Option (OperatorCode × List ℕ)) → is_other read ≡ true → (read >>= λ code. coded_at All features code.0 code.1) ≡ None
    by_code None f = refl
    by_code (Some code) f = rw (no_shape code.0 (is_off (is_among_codes code.0) f)) refl

-- ---- the last operator that is passed

unread_last : (now next : Input) → operator_at now.features now.rest ≡ None → (operator : Operator ℕ) → ¬ (operator_at now.features now.rest ≡ Some (operator, next.rest))
unread_last now next e operator f = let g = sym e ∙ f in absurd cc

pub operator_last : (offset : ℕ) (now : BodyLeft) (stops : IsUnpassed offset now.input) → ¬ (IsLargeOperator offset now.input stops) → IsLast (PassesOperator offset) now
operator_last offset now (inl r) small t p =
    let unread = refused_unread r.kind now.input.features now.input.rest r.refused (other_unread now.input.features now.input.rest) small in
    unread_last now.input t.input unread p.operator p.reads
operator_last offset now (inr past) small t p = not_past (operator_at now.input.features now.input.rest) now.input t.input offset (ap rest_of p.reads) p.goes_on p.ends past

empty_unread : (features : Features) → operator_at features [] ≡ None
unfolding kept_operator_at code_at
empty_unread features = refl

pub end_last : (offset : ℕ) (now : BodyLeft) → EndsBody now → IsLast (PassesOperator offset) now
end_last offset now e t p = unread_last now.input t.input (ap (operator_at now.input.features) e.ended ∙ empty_unread now.input.features) p.operator p.reads
