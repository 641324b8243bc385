-- What the reader of operators says, from what its parts say.
use Rattle.std.proofs.Common.{◌≡◌, ◌⊎◌, ℕ, Bool, true, false, not, List, [], ◌∷◌, ◌++◌, Option, Some, None, Result, Ok, Err, refl, sym, ap, subst, ◌∙◌, inl, inr}
use Rattle.std.proofs.lemmas.Bool.Decides.{eqb_tells}
use Rattle.std.specs.Prelude.{slice_get}
use Rattle.wasm_bodies.specs.OperatorGrammar.{is_among_codes, IsOperator}
use Rattle.wasm_bodies.specs.OperatorRows.{OperatorCode}
use Rattle.wasm_bodies.specs.Operators.{Operator, End}
use Rattle.wasm_core_read.proofs.Forms.{some_is}
use Rattle.wasm_spec.proofs.WrongEncodings.{heads}
use Rattle.wasm_spec.specs.Bytes.{AreBytes}
use Rattle.wasm_spec.specs.Features.{Features}
use Rattle.wasmparser_error.specs.declared.error.Error.{Error}
use Rattle.wasmparser_error.specs.declared.error.ErrorKind.{ErrorKind}
use Rattle.wasmparser_error.specs.declared.error.ErrorKind.TheVariants as kinds
use Rattle.wasmparser_readers.specs.Answers.{HasLargeIndex}
use Rattle.wasmparser_operators.specs.OperatorAnswers.{OperatorsLeft, is_end, begins_end, is_other_code, is_other, IsOperatorRefusal, ReadsNextOperator, BeginsOther, BeginsNone, BeginsLarge, IsRefusedOperator, IsNextOperator}
use Rattle.wasmparser_operators.specs.OperatorReading.{Packed, code_at, kept_operator_at, operator_at, shape_of, packed_indexes}
use Rattle.wasmparser_operators.specs.OperatorValues.{operator}
use Rattle.wasmparser_operators.specs.declared.operator.Operator as declared
use Rattle.wasmparser_operators.proofs.KeptLaws.{read_of_kept}
use Rattle.wasmparser_operators.proofs.OperatorForms.{reads_code, reads_operator}

either : (b : Bool) → (b ≡ true) ⊎ (b ≡ false)
either true = inl refl
either false = inr refl

-- ---- ends

is_the_end : (v : Operator ℕ) → is_end v ≡ true → v ≡ End
unfolding is_end
is_the_end End e = refl
is_the_end _ e = absurd cc

end_read : (features : Features) (bs : List ℕ) → operator_at features (0x0b ∷ bs) ≡ Some (End, bs)
unfolding kept_operator_at code_at shape_of
end_read features bs = refl

-- an end is its byte
end_begins : (features : Features) (b : ℕ) (bs encoding rest : List ℕ) → b ∷ bs ≡ encoding ++ rest → IsOperator features encoding End → b ≡ 0x0b
end_begins features b bs encoding rest e h =
    let whole : b ∷ bs ≡ 0x0b ∷ (h.1 ++ rest) = e ∙ ap (λ (l : List ℕ). l ++ rest) (h.2 ∙ ap (λ (l : List ℕ). l ++ h.1) h.3.0) in
    heads b 0x0b bs (h.1 ++ rest) whole

ends_by_byte : (features : Features) (bytes : List ℕ) (v : Operator ℕ) (rest : List ℕ) → AreBytes bytes → operator_at features bytes ≡ Some (v, rest) → begins_end (slice_get bytes 0) ≡ is_end v
unfolding kept_operator_at code_at is_end
ends_by_byte features [] v rest are e = absurd cc
ends_by_byte features (b ∷ bs) v rest are e = elim (eqb_tells b 0x0b) [
  | inl (t, same) ↦
      let read : Some (End, bs) ≡ Some (v, rest) = sym (end_read features bs) ∙ ap (λ (k : ℕ). operator_at features (k ∷ bs)) (sym same) ∙ e in
      t ∙ ap (λ (x : Operator ℕ × List ℕ). is_end x.0) (some_is (End, bs) (v, rest) read)
  | inr (t, other) ↦ elim (either (is_end v)) [
    | inl ends ↦
        let f = (reads_operator features).found (b ∷ bs) v rest are e in
        absurd (other (end_begins features b bs f.0 rest f.1 (subst (λ w. IsOperator features f.0 w) (is_the_end v ends) f.2)))
    | inr goes ↦ t ∙ sym goes
  ]
]

pub ended : (features : Features) (bytes : List ℕ) (v : Operator ℕ) (rest : List ℕ) (t : Bool) → AreBytes bytes → kept_operator_at Packed features bytes ≡ Some (v, rest) → t ≡ begins_end (slice_get bytes 0) → t ≡ is_end v
ended features bytes v rest t are e same = same ∙ ends_by_byte features bytes v rest are (read_of_kept features bytes v rest e)

pub ruleset read_steps = (read_of_kept, ended)

-- ---- by the grammar

other_begins : (bytes : List ℕ) → AreBytes bytes → is_other (code_at bytes) ≡ true → BeginsOther bytes
unfolding is_other_code
other_begins bytes are e = by_read (code_at bytes) refl e
  where
    off : (b : Bool) → not b ≡ true → b ≡ false
    off true f = absurd cc
    off false f = refl

    by_read : (read : Option (OperatorCode × List ℕ)) → code_at bytes ≡ read → is_other read ≡ true → BeginsOther bytes
    by_read None f g = absurd cc
    by_read (Some code) f g =
        let x = reads_code.found bytes code.0 code.1 are f in
        (x.0, code.1, x.1, (code.0, x.2, off (is_among_codes code.0) g))

no_other_begins : (bytes : List ℕ) → is_other (code_at bytes) ≡ false → ¬ (BeginsOther bytes)
unfolding is_other_code
no_other_begins bytes e b =
    let read : code_at bytes ≡ Some (b.3.0, b.1) = ap code_at b.2 ∙ reads_code.again b.0 b.3.0 b.1 b.3.1 in
    let among : not (is_among_codes b.3.0) ≡ true = rw b.3.2 refl in
    let f : true ≡ false = sym among ∙ sym (ap is_other read) ∙ e in
    absurd cc

none_begins : (features : Features) (bytes : List ℕ) → operator_at features bytes ≡ None → BeginsNone features bytes
none_begins features bytes e v rest b = let some = sym ((reads_operator features).again b.encoding v rest b.encodes) ∙ ap (operator_at features) (sym b.parts) ∙ e in absurd cc

large_begins : (features : Features) (bytes : List ℕ) → AreBytes bytes → HasLargeIndex packed_indexes (operator_at features bytes) → BeginsLarge features bytes
large_begins features bytes are h = by_read (operator_at features bytes) refl h
  where
    by_read : (read : Option (Operator ℕ × List ℕ)) → operator_at features bytes ≡ read → HasLargeIndex packed_indexes read → BeginsLarge features bytes
    by_read None f g = absurd g
    by_read (Some x) f g =
        let found = (reads_operator features).found bytes x.0 x.1 are f in
        (x.0, x.1, record { encoding = found.0; parts = found.1; encodes = found.2 }, g)

refused_by : (features : Features) (bytes : List ℕ) (kind : ErrorKind) → AreBytes bytes → IsOperatorRefusal kind features bytes → IsRefusedOperator kind features bytes
refused_by features bytes kinds.Operator are h = other_begins bytes are h
refused_by features bytes kinds.Body are (inl h) = inl (none_begins features bytes h.0, no_other_begins bytes h.1)
refused_by features bytes kinds.Body are (inr h) = inr (large_begins features bytes are h)
refused_by features bytes _ are h = absurd h

pub next_by_grammar : (old new : OperatorsLeft) (r : Result declared.Operator Error) → AreBytes old.input.rest → ReadsNextOperator old new r → IsNextOperator old new r
next_by_grammar old new (Ok x) are h =
    let law = reads_operator old.input.features in
    let f = law.found old.input.rest (operator x) new.input.rest are h.0 in
    record {
      found = record { encoding = f.0; parts = f.1; encodes = f.2 };
      only = λ w rest b.
          let both = some_is (w, rest) (operator x, new.input.rest) (sym (law.again b.encoding w rest b.encodes) ∙ ap (operator_at old.input.features) (sym b.parts) ∙ h.0) in
          (ap (λ q. q.0) both, ap (λ q. q.1) both);
      goes_on = h.2;
    }
next_by_grammar old new (Err e) are h = refused_by old.input.features old.input.rest e.kind are h.0

pub ruleset by_grammar = (next_by_grammar)
