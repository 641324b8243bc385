-- The meaning of an outcome of code: which operators read, and where they lead.
use Rattle.std.proofs.Common.{◌≡◌, ◌≢◌, ◌⊎◌, inl, inr, ℕ, zero, suc, Bool, true, false, cond, List, [], ◌∷◌, ◌++◌, length, Option, Some, None, refl, sym, ap, subst, ◌∙◌, append_assoc}
use Rattle.std.proofs.lemmas.List.{append-nil}
use Rattle.std.proofs.lemmas.Option.{same_Some}
use Rattle.std.specs.Option.{option_and_then}
use Rattle.wasm_bodies.proofs.Judging.{split}
use Rattle.wasm_bodies.specs.BodyContext.{BodyContext, func_at}
use Rattle.wasm_bodies.specs.OperatorGrammar.{IsOperators}
use Rattle.wasm_bodies.specs.Operators.{Operator}
use Rattle.wasm_bodies_laws.specs.Machine.{Frame, Machine, labels_of, stepped, run, at_start}
use Rattle.wasm_bodies_laws.proofs.Whole.{closed_by_body, body_if_closed, open_after_begun, begun_if_open}
use Rattle.wasm_core_read.proofs.Forms.{joined, rest_bytes}
use Rattle.wasm_spec.specs.Bytes.{AreBytes}
use Rattle.wasm_spec.specs.Types.{FuncType}
use Rattle.wasmparser_operators.specs.OperatorAnswers.{is_other}
use Rattle.wasmparser_operators.specs.OperatorReading.{code_at, operator_at}
use Rattle.wasmparser_operators.proofs.OperatorForms.{reads_operator}
use Rattle.wasmparser_bodies.specs.CodeReading.{BodyOutcome, Fine, ManyLocals, OtherOperator, Broken, end_outcome, unread_outcome, with_step, with_operator, where_open, code_within, code_outcome, IsCode, HasOther}
use Rattle.wasmparser_bodies.proofs.CodeLaws.{code_closed, code_other, code_goes_on}
use Rattle.wasmparser_bodies.proofs.NoOperators.{other_begins, other_stands}

module _ {R : Type 0} (cx : BodyContext R) where
  -- ---- from operators to the outcome

  -- past operators that lead to a machine
  pub code_past : (operators : List (Operator ℕ)) (encoding rest : List ℕ) (m n : Machine R) → IsOperators cx.features encoding operators → run cx operators m ≡ Some n
      → code_outcome cx m (encoding ++ rest) ≡ code_outcome cx n rest
  code_past [] encoding rest m n h e = rw (h, same_Some m n e) refl
  code_past (operator ∷ operators) encoding rest m n h e =
      let s = split (run cx operators) (stepped cx m operator) n e in
      let apart : encoding ++ rest ≡ h.0 ++ (h.1 ++ rest) = rw h.2 (append_assoc h.0 h.1 rest) in
      ap (code_outcome cx m) apart
      ∙ code_goes_on cx m s.0 (h.0 ++ (h.1 ++ rest)) operator (h.1 ++ rest) ((reads_operator cx.features).again h.0 operator (h.1 ++ rest) h.3) s.1
      ∙ code_past operators h.1 rest s.0 n h.4 s.2

  -- ---- from the outcome to operators

  -- why no operator more is taken
  abbrev Stops : Machine R → List ℕ → BodyOutcome → Type 0
  Stops m rest outcome =
      ((m.frames ≡ []) × (end_outcome rest ≡ outcome)) ⊎ ((m.frames ≢ []) × (unread_outcome rest ≡ outcome)) ⊎ (outcome ≡ Broken)

  -- operators at the front, where they lead, and what stands after them
  record Reached (m : Machine R) (bytes : List ℕ) (outcome : BodyOutcome) : Type 0 where
    operators : List (Operator ℕ)
    machine : Machine R
    encoding : List ℕ
    rest : List ℕ
    begins : bytes ≡ encoding ++ rest
    spelled : IsOperators cx.features encoding operators
    leads : run cx operators m ≡ Some machine
    stops : Stops machine rest outcome

  at_once : (m : Machine R) (bytes : List ℕ) (outcome : BodyOutcome) → Stops m bytes outcome → Reached m bytes outcome
  at_once m bytes outcome s = record { operators = []; machine = m; encoding = []; rest = bytes; begins = refl; spelled = refl; leads = refl; stops = s }

  one_more : (m n : Machine R) (bytes : List ℕ) (operator : Operator ℕ) (rest : List ℕ) (outcome : BodyOutcome) → AreBytes bytes → operator_at cx.features bytes ≡ Some (operator, rest) → stepped cx m operator ≡ Some n
      → Reached n rest outcome → Reached m bytes outcome
  one_more m n bytes operator rest outcome are e step r =
      let f = (reads_operator cx.features).found bytes operator rest are e in
      record {
        operators = operator ∷ r.operators;
        machine = r.machine;
        encoding = f.0 ++ r.encoding;
        rest = r.rest;
        begins = joined bytes f.0 rest r.encoding r.rest f.1 r.begins;
        spelled = (f.0, r.encoding, refl, f.2, r.spelled);
        leads = ap (option_and_then (run cx r.operators)) step ∙ r.leads;
        stops = r.stops;
      }

  some_frame : (f : Frame R) (frames : List (Frame R)) → f ∷ frames ≡ [] → ⊥
  some_frame f frames e = absurd cc

  reached : (n : ℕ) (m : Machine R) (bytes : List ℕ) → AreBytes bytes → Reached m bytes (code_within cx n m bytes)
  unfolding code_within
  reached zero m bytes are = by_frames m.frames refl
    where
      by_frames : (frames : List (Frame R)) → m.frames ≡ frames → Reached m bytes (where_open frames bytes (unread_outcome bytes))
      by_frames [] e = at_once m bytes (end_outcome bytes) (inl (e, refl))
      by_frames (f ∷ frames) e = at_once m bytes (unread_outcome bytes) (inr (inl ((λ none. some_frame f frames (sym e ∙ none)), refl)))
  reached (suc n) m bytes are = by_frames m.frames refl (by_read (operator_at cx.features bytes) refl (λ next rest later. reached n next rest later))
    where
      by_step : (x : Operator ℕ × List ℕ) (step : Option (Machine R)) → operator_at cx.features bytes ≡ Some x → stepped cx m x.0 ≡ step
          → ((next : Machine R) (rest : List ℕ) → AreBytes rest → Reached next rest (code_within cx n next rest))
          → Reached m bytes (with_step step (λ next. code_within cx n next x.1))
      by_step x None e s again = at_once m bytes Broken (inr (inr refl))
      by_step x (Some next) e s again =
          let f = (reads_operator cx.features).found bytes x.0 x.1 are e in
          one_more m next bytes x.0 x.1 (code_within cx n next x.1) are e s (again next x.1 (rest_bytes bytes f.0 x.1 are f.1))

      by_read : (read : Option (Operator ℕ × List ℕ)) → operator_at cx.features bytes ≡ read → ((next : Machine R) (rest : List ℕ) → AreBytes rest → Reached next rest (code_within cx n next rest))
          → m.frames ≢ [] → Reached m bytes (with_operator cx m bytes read (λ next rest. code_within cx n next rest))
      by_read None e again = λ some. at_once m bytes (unread_outcome bytes) (inr (inl (some, refl)))
      by_read (Some x) e again = λ some. by_step x (stepped cx m x.0) e refl again

      by_frames : (frames : List (Frame R)) → m.frames ≡ frames → (m.frames ≢ [] → Reached m bytes (with_operator cx m bytes (operator_at cx.features bytes) (λ next rest. code_within cx n next rest)))
          → Reached m bytes (where_open frames bytes (with_operator cx m bytes (operator_at cx.features bytes) (λ next rest. code_within cx n next rest)))
      by_frames [] e opened = at_once m bytes (end_outcome bytes) (inl (e, refl))
      by_frames (f ∷ frames) e opened = opened (λ none. some_frame f frames (sym e ∙ none))

  all_reached : (m : Machine R) (bytes : List ℕ) → AreBytes bytes → Reached m bytes (code_outcome cx m bytes)
  unfolding code_outcome
  all_reached m bytes are = reached (length bytes) m bytes are

  -- ---- which outcome it is

  fine_at_end : (rest : List ℕ) → end_outcome rest ≡ Fine → rest ≡ []
  fine_at_end [] e = refl
  fine_at_end (b ∷ rest) e = absurd cc

  ends_known : (rest : List ℕ) → end_outcome rest ≢ OtherOperator
  ends_known [] e = absurd cc
  ends_known (b ∷ rest) e = absurd cc

  unread_other : (rest : List ℕ) (outcome : BodyOutcome) → outcome ≢ Broken → unread_outcome rest ≡ outcome → (is_other (code_at rest) ≡ true) × (outcome ≡ OtherOperator)
  unread_other rest outcome ne e = by_test (is_other (code_at rest)) refl e
    where
      by_test : (b : Bool) → is_other (code_at rest) ≡ b → cond b OtherOperator Broken ≡ outcome → (is_other (code_at rest) ≡ true) × (outcome ≡ OtherOperator)
      by_test true t f = (t, sym f)
      by_test false t f = absurd (ne (sym f))

  code_fine : (m : Machine R) (bytes : List ℕ) → AreBytes bytes → code_outcome cx m bytes ≡ Fine
      → (operators : List (Operator ℕ)) × (n : Machine R) × IsOperators cx.features bytes operators × (run cx operators m ≡ Some n) × (n.frames ≡ [])
  code_fine m bytes are e =
      let r = all_reached m bytes are in
      elim r.stops [
        | inl closed ↦
            let all : bytes ≡ r.encoding = r.begins ∙ ap (λ (l : List ℕ). r.encoding ++ l) (fine_at_end r.rest (closed.1 ∙ e)) ∙ append-nil r.encoding in
            (r.operators, r.machine, subst (λ (l : List ℕ). IsOperators cx.features l r.operators) (sym all) r.spelled, r.leads, closed.0)
        | inr opened ↦ elim opened [
          | inl unread ↦ let f = (unread_other r.rest Fine (λ x. absurd cc) (unread.1 ∙ e)).1 in absurd cc
          | inr broken ↦ let f = sym e ∙ broken in absurd cc
        ]
      ]

  code_named : (m : Machine R) (bytes : List ℕ) → AreBytes bytes → code_outcome cx m bytes ≡ OtherOperator
      → (operators : List (Operator ℕ)) × (n : Machine R) × (encoding rest : List ℕ) × (bytes ≡ encoding ++ rest) × IsOperators cx.features encoding operators × (run cx operators m ≡ Some n) × (n.frames ≢ [])
      × (is_other (code_at rest) ≡ true)
  code_named m bytes are e =
      let r = all_reached m bytes are in
      elim r.stops [
        | inl closed ↦ absurd (ends_known r.rest (closed.1 ∙ e))
        | inr opened ↦ elim opened [
          | inl unread ↦
              (r.operators, r.machine, r.encoding, r.rest, r.begins, r.spelled, r.leads, unread.0, (unread_other r.rest OtherOperator (λ x. absurd cc) (unread.1 ∙ e)).0)
          | inr broken ↦ let f = sym e ∙ broken in absurd cc
        ]
      ]

  pub code_few : (m : Machine R) (bytes : List ℕ) → AreBytes bytes → code_outcome cx m bytes ≢ ManyLocals
  code_few m bytes are e = elim (all_reached m bytes are).stops [
    | inl closed ↦ ends_few (all_reached m bytes are).rest (closed.1 ∙ e)
    | inr opened ↦ elim opened [
      | inl unread ↦ let f = (unread_other (all_reached m bytes are).rest ManyLocals (λ x. absurd cc) (unread.1 ∙ e)).1 in absurd cc
      | inr broken ↦ let f = sym e ∙ broken in absurd cc
    ]
  ]
    where
      ends_few : (rest : List ℕ) → end_outcome rest ≢ ManyLocals
      ends_few [] f = absurd cc
      ends_few (b ∷ rest) f = absurd cc

-- ---- bodies

module _ {R : Type 0} (cx : BodyContext R) (type : ℕ) (signature : FuncType R) (named : func_at cx.items type ≡ Some signature) (gives : signature.results ≡ cx.results) where
  pub is_code : (bytes : List ℕ) → AreBytes bytes → code_outcome cx (at_start type) bytes ≡ Fine → IsCode cx bytes
  is_code bytes are e =
      let c = code_fine cx (at_start type) bytes are e in
      record { operators = c.0; spelled = c.2; typed = body_if_closed cx type signature named gives c.0 (c.1, c.3, c.4) }

  pub fine_code : (bytes : List ℕ) → IsCode cx bytes → code_outcome cx (at_start type) bytes ≡ Fine
  fine_code bytes c =
      let b = closed_by_body cx type signature named gives c.operators c.typed in
      ap (code_outcome cx (at_start type)) (sym (append-nil bytes)) ∙ code_past cx c.operators bytes [] (at_start type) b.0 c.spelled b.1 ∙ code_closed cx b.0 [] b.2

  pub has_other : (bytes : List ℕ) → AreBytes bytes → code_outcome cx (at_start type) bytes ≡ OtherOperator → HasOther cx bytes
  has_other bytes are e =
      let c = code_named cx (at_start type) bytes are e in
      let o = other_begins cx.features c.3 (rest_bytes bytes c.2 c.3 are c.4) c.8 in
      record {
        operators = c.0;
        labels = labels_of cx.items c.1.frames;
        reached = c.1.now;
        encoding = c.2;
        other = o.0;
        rest = o.1;
        begins = c.4 ∙ ap (λ (l : List ℕ). c.2 ++ l) o.2;
        spelled = c.5;
        begun = begun_if_open cx type signature named gives c.0 (labels_of cx.items c.1.frames) c.1.now (c.1, c.6, c.7, refl, refl);
        is_other = o.3;
      }

  pub other_code : (bytes : List ℕ) → HasOther cx bytes → code_outcome cx (at_start type) bytes ≡ OtherOperator
  other_code bytes h =
      let b = open_after_begun cx type signature named gives h.operators h.labels h.reached h.begun in
      ap (code_outcome cx (at_start type)) h.begins ∙ code_past cx h.operators h.encoding (h.other ++ h.rest) (at_start type) b.0 h.spelled b.1
      ∙ code_other cx b.0 (h.other ++ h.rest) b.2 (other_stands h.other h.rest h.is_other)
