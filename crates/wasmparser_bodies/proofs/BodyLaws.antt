-- The meaning of an outcome of bytes, and of an answer that is this outcome.
use Rattle.std.proofs.Common.{◌≡◌, ◌≢◌, ◌⊎◌, inl, inr, ℕ, ◌-◌, List, [], ◌++◌, map, Some, Result, Ok, Err, refl, sym, ap, subst, ◌∙◌}
use Rattle.std.specs.Option.{unwrap_or}
use Rattle.wasm_bodies.specs.Bodies.{Run, IsFunctionBody, HasManyLocals, HasOtherOperator, in_function, parameter, AreLocals}
use Rattle.wasm_bodies.specs.BodyContext.{ModuleItems, Local, func_at}
use Rattle.wasm_bodies.specs.Signatures.{from_to}
use Rattle.wasm_bodies_laws.specs.Machine.{at_start}
use Rattle.wasm_core_types.specs.declared.limits.Limit.{Limit}
use Rattle.wasm_core_types.specs.declared.limits.Limit.TheVariants as core
use Rattle.wasm_core_read.specs.Input.{Input, IsWithin}
use Rattle.wasm_core_read.proofs.Forms.{rest_bytes}
use Rattle.wasm_spec.specs.Bytes.{AreBytes}
use Rattle.wasm_spec.specs.Features.{Features}
use Rattle.wasm_spec.specs.Types.{FuncType}
use Rattle.wasmparser_error.specs.declared.error.Error.{Error}
use Rattle.wasmparser_error.specs.declared.error.ErrorKind.{ErrorKind}
use Rattle.wasmparser_error.specs.declared.error.ErrorKind.TheVariants as kinds
use Rattle.wasmparser_bodies.specs.BodyAnswers.{context_of, with_code, typed_outcome, body_outcome, NamesFault, AnswersOutcome, IsBodyValidated, HasManyTypes, HasRightFront, IsRightUpTo, StandsAtItem, left_at}
use Rattle.wasmparser_bodies.specs.CodeReading.{BodyOutcome, Fine, ManyLocals, OtherOperator, Broken, code_outcome, IsCode, HasOther}
use Rattle.wasmparser_bodies.specs.Fronts.{StopsIn, StopsInBody}
use Rattle.wasmparser_bodies.specs.LocalsReading.{LocalsOutcome, Locals, TooMany, NoLocals, locals_outcome, Declares}
use Rattle.wasmparser_bodies.proofs.CodeMeaning.{is_code, fine_code, has_other, other_code, code_few}
use Rattle.wasmparser_bodies.proofs.AnswerLaws.{left_within}
use Rattle.wasmparser_bodies.proofs.FrontLaws.{at_any_item, right_in_code, right_in_locals}
use Rattle.wasmparser_bodies.proofs.LocalsMeaning.{locals_found, locals_again, past_found, past_again}

module _ {R : Type 0} (features : Features) (items : ModuleItems R) (index : ℕ) (type : FuncType R) (named : func_at items index ≡ Some type) where
  abbrev code_after : List (Local R) → List ℕ → BodyOutcome
  code_after locals rest = code_outcome (context_of features items type locals) (at_start index) rest

  typed : (bytes : List ℕ) → body_outcome features items index bytes ≡ typed_outcome features items index type bytes
  unfolding body_outcome
  typed bytes = ap (λ o. typed_outcome features items index (unwrap_or o (from_to [] [])) bytes) named

  -- ---- after locals

  past_locals : (encoding rest bytes : List ℕ) (runs : List Run) → bytes ≡ encoding ++ rest → AreLocals features items type encoding runs
      → typed_outcome features items index type bytes ≡ code_outcome (in_function features items type runs) (at_start index) rest
  past_locals encoding rest bytes runs e are =
      ap (λ (l : List ℕ). with_code (locals_outcome features items (map parameter type.params) l) code_after) e
      ∙ ap (λ o. with_code o code_after) (locals_again features items type encoding rest runs are)

  -- where the outcome is that of the code
  record Coded (bytes : List ℕ) (outcome : BodyOutcome) : Type 0 where
    locals : List (Local R)
    rest : List ℕ
    are : locals_outcome features items (map parameter type.params) bytes ≡ Locals locals rest
    code : code_outcome (context_of features items type locals) (at_start index) rest ≡ outcome

  coded : (bytes : List ℕ) (outcome : BodyOutcome) → outcome ≢ Broken → outcome ≢ ManyLocals → typed_outcome features items index type bytes ≡ outcome → Coded bytes outcome
  coded bytes outcome nb nm e = by_locals (locals_outcome features items (map parameter type.params) bytes) refl e
    where
      by_locals : (o : LocalsOutcome R) → locals_outcome features items (map parameter type.params) bytes ≡ o → with_code o code_after ≡ outcome → Coded bytes outcome
      by_locals (Locals locals rest) l f = record { locals = locals; rest = rest; are = l; code = f }
      by_locals TooMany l f = absurd (nm (sym f))
      by_locals NoLocals l f = absurd (nb (sym f))

  -- ---- bodies

  over_runs : (bytes : List ℕ) (outcome : BodyOutcome) (c : Coded bytes outcome) (d : Declares features items type bytes c.locals c.rest)
      → code_outcome (in_function features items type d.runs) (at_start index) c.rest ≡ outcome
  over_runs bytes outcome c d = ap (λ l. code_outcome (context_of features items type l) (at_start index) c.rest) (sym d.declares) ∙ c.code

  body_of : (bytes encoding rest : List ℕ) (runs : List Run) → bytes ≡ encoding ++ rest → AreLocals features items type encoding runs → IsCode (in_function features items type runs) rest
      → IsFunctionBody features items type bytes
  body_of bytes encoding rest runs begins are k = record {
    runs = runs;
    operators = k.operators;
    locals_encoding = encoding;
    code_encoding = rest;
    begins = begins;
    locals = are;
    spelled = k.spelled;
    typed = k.typed;
  }

  pub body_found : (bytes : List ℕ) → AreBytes bytes → body_outcome features items index bytes ≡ Fine → IsFunctionBody features items type bytes
  body_found bytes are e =
      let c = coded bytes Fine (λ x. absurd cc) (λ x. absurd cc) (sym (typed bytes) ∙ e) in
      let d = locals_found features items type bytes c.locals c.rest are c.are in
      body_of bytes d.encoding c.rest d.runs d.begins d.are
      (is_code (in_function features items type d.runs) index type named refl c.rest (rest_bytes bytes d.encoding c.rest are d.begins) (over_runs bytes Fine c d))

  pub body_again : (bytes : List ℕ) → IsFunctionBody features items type bytes → body_outcome features items index bytes ≡ Fine
  body_again bytes b =
      typed bytes ∙ past_locals b.locals_encoding b.code_encoding bytes b.runs b.begins b.locals
      ∙ fine_code (in_function features items type b.runs) index type named refl b.code_encoding (record { operators = b.operators; spelled = b.spelled; typed = b.typed })

  other_of : (bytes encoding rest : List ℕ) (runs : List Run) → bytes ≡ encoding ++ rest → AreLocals features items type encoding runs → HasOther (in_function features items type runs) rest
      → HasOtherOperator features items type bytes
  other_of bytes encoding rest runs begins are h = record {
    runs = runs;
    operators = h.operators;
    labels = h.labels;
    reached = h.reached;
    other = h.other;
    locals_encoding = encoding;
    code_encoding = h.encoding;
    rest = h.rest;
    begins = begins ∙ ap (λ (l : List ℕ). encoding ++ l) h.begins;
    locals = are;
    spelled = h.spelled;
    begun = h.begun;
    is_other = h.is_other;
  }

  pub operator_found : (bytes : List ℕ) → AreBytes bytes → body_outcome features items index bytes ≡ OtherOperator → HasOtherOperator features items type bytes
  operator_found bytes are e =
      let c = coded bytes OtherOperator (λ x. absurd cc) (λ x. absurd cc) (sym (typed bytes) ∙ e) in
      let d = locals_found features items type bytes c.locals c.rest are c.are in
      other_of bytes d.encoding c.rest d.runs d.begins d.are
      (has_other (in_function features items type d.runs) index type named refl c.rest (rest_bytes bytes d.encoding c.rest are d.begins) (over_runs bytes OtherOperator c d))

  pub operator_again : (bytes : List ℕ) → HasOtherOperator features items type bytes → body_outcome features items index bytes ≡ OtherOperator
  operator_again bytes o =
      typed bytes ∙ past_locals o.locals_encoding (o.code_encoding ++ (o.other ++ o.rest)) bytes o.runs o.begins o.locals
      ∙ other_code (in_function features items type o.runs) index type named refl (o.code_encoding ++ (o.other ++ o.rest))
      (record { operators = o.operators; labels = o.labels; reached = o.reached; encoding = o.code_encoding; other = o.other; rest = o.rest; begins = refl; spelled = o.spelled; begun = o.begun; is_other = o.is_other })

  pub many_found : (bytes : List ℕ) → AreBytes bytes → body_outcome features items index bytes ≡ ManyLocals → HasManyLocals features items type bytes
  many_found bytes are e = by_locals (locals_outcome features items (map parameter type.params) bytes) refl (sym (typed bytes) ∙ e)
    where
      by_locals : (o : LocalsOutcome R) → locals_outcome features items (map parameter type.params) bytes ≡ o → with_code o code_after ≡ ManyLocals → HasManyLocals features items type bytes
      by_locals (Locals locals rest) l f =
          let d = locals_found features items type bytes locals rest are l in
          absurd (code_few (context_of features items type locals) (at_start index) rest (rest_bytes bytes d.encoding rest are d.begins) f)
      by_locals TooMany l f = past_found features items type bytes are l
      by_locals NoLocals l f = absurd cc

  pub many_again : (bytes : List ℕ) → HasManyLocals features items type bytes → body_outcome features items index bytes ≡ ManyLocals
  many_again bytes m = typed bytes ∙ ap (λ o. with_code o code_after) (past_again features items type bytes m)

  pub broken_is : (bytes : List ℕ) → body_outcome features items index bytes ≡ Broken
      → (¬ (IsFunctionBody features items type bytes)) × (¬ (HasManyLocals features items type bytes)) × (¬ (HasOtherOperator features items type bytes))
  broken_is bytes e = (
    (λ fine. let f = sym (body_again bytes fine) ∙ e in absurd cc),
    (λ many. let f = sym (many_again bytes many) ∙ e in absurd cc),
    (λ other. let f = sym (operator_again bytes other) ∙ e in absurd cc),
  )

  pub broken_if : (bytes : List ℕ) → AreBytes bytes → ¬ (IsFunctionBody features items type bytes) → ¬ (HasManyLocals features items type bytes) → ¬ (HasOtherOperator features items type bytes)
      → body_outcome features items index bytes ≡ Broken
  broken_if bytes are no_body few known = by_outcome (body_outcome features items index bytes) refl
    where
      by_outcome : (o : BodyOutcome) → body_outcome features items index bytes ≡ o → body_outcome features items index bytes ≡ Broken
      by_outcome Fine e = absurd (no_body (body_found bytes are e))
      by_outcome ManyLocals e = absurd (few (many_found bytes are e))
      by_outcome OtherOperator e = absurd (known (operator_found bytes are e))
      by_outcome Broken e = e

  -- ---- answers

  abbrev IsBodyKind : ErrorKind → Type 0
  IsBodyKind kind = (kind ≡ kinds.Operator) ⊎ (kind ≡ kinds.Limit core.Locals) ⊎ (kind ≡ kinds.Body) ⊎ (kind ≡ kinds.Memory)

  module _ (so_far : Type 0) (outcome : BodyOutcome) where
    limit_kind : (limit : Limit) → NamesFault ⊥ so_far (kinds.Limit limit) outcome → IsBodyKind (kinds.Limit limit)
    limit_kind core.Locals n = inr (inl refl)
    limit_kind _ n = absurd n

    body_kind : (kind : ErrorKind) → NamesFault ⊥ so_far kind outcome → IsBodyKind kind
    body_kind (kinds.Limit l) n = limit_kind l n
    body_kind kinds.Operator n = inl refl
    body_kind kinds.Body n = inr (inr (inl refl))
    body_kind kinds.Memory n = inr (inr (inr refl))
    body_kind _ n = absurd n

    -- a body is refused only where memory runs out
    fine_limit : (limit : Limit) → outcome ≡ Fine → NamesFault ⊥ so_far (kinds.Limit limit) outcome → ⊥
    fine_limit core.Locals e n = let f = sym n ∙ e in absurd cc
    fine_limit _ e n = absurd n

    fine_fault : (kind : ErrorKind) → outcome ≡ Fine → NamesFault ⊥ so_far kind outcome → kind ≡ kinds.Memory
    fine_fault (kinds.Limit l) e n = absurd (fine_limit l e n)
    fine_fault kinds.Operator e n = let f = sym n ∙ e in absurd cc
    fine_fault kinds.Body e (inl n) = let f = sym n ∙ e in absurd cc
    fine_fault kinds.Body e (inr n) = absurd n
    fine_fault kinds.Memory e n = refl
    fine_fault _ e n = absurd n

    broken_alone : NamesFault ⊥ so_far kinds.Body outcome → outcome ≡ Broken
    broken_alone (inl n) = n
    broken_alone (inr n) = absurd n

  -- where memory ran out, the bytes are right so far
  right_up_to : (body : Input) (place : ℕ) → AreBytes body.rest → IsWithin body place → StopsInBody features items index body.rest (left_at body place)
      → IsRightUpTo features items type (StandsAtItem features) body.rest (place - body.position)
  right_up_to body place are w h =
      let at = left_within body place w in
      let s = subst (λ o. StopsIn features items (unwrap_or o (from_to [] [])) (map parameter (unwrap_or o (from_to [] [])).params) (at_start index) body.rest (left_at body place)) named h in
      elim s [
        | inl locals ↦ at_any_item features items type body.rest (place - body.position) (right_in_locals features items type body.rest (left_at body place) (place - body.position) are at locals)
        | inr code ↦ right_in_code features items type index named body.rest (left_at body place) (place - body.position) are at code
      ]

  pub right_so_far : (body : Input) (answer : Result (Unit {0}) Error) → AreBytes body.rest
      → AnswersOutcome (HasManyTypes items) (StopsInBody features items index body.rest) body answer (body_outcome features items index body.rest)
      → HasRightFront features items type (StandsAtItem features) body.rest body.position answer
  right_so_far body (Ok x) are h = tt
  right_so_far body (Err e) are h = λ k.
      right_up_to body e.offset are h.1
      (subst (λ k. NamesFault (HasManyTypes items) (StopsInBody features items index body.rest (left_at body e.offset)) k (body_outcome features items index body.rest)) k h.0)

  pub validated : (so_far : ℕ → Type 0) (body : Input) (answer : Result (Unit {0}) Error) → AreBytes body.rest → AnswersOutcome ⊥ so_far body answer (body_outcome features items index body.rest)
      → IsBodyValidated features items type body.rest body.position answer
  validated so_far body (Ok x) are h = record {
    right = body_found body.rest are h;
    complete = tt;
    operator = tt;
    limit = tt;
    broken = tt;
    others = tt;
    from = tt;
    to = tt;
  }
  validated so_far body (Err e) are h =
      let outcome = body_outcome features items index body.rest in
      let here = so_far (left_at body e.offset) in
      let at : (kind : ErrorKind) → e.kind ≡ kind → NamesFault ⊥ here kind outcome = λ kind k. subst (λ k. NamesFault ⊥ here k outcome) k h.0 in
      record {
        right = tt;
        complete = λ b. fine_fault here outcome e.kind (body_again body.rest b) h.0;
        operator = λ k. operator_found body.rest are (at kinds.Operator k);
        limit = λ k. many_found body.rest are (at (kinds.Limit core.Locals) k);
        broken = λ k. broken_is body.rest (broken_alone here outcome (at kinds.Body k));
        others = body_kind here outcome e.kind h.0;
        from = h.1.from;
        to = h.1.to;
      }
