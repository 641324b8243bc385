-- Ties the results of validating bytes to the rules on bodies.
use Rattle.std.proofs.Common.{◌≡◌, ◌≤◌, ◌-◌, inl, inr, ℕ, Bool, true, List, length, map, Some, Result, Ok, Err, sym, ap, subst, ◌∙◌, arith}
use Rattle.std.specs.Result.{is_err}
use Rattle.wasm_bodies.specs.Bodies.{parameter}
use Rattle.wasm_bodies.specs.BodyContext.{Local, ModuleItems, func_at}
use Rattle.wasm_bodies_laws.specs.Machine.{Machine}
use Rattle.wasm_core_types.specs.declared.limits.Limit.{Limit}
use Rattle.wasm_core_types.specs.declared.limits.Limit.TheVariants as core
use Rattle.wasm_core_read.specs.Input.{Input}
use Rattle.wasm_spec.specs.Bytes.{AreBytes}
use Rattle.wasm_spec.specs.Features.{Features}
use Rattle.wasm_spec.specs.Types.{FuncType}
use Rattle.wasmparser_bodies.specs.BodyAnswers.{AnswersOutcome, HasManyTypes, HasRightFront, IsBodyValidated, StandsAtItem, StandsAtRun, left_at}
use Rattle.wasmparser_bodies.specs.BodyStates.{BodyState, IsAtStart, StopsInRest, rest_outcome}
use Rattle.wasmparser_bodies.specs.CodeReading.{BodyOutcome}
use Rattle.wasmparser_bodies.specs.Fronts.{StopsInRuns, StopsInBody}
use Rattle.wasmparser_bodies.specs.LocalsAnswers.{NamesLocalsFault, ReadsLocals}
use Rattle.wasmparser_bodies.specs.LocalsReading.{Locals, LocalsOutcome, locals_outcome}
use Rattle.wasmparser_bodies.proofs.AnswerLaws.{answered_further, left_within}
use Rattle.wasmparser_bodies.proofs.BodyLaws as bodies
use Rattle.wasmparser_bodies.proofs.BodySteps.{from_start, so_far_from_start}
use Rattle.wasmparser_bodies.proofs.FrontLaws.{right_in_locals}
use Rattle.wasmparser_bodies.proofs.LocalsMeaning.{locals_again, locals_found, past_again, past_found}
use Rattle.wasmparser_error.specs.declared.error.Error.{Error}
use Rattle.wasmparser_error.specs.declared.error.ErrorKind.{ErrorKind}
use Rattle.wasmparser_error.specs.declared.error.ErrorKind.TheVariants as kinds
use Rattle.wasmparser_types.specs.Index.{Index, packable}
use Rattle.wasmparser_func_validator.specs.FromBytes.{IsLocalsRefusal, ReadsDeclared, state_of}

-- ---- under other features

pub answered : (unpacked : Type 0) (so_far : ℕ → Type 0) (body : Input) (features : Features) (answer : Result (Unit {0}) Error) (outcome : BodyOutcome)
    → AnswersOutcome unpacked so_far (record body { features = features }) answer outcome → AnswersOutcome unpacked so_far body answer outcome
answered unpacked so_far body features (Ok x) outcome h = h
answered unpacked so_far body features (Err e) outcome h = (h.0, record { from = h.1.from; to = h.1.to })

-- ---- where memory runs out

module _ (features : Features) (items : ModuleItems Index) (type : FuncType Index) (index : ℕ) (locals : List (Local Index)) (m : Machine Index) (failed : Bool) where
  -- in locals alone
  pub right_locals : (new : BodyState) (from to : Input) (answer : Result (Unit {0}) Error) → AreBytes from.rest → locals ≡ map parameter type.params → ReadsLocals (state_of features items index locals m failed) new from to answer
      → HasRightFront features items type StandsAtRun from.rest from.position answer
  right_locals new from to (Ok x) are params h = tt
  right_locals new from to (Err e) are params h = λ memory.
      let at = left_within from e.offset h.1 in
      let stops = subst (λ k. NamesLocalsFault (HasManyTypes items) (StopsInRuns features items locals from.rest (left_at from e.offset)) k (locals_outcome features items locals from.rest)) memory h.0 in
      right_in_locals features items type from.rest (left_at from e.offset) (e.offset - from.position) are at (subst (λ l. StopsInRuns features items l from.rest (left_at from e.offset)) params stops)

  -- in a whole body
  pub right_body : (body : Input) (answer : Result (Unit {0}) Error) → AreBytes body.rest → IsAtStart (state_of features items index locals m failed) → func_at items index ≡ Some type
      → AnswersOutcome (HasManyTypes items) (StopsInRest (state_of features items index locals m failed) body.rest) body answer (rest_outcome (state_of features items index locals m failed) body.rest)
      → HasRightFront features items type (StandsAtItem features) body.rest body.position answer
  right_body body answer are start named h =
      let state = state_of features items index locals m failed in
      let so_far = StopsInBody features items index body.rest in
      bodies.right_so_far features items index type named body answer are (subst (AnswersOutcome (HasManyTypes items) so_far body answer) (from_start state body.rest start)
      (answered_further (HasManyTypes items) (HasManyTypes items) (StopsInRest state body.rest) so_far body answer (rest_outcome state body.rest) (λ many. many) (λ left s. so_far_from_start state body.rest left start s) h))

module _ (features : Features) (items : ModuleItems Index) (type : FuncType Index) (few : length items.types ≤ packable) where
  none_unpacked : ¬ (HasManyTypes items)
  none_unpacked many = absurd (omega (arith, few, many))

  -- ---- locals

  module _ (so_far : Type 0) (bytes : List ℕ) (are : AreBytes bytes) where
    abbrev outcome : LocalsOutcome Index
    outcome = locals_outcome features items (map parameter type.params) bytes

    limit_fault : (limit : Limit) → NamesLocalsFault (HasManyTypes items) so_far (kinds.Limit limit) outcome → IsLocalsRefusal features items type bytes (kinds.Limit limit)
    limit_fault core.Locals h = past_found features items type bytes are h
    limit_fault _ h = absurd h

    fault : (kind : ErrorKind) → NamesLocalsFault (HasManyTypes items) so_far kind outcome → IsLocalsRefusal features items type bytes kind
    fault kinds.Body (inr many) = absurd (none_unpacked many)
    fault kinds.Body (inl h) = (
      λ locals rest d. let f = sym (ap (λ b. locals_outcome features items (map parameter type.params) b) d.begins ∙ locals_again features items type d.encoding rest d.runs d.are) ∙ h in absurd cc,
      λ many. let f = sym (past_again features items type bytes many) ∙ h in absurd cc,
    )
    fault (kinds.Limit limit) h = limit_fault limit h
    fault kinds.Memory h = tt
    fault _ h = absurd h

  pub reads_declared : (index : ℕ) (locals : List (Local Index)) (m : Machine Index) (failed : Bool) (new : BodyState) (from to : Input) (result : Result (Unit {0}) Error) → AreBytes from.rest → locals ≡ map parameter type.params
      → ReadsLocals (state_of features items index locals m failed) new from to result → ReadsDeclared features items type from to new.locals result
  reads_declared index locals m failed new from to (Ok x) are params h =
      locals_found features items type from.rest new.locals to.rest are (subst (λ l. locals_outcome features items l from.rest ≡ Locals new.locals to.rest) params h.0)
  reads_declared index locals m failed new from to (Err e) are params h =
      fault (StopsInRuns features items locals from.rest (left_at from e.offset)) from.rest are e.kind
      (subst (λ l. NamesLocalsFault (HasManyTypes items) (StopsInRuns features items locals from.rest (left_at from e.offset)) e.kind (locals_outcome features items l from.rest)) params h.0)

  -- a refusal says nothing of where the reader stands
  pub refused_anywhere : (from to other : Input) (locals : List (Local Index)) (result : Result (Unit {0}) Error) → is_err result ≡ true → ReadsDeclared features items type from to locals result
      → ReadsDeclared features items type from other locals result
  refused_anywhere from to other locals (Ok x) e h = absurd cc
  refused_anywhere from to other locals (Err x) e h = h

  -- ---- whole bodies

  pub validated : (index : ℕ) (locals : List (Local Index)) (m : Machine Index) (failed : Bool) (body : Input) (answer : Result (Unit {0}) Error) → AreBytes body.rest → IsAtStart (state_of features items index locals m failed)
      → func_at items index ≡ Some type
      → AnswersOutcome (HasManyTypes items) (StopsInRest (state_of features items index locals m failed) body.rest) body answer (rest_outcome (state_of features items index locals m failed) body.rest)
      → IsBodyValidated features items type body.rest body.position answer
  validated index locals m failed body answer are start named h =
      let state = state_of features items index locals m failed in
      let so_far = StopsInRest state body.rest in
      let all = answered_further (HasManyTypes items) ⊥ so_far so_far body answer (rest_outcome state body.rest) none_unpacked (λ left s. s) h in
      bodies.validated features items index type named so_far body answer are (subst (AnswersOutcome ⊥ so_far body answer) (from_start state body.rest start) all)
