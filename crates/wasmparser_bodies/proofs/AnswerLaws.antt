-- The results of calls that read and validate, from those of the calls in them.
use Rattle.std.proofs.Common.{◌≡◌, ◌≢◌, ◌<◌, ◌-◌, ℕ, ◌+◌, List, [], ◌∷◌, length, Result, Ok, Err, refl, sym, ap, subst, ◌∙◌, arith, inl, inr}
use Rattle.std.proofs.lemmas.Bool.{cases_lt}
use Rattle.std.proofs.lemmas.List.{nil_from_length}
use Rattle.wasm_bodies.specs.BodyContext.{BodyContext}
use Rattle.wasm_bodies_laws.specs.Machine.{Machine}
use Rattle.wasm_core_types.specs.declared.limits.Limit.{Limit}
use Rattle.wasm_core_types.specs.declared.limits.Limit.TheVariants as core
use Rattle.wasm_core_read.specs.Input.{Input, GoesOn, IsWithin}
use Rattle.wasm_spec.specs.Features.{Features}
use Rattle.wasmparser_error.specs.declared.error.Error.{Error}
use Rattle.wasmparser_error.specs.declared.error.ErrorKind.{ErrorKind}
use Rattle.wasmparser_error.specs.declared.error.ErrorKind.TheVariants as kinds
use Rattle.wasmparser_types.specs.Index.{packable}
use Rattle.wasmparser_operators.specs.OperatorAnswers.{IsOperatorRefusal}
use Rattle.wasmparser_bodies.specs.BodyAnswers.{HasManyTypes, NamesFault, AnswersOutcome, left_at}
use Rattle.wasmparser_bodies.specs.CodeReading.{BodyOutcome, Fine, Broken, end_outcome, code_outcome}
use Rattle.wasmparser_bodies.proofs.CodeLaws.{code_closed, code_large, code_nothing, code_other}

-- ---- places

pub placed_later : (old mid : Input) (offset : ℕ) → GoesOn old mid → IsWithin mid offset → IsWithin old offset
placed_later old mid offset g p = record { from = omega (arith, g.forward, p.from); to = omega (arith, g.same_end, p.to) }

pub left_here : (old : Input) (place offset : ℕ) → place ≡ offset → offset ≡ old.position → left_at old place ≡ length old.rest
left_here old place offset a o = omega (arith, a, o)

pub left_later : (old mid : Input) (place : ℕ) → GoesOn old mid → left_at mid place ≡ left_at old place
left_later old mid place g = ap (λ n. n - place) g.same_end

-- the place from the start, and what is left from it on
pub left_within : (old : Input) (place : ℕ) → IsWithin old place → place - old.position + left_at old place ≡ length old.rest
left_within old place w = omega (arith, w.from, w.to)

-- the fault of what was left is that of all
pub fault_later : (unpacked all_unpacked so_far all_so_far : Type 0) (kind : ErrorKind) (outcome all : BodyOutcome) → outcome ≡ all → (unpacked → all_unpacked) → (so_far → all_so_far)
    → NamesFault unpacked so_far kind outcome → NamesFault all_unpacked all_so_far kind all
fault_later unpacked all_unpacked so_far all_so_far kinds.Body outcome all same named further (inl h) = inl (sym same ∙ h)
fault_later unpacked all_unpacked so_far all_so_far kinds.Body outcome all same named further (inr h) = inr (named h)
fault_later unpacked all_unpacked so_far all_so_far kinds.Operator outcome all same named further h = sym same ∙ h
fault_later unpacked all_unpacked so_far all_so_far (kinds.Limit limit) outcome all same named further h = by_limit limit h
  where
    by_limit : (limit : Limit) → NamesFault unpacked so_far (kinds.Limit limit) outcome → NamesFault all_unpacked all_so_far (kinds.Limit limit) all
    by_limit core.Locals f = sym same ∙ f
    by_limit _ f = absurd f
fault_later unpacked all_unpacked so_far all_so_far kinds.Memory outcome all same named further h = further h
fault_later unpacked all_unpacked so_far all_so_far _ outcome all same named further h = absurd h

-- a call validated what was left, whose outcome is that of all
pub answered_later : {X : Type 0} (unpacked : Type 0) (so_far all_so_far : ℕ → Type 0) (old mid : Input) (answer : Result X Error) (outcome all : BodyOutcome) → GoesOn old mid → outcome ≡ all
    → ((left : ℕ) → so_far left → all_so_far left) → AnswersOutcome unpacked so_far mid answer outcome → AnswersOutcome unpacked all_so_far old answer all
answered_later unpacked so_far all_so_far old mid (Ok x) outcome all g same further h = sym same ∙ h
answered_later unpacked so_far all_so_far old mid (Err e) outcome all g same further h = (
  fault_later unpacked unpacked (so_far (left_at mid e.offset)) (all_so_far (left_at old e.offset)) e.kind outcome all same (λ u. u)
      (λ s. subst all_so_far (left_later old mid e.offset g) (further (left_at mid e.offset) s)) h.0,
  placed_later old mid e.offset g h.1,
)

-- more is known of the same bytes
pub answered_further : {X : Type 0} (unpacked all_unpacked : Type 0) (so_far all_so_far : ℕ → Type 0) (old : Input) (answer : Result X Error) (outcome : BodyOutcome) → (unpacked → all_unpacked)
    → ((left : ℕ) → so_far left → all_so_far left) → AnswersOutcome unpacked so_far old answer outcome → AnswersOutcome all_unpacked all_so_far old answer outcome
answered_further unpacked all_unpacked so_far all_so_far old (Ok x) outcome named further h = h
answered_further unpacked all_unpacked so_far all_so_far old (Err e) outcome named further h =
    (fault_later unpacked all_unpacked (so_far (left_at old e.offset)) (all_so_far (left_at old e.offset)) e.kind outcome outcome refl named (further (left_at old e.offset)) h.0, h.1)

module _ {R : Type 0} (cx : BodyContext R) where
  -- ---- the body's end

  pub fine_at_end : (m : Machine R) (bytes : List ℕ) → m.frames ≡ [] → length bytes ≡ 0 → code_outcome cx m bytes ≡ Fine
  fine_at_end m bytes closed none = code_closed cx m bytes closed ∙ ap end_outcome (nil_from_length bytes none)

  pub broken_past_end : (m : Machine R) (bytes : List ℕ) → m.frames ≡ [] → 0 < length bytes → code_outcome cx m bytes ≡ Broken
  broken_past_end m bytes closed some = code_closed cx m bytes closed ∙ follows bytes some
    where
      follows : (rest : List ℕ) → 0 < length rest → end_outcome rest ≡ Broken
      follows [] lt = absurd (omega (arith, lt))
      follows (b ∷ rest) lt = refl

  -- ---- operators that don't read

  unread_kind : (so_far : Type 0) (m : Machine R) (bytes : List ℕ) (kind : ErrorKind) → m.frames ≢ [] → IsOperatorRefusal kind cx.features bytes
      → NamesFault (HasManyTypes cx.items) so_far kind (code_outcome cx m bytes)
  unread_kind so_far m bytes kinds.Operator some h = code_other cx m bytes some h
  unread_kind so_far m bytes kinds.Body some (inl h) = inl (code_nothing cx m bytes some h.0 h.1)
  unread_kind so_far m bytes kinds.Body some (inr h) = elim (cases_lt packable (length cx.items.types)) [ inl many ↦ inr many | inr few ↦ inl (code_large cx m bytes some few h) ]
  unread_kind so_far m bytes _ some h = absurd h

  -- the reader's refusal is the validator's, where blocks are open
  pub unread_operator : (so_far : Type 0) (m : Machine R) (old : Input) (kind : ErrorKind) (offset : ℕ) → m.frames ≢ [] → old.features ≡ cx.features → IsOperatorRefusal kind old.features old.rest
      → IsWithin old offset → NamesFault (HasManyTypes cx.items) so_far kind (code_outcome cx m old.rest) × IsWithin old offset
  unread_operator so_far m old kind offset some same h w =
      (unread_kind so_far m old.rest kind some (subst (λ features. IsOperatorRefusal kind features old.rest) same h), w)
