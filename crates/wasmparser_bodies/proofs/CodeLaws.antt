-- Validating the operators of a body one by one, as a loop does.
use Rattle.std.proofs.Common.{◌≡◌, ◌≢◌, ◌≤◌, ◌<◌, ℕ, zero, suc, true, false, List, [], ◌∷◌, length, Option, Some, None, refl, sym, ap, ◌∙◌, arith}
use Rattle.std.proofs.lemmas.Option.{none-some}
use Rattle.wasm_bodies.specs.BodyContext.{BodyContext}
use Rattle.wasm_bodies.specs.Operators.{Operator}
use Rattle.wasm_bodies_laws.specs.Machine.{Frame, Machine, stepped}
use Rattle.wasm_bodies_laws.proofs.Whole.{none_after_end}
use Rattle.wasm_spec.specs.Features.{Features}
use Rattle.wasmparser_types.specs.Index.{packable}
use Rattle.wasmparser_readers.specs.Answers.{HasLargeIndex}
use Rattle.wasmparser_operators.specs.OperatorAnswers.{is_other}
use Rattle.wasmparser_operators.specs.OperatorReading.{code_at, kept_operator_at, operator_at, packed_indexes}
use Rattle.wasmparser_bodies.specs.CodeReading.{BodyOutcome, OtherOperator, Broken, end_outcome, unread_outcome, with_step, with_operator, where_open, code_within, code_outcome}
use Rattle.wasmparser_bodies.proofs.LargeIndexes.{large_refused}
use Rattle.wasmparser_bodies.proofs.NoOperators.{other_unread}
use Rattle.wasmparser_bodies.proofs.OperatorLengths.{operator_shorter}

none_in_nothing : (features : Features) → operator_at features [] ≡ None
unfolding kept_operator_at code_at
none_in_nothing features = refl

opens_some : {R : Type 0} (frames : List (Frame R)) (bytes : List ℕ) (next : BodyOutcome) → frames ≢ [] → where_open frames bytes next ≡ next
opens_some [] bytes next some = absurd (some refl)
opens_some (f ∷ frames) bytes next some = refl

module _ {R : Type 0} (cx : BodyContext R) where
  -- ---- whatever the bound

  abbrev Others : Type 0
  Others = Machine R → List ℕ → BodyOutcome

  same_step : (o : Option (Machine R)) (f g : Machine R → BodyOutcome) → ((n : Machine R) → f n ≡ g n) → with_step o f ≡ with_step o g
  same_step None f g same = refl
  same_step (Some n) f g same = same n

  same_next : (m : Machine R) (bytes : List ℕ) (f g : Others) → ((n : Machine R) (rest : List ℕ) → length rest < length bytes → f n rest ≡ g n rest)
      → with_operator cx m bytes (operator_at cx.features bytes) f ≡ with_operator cx m bytes (operator_at cx.features bytes) g
  same_next m bytes f g same = by_read (operator_at cx.features bytes) refl
    where
      by_read : (read : Option (Operator ℕ × List ℕ)) → operator_at cx.features bytes ≡ read → with_operator cx m bytes read f ≡ with_operator cx m bytes read g
      by_read None e = refl
      by_read (Some x) e = same_step (stepped cx m x.0) (λ n. f n x.1) (λ n. g n x.1) (λ n. same n x.1 (operator_shorter cx.features bytes x.0 x.1 e))

  same_within : (n k : ℕ) (m : Machine R) (bytes : List ℕ) → length bytes ≤ n → length bytes ≤ k → code_within cx n m bytes ≡ code_within cx k m bytes
  unfolding code_within
  same_within zero zero m bytes a b = refl
  same_within zero (suc k) m [] a b = rw (none_in_nothing cx.features) refl
  same_within zero (suc k) m (x ∷ xs) a b = absurd (omega (arith, a))
  same_within (suc n) zero m [] a b = rw (none_in_nothing cx.features) refl
  same_within (suc n) zero m (x ∷ xs) a b = absurd (omega (arith, b))
  same_within (suc n) (suc k) m bytes a b =
      ap (where_open m.frames bytes) (same_next m bytes (λ next rest. code_within cx n next rest) (λ next rest. code_within cx k next rest)
      (λ next rest lt. same_within n k next rest (omega (arith, a, lt)) (omega (arith, b, lt))))

  abbrev goes_with : Machine R → List ℕ → BodyOutcome
  goes_with m bytes = with_operator cx m bytes (operator_at cx.features bytes) (λ n rest. code_outcome cx n rest)

  unfolded : (n : ℕ) (m : Machine R) (bytes : List ℕ) → length bytes ≤ n → code_within cx n m bytes ≡ where_open m.frames bytes (goes_with m bytes)
  unfolding code_within code_outcome
  unfolded zero m [] a = rw (none_in_nothing cx.features) refl
  unfolded zero m (x ∷ xs) a = absurd (omega (arith, a))
  unfolded (suc n) m bytes a =
      ap (where_open m.frames bytes) (same_next m bytes (λ next rest. code_within cx n next rest) (λ next rest. code_outcome cx next rest)
      (λ next rest lt. same_within n (length rest) next rest (omega (arith, a, lt)) (omega arith)))

  pub code_unfolds : (m : Machine R) (bytes : List ℕ) → code_outcome cx m bytes ≡ where_open m.frames bytes (goes_with m bytes)
  unfolding code_outcome
  code_unfolds m bytes = unfolded (length bytes) m bytes (omega arith)

  -- ---- at the body's end, and within it

  pub code_closed : (m : Machine R) (bytes : List ℕ) → m.frames ≡ [] → code_outcome cx m bytes ≡ end_outcome bytes
  code_closed m bytes e = code_unfolds m bytes ∙ ap (λ frames. where_open frames bytes (goes_with m bytes)) e

  within_blocks : (m : Machine R) (bytes : List ℕ) → m.frames ≢ [] → code_outcome cx m bytes ≡ goes_with m bytes
  within_blocks m bytes some = code_unfolds m bytes ∙ opens_some m.frames bytes (goes_with m bytes) some

  pub code_unread : (m : Machine R) (bytes : List ℕ) → m.frames ≢ [] → operator_at cx.features bytes ≡ None → code_outcome cx m bytes ≡ unread_outcome bytes
  code_unread m bytes some e = within_blocks m bytes some ∙ rw e refl

  pub code_other : (m : Machine R) (bytes : List ℕ) → m.frames ≢ [] → is_other (code_at bytes) ≡ true → code_outcome cx m bytes ≡ OtherOperator
  code_other m bytes some o = code_unread m bytes some (other_unread cx.features bytes o) ∙ rw o refl

  pub code_nothing : (m : Machine R) (bytes : List ℕ) → m.frames ≢ [] → operator_at cx.features bytes ≡ None → is_other (code_at bytes) ≡ false → code_outcome cx m bytes ≡ Broken
  code_nothing m bytes some e o = code_unread m bytes some e ∙ rw o refl

  pub code_refused : (m : Machine R) (bytes : List ℕ) (operator : Operator ℕ) (rest : List ℕ) → m.frames ≢ [] → operator_at cx.features bytes ≡ Some (operator, rest) → stepped cx m operator ≡ None
      → code_outcome cx m bytes ≡ Broken
  code_refused m bytes operator rest some e none = within_blocks m bytes some ∙ rw (e, none) refl

  is_open : (m n : Machine R) (operator : Operator ℕ) → stepped cx m operator ≡ Some n → m.frames ≢ []
  is_open m n operator e none = none-some n (sym (none_after_end cx m operator none) ∙ e)

  pub code_goes_on : (m n : Machine R) (bytes : List ℕ) (operator : Operator ℕ) (rest : List ℕ) → operator_at cx.features bytes ≡ Some (operator, rest) → stepped cx m operator ≡ Some n
      → code_outcome cx m bytes ≡ code_outcome cx n rest
  code_goes_on m n bytes operator rest e step = within_blocks m bytes (is_open m n operator step) ∙ rw (e, step) refl

  -- an operator reads that has a value type whose index is too large to be packed
  pub code_large : (m : Machine R) (bytes : List ℕ) → m.frames ≢ [] → length cx.items.types ≤ packable → HasLargeIndex packed_indexes (operator_at cx.features bytes) → code_outcome cx m bytes ≡ Broken
  code_large m bytes some few large = within_blocks m bytes some ∙ by_read (operator_at cx.features bytes) large
    where
      by_read : (read : Option (Operator ℕ × List ℕ)) → HasLargeIndex packed_indexes read → with_operator cx m bytes read (λ n rest. code_outcome cx n rest) ≡ Broken
      by_read None l = absurd l
      by_read (Some x) l = rw (large_refused cx few m x.0 l) refl
