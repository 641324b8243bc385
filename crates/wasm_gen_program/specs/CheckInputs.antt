-- Validating many inputs one after the other.
use Rattle.std.specs.Prelude.{◌≡◌, ◌≢◌, ◌≤◌, ◌⊎◌, ◌+◌, if◌then◌else◌, ℕ, List, [], ◌∷◌, ◌++◌, length, slice_get, take, Bool, true, false, Option, Some, None, Result, Ok, Err, Vec, IfErr, IfOk, OnErr}
use Rattle.wasm_gen_sessions.specs.History.{History}
use Rattle.wasm_gen_program.specs.Device.{FailsWrite, SinkView, SourceView, WritesOn}
use Rattle.wasm_gen_program.specs.Explanation.{answer_of}
use Rattle.wasm_gen_program.specs.Input.{ReadsInput, WritesOutput}
use Rattle.wasm_gen_program.specs.Inputs.{AddsEvents, Event, opened, told_of}
use Rattle.wasm_gen_program.specs.Run.{WritesExplained, WritesFront}
use Rattle.wasm_gen_program.specs.Verdict.{IsLine}
use Rattle.wasm_spec.specs.Features.{default_features}
use Rattle.wasm_gen_program.specs.declared.error.RunError.{RunError}
use Rattle.wasm_gen_program.specs.declared.error.RunError.TheVariants.{Memory, Read, TooLong, Write}
use Rattle.wasm_gen_program.specs.declared.explanation.Checked.{Checked}
use Rattle.wasm_gen_program.specs.declared.status.Outcome.{Outcome}
use Rattle.wasm_gen_program.specs.declared.status.Outcome.TheVariants.{Yes, No, Fault}

-- the session that the program begins with: under the default features
abbrev pub beginning : History
beginning = record { features = default_features; id = 0; has_failed = false; held = [] }

-- how a run on an input ended
abbrev pub outcome : Result Bool RunError → Outcome
outcome (Ok true) = Yes
outcome (Ok false) = No
outcome (Err _) = Fault

-- the run ends by this answer: a failed write ends it, and no other fault
abbrev pub ends_run : Result Bool RunError → Bool
ends_run (Err Write) = true
ends_run _ = false

-- another validator of this name, under the same features
abbrev pub restarted : History → ℕ → History
restarted session next = record { features = session.features; id = next; has_failed = false; held = [] }

-- a validator that has failed is followed by another one
abbrev pub going_on : History → ℕ → History
going_on session next = if session.has_failed then restarted session next else session

-- the line of the session's verdict on what was read is written, and nothing else, and the verdict is explained, if that is asked for; then the session goes on
abbrev pub WritesLine : Bool → History → ℕ → History → SourceView → SourceView → SinkView → SinkView → Checked → Type 0
WritesLine asked old next new unread left before after checked =
    (validated : History) × WritesExplained asked old validated unread.remaining left.remaining before.contents after.contents checked × (new ≡ going_on validated next)

-- a front of the line of its verdict is written, and nothing else
abbrev pub BreaksLine : History → SourceView → SourceView → SinkView → SinkView → Type 0
BreaksLine old unread left before after = (validated : History) × WritesFront IsLine old validated unread.remaining left.remaining before.contents after.contents

-- an input is validated, the line of its verdict is written, and unless that failed, the session goes on
pub record ValidatesNext (asked : Bool) (old : History) (next : ℕ) (new : History) (unread left : SourceView) (before after : SinkView) (result : Result Checked RunError) : Type 0 where
  pub validated : IfOk result (WritesLine asked old next new unread left before after)
  pub front : IfErr result (λ e. e ≡ Write → BreaksLine old unread left before after)
  pub ready : result ≢ Err Write → new.has_failed ≡ false
  -- after a fault the session is as it was, or, where memory ran out, another validator of the name that was handed in
  pub kept : IfErr result (λ e. (e ≡ Read) ⊎ (e ≡ TooLong) → new ≡ old)
  pub memory : IfErr result (λ e. e ≡ Memory → new ≡ restarted old next)
  -- these are all the refusals
  pub kinds : IfErr result (λ e. (e ≡ Read) ⊎ (e ≡ TooLong) ⊎ (e ≡ Memory) ⊎ (e ≡ Write))
  pub input : ReadsInput unread left result
  pub output : WritesOutput before after result

-- The result of opening an input. One that was not is a fault, after which all is as it was.
abbrev pub EndsInput : Bool → Option SourceView → Result Checked RunError → History → ℕ → History → SinkView → SinkView → Type 0
EndsInput asked None checked old next new before after = (checked ≡ Err Read) × (new ≡ old) × (after ≡ before)
EndsInput asked (Some unread) checked old next new before after = (left : SourceView) × ValidatesNext asked old next new unread left before after checked

-- how far a run has come: by the session that validates the next input, what the sink holds, and what was done with inputs
pub record Progress : Type 0 where
  pub session : History
  pub sink : SinkView
  pub events : Option (List Event)

-- where a run begins, with this sink and these inputs
abbrev pub starting : SinkView → Option (List Event) → Progress
starting sink events = record { session = beginning; sink = sink; events = events }

-- the input of this name was opened, came to this result, and its fault was reported, or the explanation of a no, if there is one; a validator that had failed is
-- followed by one of the name `next`
pub record ChecksNamed (asked : Bool) (name : List ℕ) (next : ℕ) (old new : Progress) (answer : Result Bool RunError) : Type 0 where
  pub found : Option SourceView
  pub checked : Result Checked RunError
  pub ended : EndsInput asked found checked old.session next new.session old.sink new.sink
  pub same : answer ≡ answer_of checked
  pub events : AddsEvents old.events new.events (opened name found ∷ told_of name checked)

-- The inputs of these names came to these outcomes one after the other, and the run goes on: each was validated by the session that was left
-- by the one before. After the n-th a validator that had failed was followed by one of the name n.
pub data Validates (asked : Bool) (first : Progress) : List (List ℕ) → List Outcome → Progress → Type 0 where
  begun : Validates asked first [] [] first
  one_more : {names : List (List ℕ)} {outcomes : List Outcome} {old : Progress} → Validates asked first names outcomes old
      → (name : List ℕ) (answer : Result Bool RunError) (new : Progress) → ends_run answer ≡ false
      → ChecksNamed asked name (length outcomes + 1) old new answer → Validates asked first (names ++ name ∷ []) (outcomes ++ outcome answer ∷ []) new

-- the inputs of all these names came to these outcomes, and no write failed
pub record ValidatesAll (asked : Bool) (names : List (List ℕ)) (outcomes : List Outcome) (before after : SinkView) (start end : Option (List Event)) : Type 0 where
  pub each : length outcomes ≡ length names
  pub session : History
  pub inputs : Validates asked (starting before start) names outcomes (record { session = session; sink = after; events = end })
  pub written : WritesOn before.faults after.faults

-- the inputs of the first of these names came to these outcomes, and at the last one a write failed
pub record ValidatesUntil (asked : Bool) (names : List (List ℕ)) (outcomes : List Outcome) (before after : SinkView) (start end : Option (List Event)) : Type 0 where
  pub others : List Outcome
  pub last : outcomes ≡ others ++ Fault ∷ []
  pub reached : Progress
  pub inputs : Validates asked (starting before start) (take (length others) names) others reached
  pub name : List ℕ
  pub named : slice_get names (length others) ≡ Some name
  pub session : History
  pub ended : ChecksNamed asked name (length others + 1) reached (record { session = session; sink = after; events = end }) (Err Write)
  pub failed : FailsWrite before.faults after.faults

-- the inputs of these names are validated in turn, by a session that begins under the default features
pub record ChecksInputs {Z E : Type 0} (asked : Bool) (names : List (List ℕ)) (before after : SinkView) (start end : Option (List Event)) (result : Result (Vec Outcome Z) E) : Type 0 where
  pub each : IfOk result (λ outcomes. length outcomes.items ≤ length names)
  pub whole : IfOk result (λ outcomes. ValidatesAll asked names outcomes.items before after start end ⊎ ValidatesUntil asked names outcomes.items before after start end)
  -- without memory for the outcomes nothing is opened, reported or written
  pub refused : OnErr result ((after ≡ before) × (end ≡ start))
