-- Runs that read a module, validate it and write a text on the verdict.
use Rattle.std.specs.Prelude.{◌≡◌, ◌≢◌, ◌≤◌, ◌⊎◌, ◌^◌, ℕ, List, length, Bool, Option, Result, is_ok, IfErr, IfOk, IsErrAnd, Vec}
use Rattle.std.specs.Io.KnownBytes.{Appends}
use Rattle.wasmparser_error.specs.declared.error.Error.{Error}
use Rattle.wasmparser_error.specs.declared.error.ErrorKind.TheVariants.{Memory}
use Rattle.wasmparser_validator.specs.KnownSpaces.{KnownModule}
use Rattle.wasm_gen_sessions.specs.History.{History}
use Rattle.wasm_gen_sessions.specs.Session.{Checks}
use Rattle.wasm_gen_program.specs.Device.{SinkView, SourceView}
use Rattle.wasm_gen_program.specs.Explanation.{IsExplanation, explanation_of}
use Rattle.wasm_gen_program.specs.Input.{ReadsInput, WritesOutput}
use Rattle.wasm_gen_program.specs.Report.{IsReport}
use Rattle.wasm_gen_program.specs.Transfer.{ConsumesAll, AppendsFront}
use Rattle.wasm_gen_program.specs.Verdict.{IsLine}
use Rattle.wasm_gen_program.specs.declared.error.RunError.{RunError}
use Rattle.wasm_gen_program.specs.declared.error.RunError.TheVariants as runs
use Rattle.wasm_gen_program.specs.declared.explanation.Checked.{Checked}

-- the reader's bytes are read to their end, and the session answers so on them
pub record ChecksInput (old new : History) (unread left : Option (List ℕ)) (verdict : Result KnownModule Error) : Type 0 where
  pub input : List ℕ
  pub read : ConsumesAll unread left input
  pub within : length input ≤ 2 ^ 28
  pub checked : Checks old input verdict new

-- the same where the answer is a verdict, which running out of memory is not
pub record ReachesVerdict (old new : History) (unread left : Option (List ℕ)) (verdict : Result KnownModule Error) : Type 0 where
  pub validated : ChecksInput old new unread left verdict
  pub is_verdict : IfErr verdict (λ e. e.kind ≢ Memory)

-- the answer is that memory ran out
abbrev pub IsOutOfMemory : Result KnownModule Error → Type 0
IsOutOfMemory answer = IsErrAnd answer (λ e. e.kind ≡ Memory)

-- it is that, or a yes
abbrev pub IsYesOrOutOfMemory : Result KnownModule Error → Type 0
IsYesOrOutOfMemory answer = IfErr answer (λ e. e.kind ≡ Memory)

-- the session is as it was, or has validated the reader's bytes, which were read to their end, with an answer at which a run may lack memory
abbrev pub KeepsOrRunsOut : (Result KnownModule Error → Type 0) → History → History → Option (List ℕ) → Option (List ℕ) → Type 0
KeepsOrRunsOut RunsOut old new unread left =
    (new ≡ old) ⊎ ((verdict : Result KnownModule Error) × ChecksInput old new unread left verdict × RunsOut verdict)

-- the text on the verdict on what was read is written, and nothing else
pub record WritesVerdict (IsText : Result KnownModule Error → List ℕ → Type 0) (old new : History) (unread left before after : Option (List ℕ)) (is_yes : Bool) : Type 0 where
  pub verdict : Result KnownModule Error
  pub reached : ReachesVerdict old new unread left verdict
  pub text : List ℕ
  pub is_text : IsText verdict text
  pub written : Appends before after text
  pub answer : is_yes ≡ is_ok verdict

-- the line of that verdict is written, and nothing else, and this is the answer, with the explanation of the verdict, if there is one
pub record WritesExplained (asked : Bool) (old new : History) (unread left before after : Option (List ℕ)) (checked : Checked) : Type 0 where
  pub line : WritesVerdict IsLine old new unread left before after checked.is_yes
  pub explained : IsExplanation asked old.features line.reached.validated.input line.verdict (explanation_of checked)

-- a front of that text is written, which is not all of it, and nothing else
pub record WritesFront (IsText : Result KnownModule Error → List ℕ → Type 0) (old new : History) (unread left before after : Option (List ℕ)) : Type 0 where
  pub verdict : Result KnownModule Error
  pub reached : ReachesVerdict old new unread left verdict
  pub text : List ℕ
  pub is_text : IsText verdict text
  pub written : AppendsFront before after text

-- how a call that reads a module and validates it leaves the session; at these answers it may lack memory
pub record LeavesSession {A : Type 0} (RunsOut : Result KnownModule Error → Type 0) (old new : History) (unread left : SourceView) (result : Result A RunError) : Type 0 where
  -- without a whole input it is as it was
  pub kept : IfErr result (λ e. (e ≡ runs.Read) ⊎ (e ≡ runs.TooLong) → new ≡ old)
  pub memory : IfErr result (λ e. e ≡ runs.Memory → KeepsOrRunsOut RunsOut old new unread.remaining left.remaining)
  pub features : new.features ≡ old.features
  pub id : new.id ≡ old.id

-- a module of these bytes is read, and this verdict reached
pub record ReachesOn (old new : History) (unread left : Option (List ℕ)) (bytes : List ℕ) (verdict : Result KnownModule Error) : Type 0 where
  pub reached : ReachesVerdict old new unread left verdict
  pub same : reached.validated.input ≡ bytes

-- a module is read and validated, and nothing is written
pub record ValidatesInput {Z : Type 0} (old new : History) (unread left : SourceView) (result : Result (Vec ℕ Z × Result KnownModule Error) RunError) : Type 0 where
  pub reached : IfOk result (λ it. ReachesOn old new unread.remaining left.remaining it.0.items it.1)
  pub kinds : IfErr result (λ e. (e ≡ runs.Read) ⊎ (e ≡ runs.TooLong) ⊎ (e ≡ runs.Memory))
  pub input : ReadsInput unread left result
  pub session : LeavesSession IsOutOfMemory old new unread left result

-- a module is read and validated, and the text on the verdict is written: one that fits the verdict by this relation. The answer fits what is written by another.
pub record Runs {A : Type 0} (Writes : History → History → Option (List ℕ) → Option (List ℕ) → Option (List ℕ) → Option (List ℕ) → A → Type 0)
    (IsText : Result KnownModule Error → List ℕ → Type 0) (RunsOut : Result KnownModule Error → Type 0) (old new : History) (unread left : SourceView)
    (before after : SinkView) (result : Result A RunError) : Type 0 where
  pub ok : IfOk result (Writes old new unread.remaining left.remaining before.contents after.contents)
  pub front : IfErr result (λ e. e ≡ runs.Write → WritesFront IsText old new unread.remaining left.remaining before.contents after.contents)
  -- these are all the refusals
  pub kinds : IfErr result (λ e. (e ≡ runs.Read) ⊎ (e ≡ runs.TooLong) ⊎ (e ≡ runs.Memory) ⊎ (e ≡ runs.Write))
  pub input : ReadsInput unread left result
  pub output : WritesOutput before after result
  pub session : LeavesSession RunsOut old new unread left result

-- the text is the verdict's line, for which memory is taken before the input is read
abbrev pub RunsCheck : History → History → SourceView → SourceView → SinkView → SinkView → Result Bool RunError → Type 0
RunsCheck = Runs (WritesVerdict IsLine) IsLine IsOutOfMemory

-- the same with the explanation of a no, where it is asked for
abbrev pub RunsExplained : Bool → History → History → SourceView → SourceView → SinkView → SinkView → Result Checked RunError → Type 0
RunsExplained asked = Runs (WritesExplained asked) IsLine IsOutOfMemory

-- the text is the report, which takes memory after a yes
abbrev pub RunsReport : History → History → SourceView → SourceView → SinkView → SinkView → Result Bool RunError → Type 0
RunsReport = Runs (WritesVerdict IsReport) IsReport IsYesOrOutOfMemory
