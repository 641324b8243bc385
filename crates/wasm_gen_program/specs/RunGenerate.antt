-- Runs that read a seed and write the module made of it.
use Rattle.std.specs.Prelude.{◌≡◌, ◌≢◌, ◌≤◌, ◌^◌, ℕ, List, length, Option, Vec, Result, IfErr, IfOk, OnOk}
use Rattle.std.specs.Io.KnownBytes.{Appends}
use Rattle.wasm_smith.specs.Config.{sanitized}
use Rattle.wasm_smith.specs.Parts.{Config}
use Rattle.wasm_gen_sessions.specs.Asked.{MakesLists, RefusesRightly}
use Rattle.wasm_gen_sessions.specs.Generate.{IsGeneratedFrom, IsCause}
use Rattle.wasm_gen_program.specs.Device.{SinkView, SourceView}
use Rattle.wasm_gen_program.specs.Input.{ReadsInput, WritesOutput}
use Rattle.wasm_gen_program.specs.Transfer.{ConsumesAll, AppendsFront}
use Rattle.wasm_gen_sessions.specs.declared.error.GenerateError.{GenerateError}
use Rattle.wasm_gen_sessions.specs.declared.error.GenerateError.TheVariants.{Memory}
use Rattle.wasm_gen_program.specs.declared.error.RunError.{RunError}
use Rattle.wasm_gen_program.specs.declared.error.RunError.TheVariants as runs

-- the reader's bytes are read to their end, and are a seed of these bytes
pub record MakesBytes (config : Config) (unread left : Option (List ℕ)) (bytes : List ℕ) : Type 0 where
  pub seed : List ℕ
  pub read : ConsumesAll unread left seed
  pub within : length seed ≤ 2 ^ 28
  pub given : IsGeneratedFrom (sanitized config) seed bytes
  pub lists : MakesLists (sanitized config) seed bytes

-- the bytes that are made of what was read are written, and nothing else
abbrev pub WritesModule : Config → (unread left before after : Option (List ℕ)) → Type 0
WritesModule config unread left before after = (bytes : List ℕ) × MakesBytes config unread left bytes × Appends before after bytes

-- a front of them is written, which is not all of them, and nothing else
abbrev pub WritesModuleFront : Config → (unread left before after : Option (List ℕ)) → Type 0
WritesModuleFront config unread left before after =
    (bytes : List ℕ) × MakesBytes config unread left bytes × AppendsFront before after bytes

-- the reader's bytes are read to their end, and nothing is made of them, for this reason, which is not memory
pub record RefusesSeed (config : Config) (unread left : Option (List ℕ)) (e : GenerateError) : Type 0 where
  pub seed : List ℕ
  pub read : ConsumesAll unread left seed
  pub within : length seed ≤ 2 ^ 28
  pub cause : IsCause (sanitized config) seed e
  pub rightly : RefusesRightly (sanitized config) seed e
  pub is_refusal : e ≢ Memory

-- a run's error where nothing is generated
abbrev pub run_error : GenerateError → RunError
run_error Memory = runs.Memory
run_error cause = runs.Generate cause

-- a seed is read and a module made of it, and nothing is written
pub record ReturnsModule {Z : Type 0} (config : Config) (unread left : SourceView) (result : Result (Vec ℕ Z) RunError) : Type 0 where
  pub made : IfOk result (λ bytes. MakesBytes config unread.remaining left.remaining bytes.items)
  pub no_write : IfErr result (λ e. e ≢ runs.Write)
  pub generate : IfErr result (λ e. (cause : GenerateError) → e ≡ runs.Generate cause → RefusesSeed config unread.remaining left.remaining cause)
  pub input : ReadsInput unread left result

-- a seed is read, and the bytes of a module that is made of it are written
pub record RunsGenerate {A : Type 0} (config : Config) (unread left : SourceView) (before after : SinkView) (result : Result A RunError) : Type 0 where
  pub ok : OnOk result (WritesModule config unread.remaining left.remaining before.contents after.contents)
  pub front : IfErr result (λ e. e ≡ runs.Write → WritesModuleFront config unread.remaining left.remaining before.contents after.contents)
  -- a refusal of the seed comes only with its cause
  pub generate : IfErr result (λ e. (cause : GenerateError) → e ≡ runs.Generate cause → RefusesSeed config unread.remaining left.remaining cause)
  pub input : ReadsInput unread left result
  pub output : WritesOutput before after result
