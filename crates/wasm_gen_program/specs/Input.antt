-- Results of calls that read a whole input, which has at most 2^28 bytes and takes at most 2^29 reads.
use Rattle.std.specs.Prelude.{◌≡◌, ◌≢◌, ◌⊎◌, ◌^◌, Result, IfErr, OnOk}
use Rattle.std.specs.Io.KnownBytes.{Keeps}
use Rattle.wasm_gen_sessions.specs.declared.error.GenerateError.{GenerateError}
use Rattle.wasm_gen_program.specs.Device.{FailsOrTires, FailsWrite, ReadsToEnd, ReadsWithin, SinkView, SourceView, WritesOn}
use Rattle.wasm_gen_program.specs.Transfer.{ConsumesMore}
use Rattle.wasm_gen_program.specs.declared.error.RunError.{RunError}
use Rattle.wasm_gen_program.specs.declared.error.RunError.TheVariants.{Generate, Memory, Read, TooLong, Write}

-- what a call that reads a whole input says of the reads
pub record ReadsInput {A : Type 0} (unread left : SourceView) (result : Result A RunError) : Type 0 where
  -- each refusal of the input comes only with its cause
  pub read : IfErr result (λ e. e ≡ Read → FailsOrTires unread.reads left.reads (2 ^ 29))
  pub too_long : IfErr result (λ e. e ≡ TooLong → ConsumesMore unread.remaining left.remaining (2 ^ 28))
  -- no failed read is passed over
  pub read_to_end : OnOk result (ReadsToEnd unread.reads left.reads (2 ^ 29))
  pub read_before_write : IfErr result (λ e. e ≡ Write → ReadsToEnd unread.reads left.reads (2 ^ 29))
  pub read_before_refusal : IfErr result (λ e. (cause : GenerateError) → e ≡ Generate cause → ReadsToEnd unread.reads left.reads (2 ^ 29))
  pub unfailed_read : IfErr result (λ e. (e ≡ TooLong) ⊎ (e ≡ Memory)
      → ReadsWithin unread.reads left.reads (2 ^ 29) ⊎ ReadsToEnd unread.reads left.reads (2 ^ 29))

-- what a call that writes bytes whole, once it has them, says of the writes
pub record WritesOutput {A : Type 0} (before after : SinkView) (result : Result A RunError) : Type 0 where
  -- without bytes nothing is written
  pub nothing : IfErr result (λ e. e ≢ Write → Keeps before.contents after.contents)
  -- a refusal comes only with its cause
  pub write : IfErr result (λ e. e ≡ Write → FailsWrite before.faults after.faults)
  -- no failed write is passed over
  pub written : OnOk result (WritesOn before.faults after.faults)
  pub unfailed_write : IfErr result (λ e. e ≢ Write → WritesOn before.faults after.faults)
