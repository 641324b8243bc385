-- Words that something is wrong with.
use Rattle.std.proofs.Common.{◌≡◌, ◌≢◌, ◌⊎◌, ◌∙◌, inl, inr, List, Result, Ok, Err, subst, sym}
use Rattle.std.specs.Prelude.{IfOk, IfErr}
use Rattle.clap.specs.Words.{IsAmong, Text, fault_of}
use Rattle.clap.specs.declared.error.kind.ErrorKind.{ErrorKind}
use Rattle.clap.specs.declared.error.kind.ErrorKind.TheVariants as kind
use Rattle.wasm_gen_program.specs.Asked.{AreRefused, AskFor, IsHelp}
use Rattle.wasm_gen_program.specs.CommandLine.{program}
use Rattle.wasm_gen_program.specs.declared.asked.Asked.{Asked}
use Rattle.wasm_gen_program.specs.declared.asked.Asked.TheVariants.{Generate, Check, Report, Help}
use Rattle.wasm_gen_program.specs.declared.asked.WordsError.{WordsError}
use Rattle.wasm_gen_program.specs.declared.asked.WordsError.TheVariants.{Wrong, Memory}

module _ (words : List Text) (k : ErrorKind) (fails : (k ≡ kind.OutOfMemory) ⊎ IsAmong k (fault_of program words)) where
  among : (other : ErrorKind) → (other ≡ kind.OutOfMemory → ⊥) → k ≡ other → IsAmong other (fault_of program words)
  among other apart is = elim fails [
    | inl memory ↦ absurd (apart (sym is ∙ memory))
    | inr one ↦ subst (λ x. IsAmong x (fault_of program words)) is one
  ]

  pub asks_for_help : (result : Result Asked WordsError) → IfOk result (λ asked. IsHelp asked × ((k ≡ kind.DisplayHelp) ⊎ (k ≡ kind.DisplayVersion))) → IfOk result (AskFor words)
  asks_for_help (Ok (Help text)) help = elim help.1 [
    | inl is ↦ inl (among kind.DisplayHelp (λ e. absurd cc) is)
    | inr is ↦ inr (among kind.DisplayVersion (λ e. absurd cc) is)
  ]
  asks_for_help (Ok (Generate name)) help = absurd help.0
  asks_for_help (Ok (Check names)) help = absurd help.0
  asks_for_help (Ok (Report name)) help = absurd help.0
  asks_for_help (Err e) help = tt

  pub is_refused : (result : Result Asked WordsError) → IfErr result (λ e. e ≢ Memory → (k ≢ kind.DisplayHelp) × (k ≢ kind.DisplayVersion)) → (k ≡ kind.OutOfMemory → result ≡ Err Memory)
      → IfErr result (AreRefused words)
  is_refused (Ok asked) wrong memory = tt
  is_refused (Err Memory) wrong memory = tt
  is_refused (Err (Wrong text)) wrong memory = elim fails [
    | inl is ↦ let bad = memory is in absurd cc
    | inr one ↦ let none = wrong (λ e. absurd cc) in (k, one, none.0, none.1)
  ]
