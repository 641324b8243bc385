-- Runs that make nothing of a seed.
use Rattle.std.proofs.Common.{rules, refl, ◌≡◌, ◌≢◌, ◌≤◌, ◌^◌, ℕ, List, length, Err, ◌⊎◌, inl, inr, subst}
use Rattle.wasm_smith.specs.Config.{sanitized}
use Rattle.wasm_smith.specs.Parts.{Config}
use Rattle.wasm_gen_sessions.specs.Asked.{RefusesRightly}
use Rattle.wasm_gen_sessions.specs.Generate.{IsCause}
use Rattle.wasm_gen_sessions.specs.declared.error.GenerateError.{GenerateError}
use Rattle.wasm_gen_sessions.specs.declared.error.GenerateError.TheVariants as causes
use Rattle.wasm_gen_program.specs.Device.{ReadsToEnd, SourceView}
use Rattle.wasm_gen_program.specs.RunGenerate.{ReturnsModule, run_error}
use Rattle.wasm_gen_program.specs.Transfer.{ConsumesAll}
use Rattle.wasm_gen_program.specs.declared.error.RunError.{RunError}
use Rattle.wasm_gen_program.specs.declared.error.RunError.TheVariants as runs

-- the error of a run is that nothing is made for this cause, unless memory ran out
told_cause : (cause other : GenerateError) → run_error cause ≡ runs.Generate other → (cause ≡ other) × (other ≢ causes.Memory)
told_cause (causes.Config key) other same = search rules
told_cause (causes.Shape part) other same = search rules
told_cause causes.Minimum other same = search rules
told_cause causes.EmptyChoice other same = search rules
told_cause causes.TypeSize other same = search rules
told_cause (causes.Limit passed) other same = search rules
told_cause causes.Memory other same = search rules

-- such an error is none of reading and writing
of_two : (cause : GenerateError) (e : RunError) → e ≡ run_error cause → (e ≡ runs.Memory) ⊎ ((other : GenerateError) × (e ≡ runs.Generate other))
of_two (causes.Config key) e is = inr (causes.Config key, is)
of_two (causes.Shape part) e is = inr (causes.Shape part, is)
of_two causes.Minimum e is = inr (causes.Minimum, is)
of_two causes.EmptyChoice e is = inr (causes.EmptyChoice, is)
of_two causes.TypeSize e is = inr (causes.TypeSize, is)
of_two (causes.Limit passed) e is = inr (causes.Limit passed, is)
of_two causes.Memory e is = inl is

not_read : (e : RunError) (P : Type 0) → (e ≡ runs.Memory) ⊎ ((other : GenerateError) × (e ≡ runs.Generate other)) → e ≡ runs.Read → P
not_read e P (inl is) same = cc
not_read e P (inr is) same = let told = is.1 in cc

not_too_long : (e : RunError) (P : Type 0) → (e ≡ runs.Memory) ⊎ ((other : GenerateError) × (e ≡ runs.Generate other)) → e ≡ runs.TooLong → P
not_too_long e P (inl is) same = cc
not_too_long e P (inr is) same = let told = is.1 in cc

not_write : (e : RunError) (P : Type 0) → (e ≡ runs.Memory) ⊎ ((other : GenerateError) × (e ≡ runs.Generate other)) → e ≡ runs.Write → P
not_write e P (inl is) same = cc
not_write e P (inr is) same = let told = is.1 in cc

-- A seed was read, and no module is made of it.
pub refused_run : {Z : Type 0} (config : Config) (unread left : SourceView) (seed : List ℕ) (cause : GenerateError)
    → ConsumesAll unread.remaining left.remaining seed → length seed ≤ 2 ^ 28 → ReadsToEnd unread.reads left.reads (2 ^ 29)
    → IsCause (sanitized config) seed cause → RefusesRightly (sanitized config) seed cause → ReturnsModule {Z = Z} config unread left (Err (run_error cause))
refused_run config unread left seed cause read within ended caused rightly =
    let e = run_error cause in
    let two = of_two cause e refl in
    record {
      made = tt;
      no_write = λ same. not_write e ⊥ two same;
      generate = λ other same.
          let told = told_cause cause other same in
          record {
            seed = seed;
            read = read;
            within = within;
            cause = subst (IsCause (sanitized config) seed) told.0 caused;
            rightly = subst (RefusesRightly (sanitized config) seed) told.0 rightly;
            is_refusal = told.1;
          };
      input = record {
        read = λ same. not_read e _ two same;
        too_long = λ same. not_too_long e _ two same;
        read_to_end = tt;
        read_before_write = λ same. not_write e _ two same;
        read_before_refusal = λ _ _. ended;
        unfailed_read = λ _. inr ended;
      };
    }
