-- A verdict on bytes that were read, and its explanation.
use Rattle.std.proofs.Common.{◌≡◌, ◌≢◌, ◌≤◌, ◌^◌, ℕ, List, length, Bool, Option, Result, refl, sym, subst}
use Rattle.std.specs.Prelude.{IfErr, is_ok}
use Rattle.std.specs.Io.KnownBytes.{Appends}
use Rattle.wasm_spec.specs.Features.{Features}
use Rattle.wasmparser_error.specs.declared.error.Error.{Error}
use Rattle.wasmparser_error.specs.declared.error.ErrorKind.TheVariants.{Memory}
use Rattle.wasmparser_validator.specs.KnownSpaces.{KnownModule}
use Rattle.wasm_gen_sessions.specs.History.{History}
use Rattle.wasm_gen_sessions.specs.Session.{Checks}
use Rattle.wasm_gen_program.specs.Explanation.{IsExplanation, explanation_of}
use Rattle.wasm_gen_program.specs.Run.{ReachesOn, WritesExplained}
use Rattle.wasm_gen_program.specs.Transfer.{ConsumesAll}
use Rattle.wasm_gen_program.specs.Verdict.{verdict_line}
use Rattle.wasm_gen_program.specs.declared.explanation.Checked.{Checked}

module _ (old new : History) (unread left : Option (List ℕ)) (bytes : List ℕ) (verdict : Result KnownModule Error) where
  pub reached_on : (lent : List ℕ) → lent ≡ bytes → ConsumesAll unread left bytes → length bytes ≤ 2 ^ 28 → Checks old lent verdict new → IfErr verdict (λ e. e.kind ≢ Memory)
      → ReachesOn old new unread left bytes verdict
  reached_on lent are read within checked is_verdict = record {
    reached = record {
      validated = record { input = bytes; read = read; within = within; checked = subst (λ (input : List ℕ). Checks old input verdict new) are checked };
      is_verdict = is_verdict;
    };
    same = refl;
  }

  pub explained_line : (asked : Bool) (before after : Option (List ℕ)) (text : List ℕ) (features : Features) (checked : Checked) → ReachesOn old new unread left bytes verdict
      → text ≡ verdict_line verdict → Appends before after text → checked.is_yes ≡ is_ok verdict → features ≡ old.features
      → IsExplanation asked features bytes verdict (explanation_of checked) → WritesExplained asked old new unread left before after checked
  explained_line asked before after text features checked on is_line written answer same explained = record {
    line = record { verdict = verdict; reached = on.reached; text = text; is_text = is_line; written = written; answer = answer };
    explained = subst (λ (f : Features). IsExplanation asked f on.reached.validated.input verdict (explanation_of checked)) same
        (subst (λ (input : List ℕ). IsExplanation asked features input verdict (explanation_of checked)) (sym on.same) explained);
  }
