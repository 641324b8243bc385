-- Passing parts one after the other.
use Rattle.std.proofs.Common.{◌≡◌, ◌≤◌, ℕ, suc, ◌+◌, subst, arith}
use Rattle.wasm_gen_explain.specs.Passed.{ArePassed, none, one_more}

pub none_yet : {S : Type 0} (Passes : S → S → Type 0) (start : S) → ArePassed Passes start 0 start
none_yet Passes start = none

pub next_passed : {S : Type 0} (Passes : S → S → Type 0) (start old new : S) (number : ℕ) → ArePassed Passes start number old → Passes old new → ArePassed Passes start (number + 1) new
next_passed Passes start old new number passed step =
    let next : suc number ≡ number + 1 = omega arith in
    subst (λ (k : ℕ). ArePassed Passes start k new) next (one_more new passed step)

pub all_passed : {S : Type 0} (Passes : S → S → Type 0) (start now : S) (count number : ℕ) → number ≤ count → count ≤ number → ArePassed Passes start number now → ArePassed Passes start count now
all_passed Passes start now count number le ge passed =
    let same : number ≡ count = omega (arith, le, ge) in
    subst (λ (k : ℕ). ArePassed Passes start k now) same passed

-- what each part keeps is kept
pub kept : {S : Type 0} (Passes : S → S → Type 0) (P : S → Type 0) (start now : S) (number : ℕ) → ((old new : S) → Passes old new → P old → P new) → P start → ArePassed Passes start number now → P now
kept Passes P start now number step first none = first
kept Passes P start now number step first (one_more {old = old} new passed next) = step old new next (kept Passes P start old _ step first passed)
