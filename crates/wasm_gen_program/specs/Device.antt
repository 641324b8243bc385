-- Sources and sinks as contracts see them, and the failures that these state. One that does so may stop, as where a count can't grow,
-- and does not begin again.
use Rattle.std.specs.Prelude.{◌≡◌, ◌≢◌, ◌≤◌, ◌+◌, ◌⊎◌, ℕ, List, Option, Some, None, ⊤, MatchResult, Result}
use Rattle.std.specs.IoError.{error_kind}
use Rattle.std.specs.declared.io.Error.{Error}
use Rattle.std.specs.declared.io.ErrorKind.TheVariants.{Interrupted}

-- how many reads there were, how many of them failed other than by a signal, and how many gave no byte
pub record ReadCounts : Type 0 where
  pub asked : ℕ
  pub failed : ℕ
  pub ended : ℕ

-- what contracts see of a source: the bytes that are left, where they are known, and how many reads there were, where that is stated
pub record SourceView : Type 0 where
  pub remaining : Option (List ℕ)
  pub reads : Option ReadCounts

-- what contracts see of a sink: the bytes that it holds, where they are known, and how many writes failed or took no byte, where that is stated
pub record SinkView : Type 0 where
  pub contents : Option (List ℕ)
  pub faults : Option ℕ

-- what is stated before and after a step, which fits this relation while it is stated
abbrev pub Tells : {T : Type 0} → (T → T → Type 0) → Option T → Option T → Type 0
Tells relation old None = ⊤
Tells relation None (Some new) = ⊥
Tells relation (Some old) (Some new) = relation old new

-- a read gave so many bytes, and counts as an end where it gave none
abbrev pub CountsBytes : ReadCounts → ReadCounts → ℕ → Type 0
CountsBytes old new n = (new.failed ≡ old.failed) × (n ≡ 0 → new.ended ≡ old.ended + 1) × (n ≢ 0 → new.ended ≡ old.ended)

-- a read gave an error, and counts as failed where that is no signal
abbrev pub CountsError : ReadCounts → ReadCounts → Error → Type 0
CountsError old new e = (new.ended ≡ old.ended)
    × (error_kind e ≡ Interrupted → new.failed ≡ old.failed) × (error_kind e ≢ Interrupted → new.failed ≡ old.failed + 1)

-- one more read
abbrev pub CountsRead : Option ReadCounts → Option ReadCounts → Result ℕ Error → Type 0
CountsRead before after result = Tells (λ old new. (new.asked ≡ old.asked + 1)
    × MatchResult result (CountsBytes old new) (CountsError old new)) before after

-- one more write, which counts as failed where it failed or took no byte
abbrev pub CountsWrite : Option ℕ → Option ℕ → Result ℕ Error → Type 0
CountsWrite before after result =
    Tells (λ old new. MatchResult result (λ n. (n ≡ 0 → new ≡ old + 1) × (n ≢ 0 → new ≡ old)) (λ _. new ≡ old + 1)) before after

-- there were so many more reads, and none of them failed or gave no byte
abbrev pub ReadsOn : Option ReadCounts → Option ReadCounts → ℕ → Type 0
ReadsOn before after turns =
    Tells (λ old new. (new.asked ≡ old.asked + turns) × (new.failed ≡ old.failed) × (new.ended ≡ old.ended)) before after

-- there was one more read, and it failed
abbrev pub FailsRead : Option ReadCounts → Option ReadCounts → Type 0
FailsRead before after =
    Tells (λ old new. (new.asked ≡ old.asked + 1) × (new.failed ≡ old.failed + 1) × (new.ended ≡ old.ended)) before after

-- there was one more read, and it gave no byte
abbrev pub EndsRead : Option ReadCounts → Option ReadCounts → Type 0
EndsRead before after =
    Tells (λ old new. (new.asked ≡ old.asked + 1) × (new.failed ≡ old.failed) × (new.ended ≡ old.ended + 1)) before after

-- there were at most so many more reads, of which one gave no byte and none failed
abbrev pub ReadsToEnd : Option ReadCounts → Option ReadCounts → ℕ → Type 0
ReadsToEnd before after turns =
    Tells (λ old new. (new.asked ≤ old.asked + turns) × (new.failed ≡ old.failed) × (new.ended ≡ old.ended + 1)) before after

-- there were at most so many more reads, and none of them failed or gave no byte
abbrev pub ReadsWithin : Option ReadCounts → Option ReadCounts → ℕ → Type 0
ReadsWithin before after turns =
    Tells (λ old new. (new.asked ≤ old.asked + turns) × (new.failed ≡ old.failed) × (new.ended ≡ old.ended)) before after

-- there were at most so many more reads, of which one failed, or just so many, of which none did; none gave no byte
abbrev pub FailsOrTires : Option ReadCounts → Option ReadCounts → ℕ → Type 0
FailsOrTires before after turns = Tells (λ old new. (((new.asked ≤ old.asked + turns) × (new.failed ≡ old.failed + 1))
    ⊎ ((new.asked ≡ old.asked + turns) × (new.failed ≡ old.failed))) × (new.ended ≡ old.ended)) before after

-- no more write failed
abbrev pub WritesOn : Option ℕ → Option ℕ → Type 0
WritesOn before after = Tells (λ old new. new ≡ old) before after

-- one more write failed
abbrev pub FailsWrite : Option ℕ → Option ℕ → Type 0
FailsWrite before after = Tells (λ old new. new ≡ old + 1) before after
