-- Passing items one after the other, up to the one in which a place is.
use Rattle.std.proofs.Common.{◌≡◌, ◌≢◌, ◌≤◌, ◌<◌, inl, inr, ℕ, List, Option, Some, None, refl, sym, subst, arith}
use Rattle.wasm_core_read.specs.Input.{Input, GoesOn}
use Rattle.wasm_core_read.specs.Reading.{ReadingOf}
use Rattle.wasm_spec.specs.Features.{Features}
use Rattle.wasmparser_error.specs.declared.error.ErrorKind.{ErrorKind}
use Rattle.wasmparser_error.specs.declared.error.ErrorKind.TheVariants as kinds
use Rattle.wasmparser_readers.specs.Answers.{HasLargeIndex, IsItemRefusal}
use Rattle.wasmparser_readers.specs.Passing.{rest_of}
use Rattle.wasm_gen_explain.specs.Items.{IsItemAt, PassesItem, Stops}
use Rattle.wasm_gen_explain.specs.Passed.{ArePassed}
use Rattle.wasm_gen_explain.proofs.PassedLaws.{all_passed, next_passed, none_yet}

-- ---- an item

-- an item that a reader refuses, but for memory, stops at a place
pub refused : {A : Type 0} (indexes : A → List ℕ) (i : Input) (kind : ErrorKind) (at offset : ℕ) (read : Option (A × List ℕ)) (Takes : Type 0) (P : Type 0) (Q : Type 0) → kind ≢ kinds.Memory
    → IsItemRefusal kind at Takes ((read ≡ None) × P) (HasLargeIndex indexes read × Q) → Stops indexes i offset read
refused indexes i kinds.Malformed at offset read Takes P Q other h = inl h.0
refused indexes i kinds.Invalid at offset read Takes P Q other h = inr (inl h.0)
refused indexes i (kinds.Limit l) at offset read Takes P Q other h = absurd h
refused indexes i kinds.Operator at offset read Takes P Q other h = absurd h
refused indexes i kinds.Body at offset read Takes P Q other h = absurd h
refused indexes i kinds.Total at offset read Takes P Q other h = absurd h
refused indexes i kinds.Order at offset read Takes P Q other h = absurd h
refused indexes i kinds.Failed at offset read Takes P Q other h = absurd h
refused indexes i kinds.Memory at offset read Takes P Q other h = absurd (other refl)

-- an item that ends past a place stops there
pub ends_past : {A : Type 0} (indexes : A → List ℕ) (old new : Input) (offset : ℕ) (v : A) (read : Option (A × List ℕ)) → read ≡ Some (v, new.rest) → GoesOn old new → offset < new.position → Stops indexes old offset read
ends_past indexes old new offset v read e g lt = subst (λ r. Stops indexes old offset r) (sym e) (inr (inr (omega (arith, lt, g.same_end))))

pub item_passed : {A : Type 0} (item_at : Features → ReadingOf A) (old new : Input) (offset : ℕ) → rest_of (item_at old.features old.rest) ≡ Some new.rest → GoesOn old new → new.position ≤ offset → PassesItem item_at offset old new
item_passed item_at old new offset e g le = record { reads = e; goes_on = g; ends = le }

pub rest_is : {A : Type 0} (read : Option (A × List ℕ)) (v : A) (rest : List ℕ) → read ≡ Some (v, rest) → rest_of read ≡ Some rest
rest_is read v rest e = rw e refl

-- (cited by passing an item)
pub ruleset item_steps = (refused, ends_past, item_passed, rest_is)

-- ---- items

-- the item in which a place is
pub found : {A : Type 0} (item_at : Features → ReadingOf A) (indexes : A → List ℕ) (count number offset : ℕ) (items now : Input) → number < count → ArePassed (PassesItem item_at offset) items number now
    → Stops indexes now offset (item_at now.features now.rest) → IsItemAt item_at indexes count items offset number
found item_at indexes count number offset items now lt passed stops = record { now = now; among = lt; passed = passed; stops = stops }

-- (cited by a loop over items)
pub ruleset item_loop = (none_yet, next_passed, found, all_passed)
